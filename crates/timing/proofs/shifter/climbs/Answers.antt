use Rattle.std.proofs.Common.{◌≡◌, ℕ, get_or, ltb, sym, ap, ◌∙◌, ap₂}
use Rattle.netlist.specs.Rules.{voltage}
use Rattle.netlist.specs.Slots.{Supplies}
use Rattle.netlist.specs.View.{view}
use Rattle.timing.proofs.Shifters.{climbs_higher}
use Rattle.timing.proofs.shifter.climbs.Goals as goal

pub returns : goal.returns
returns c =
    let n = view c.args.design.now in
    let at : (i : ℕ) → get_or c.supplies-supplies.result.values i 0 ≡ voltage n i = λ i. ap (λ (s : Supplies). get_or s.values i 0) c.supplies-supplies.ensures in
    ap₂ ltb (c.voltage.ensures ∙ at c.args.from) (c.voltage-2.ensures ∙ at c.args.to) ∙ sym (climbs_higher n c.args.from c.args.to)
