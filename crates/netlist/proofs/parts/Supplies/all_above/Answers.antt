use Rattle.std.proofs.Common.{◌∙◌, ltb, rules, tests}
use Rattle.std.proofs.lemmas.Iterator.Consumers.{YieldsList-from_first}
use Rattle.std.proofs.lemmas.Iterator.Search.{all_from_yields_List}
use Rattle.netlist.specs.Slots.{used}
use Rattle.netlist.specs.Standing.{left}
use Rattle.netlist.proofs.Used.{list_all_used}
use Rattle.netlist.proofs.parts.Supplies.all_above.Goals as goal

pub returns : goal.returns
returns c =
    let s = c.args.self.now in
    let above = ltb c.args.voltage in
    all_from_yields_List (λ p. above p.1) c.all.new.self _ c.all.result c.all.ensures.ran (YieldsList-from_first (λ x. x) left {s = c.standing.result} (used s.map 0 s.values) c.standing.ensures) (λ x b q k. search (rules, tests))
    ∙ list_all_used above s.map 0 s.values
