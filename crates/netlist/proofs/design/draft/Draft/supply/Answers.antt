use Rattle.std.proofs.Common.{◌≡◌, ℕ, ◌+◌, true, set, arith, rules}
use mathlib.Core.Path.{subst⁻¹}
use Rattle.std.proofs.lemmas.Nat.{one_shl}
use Rattle.netlist.specs.Netlist.{lawful, netlist}
use Rattle.netlist.specs.View.{drawn}
use Rattle.netlist.proofs.Kept.{lawful_supply}
use Rattle.netlist.proofs.design.draft.Draft.supply.Goals as goal

pub invariant_of-self : goal.invariant_of-self
invariant_of-self c =
    let s = c.args.self.now in
    let n = drawn s in
    let i = c.args.number in
    let v = c.args.voltage in
    let F : ℕ → Type 0 = λ p. lawful (netlist n.terms (record { map = n.supplies.map + p; values = set n.supplies.values i v }) n.menus n.nets) ≡ true in
    let k = lawful_supply n i v s.design.ok (omega arith) (search rules) (search rules) (search rules) (omega arith) in
    record {
      room = search rules;
      ok = subst⁻¹ F (one_shl i 8 (omega arith)) k;
    }
