use Rattle.std.proofs.Common.{◌≡◌, true, List, [], ◌∷◌, ◌++◌, vec_items, ap, ◌∙◌, arith, rules}
use mathlib.Core.Path.{subst⁻¹}
use Rattle.std.proofs.lemmas.Bool.Decides.{nat_tests}
use Rattle.netlist.specs.Calls.{menu_of}
use Rattle.netlist.specs.Netlist.{names_supplies, lawful, netlist}
use Rattle.netlist.specs.View.{drawn}
use Rattle.netlist.proofs.Kept.{lawful_module}
use Rattle.netlist.proofs.design.draft.Draft.module.Goals as goal
use Rattle.netlist.specs.Slots.{Menu}

pub invariant_of-self : goal.invariant_of-self
invariant_of-self c =
    let s = c.args.self.now in
    let n = drawn s in
    let F : List Menu → Type 0 = λ ms. lawful (netlist n.terms n.supplies ms n.nets) ≡ true in
    let a : names_supplies n.supplies.map c.args.map ≡ true = grind (arith, nat_tests) in
    let k = lawful_module n c.args.map c.args.choices.now s.design.ok (omega arith) (search rules) (search rules) a (omega arith) in
    let m = menu_of c.args.map c.args.choices.now in
    let e : vec_items c.push_reserved.new.self ≡ n.menus ++ m ∷ [] =
    c.push_reserved.ensures.items ∙ ap (λ x. n.menus ++ x ∷ []) c.trimmed.ensures in
    record {
      room = search rules;
      ok = subst⁻¹ F {x = vec_items c.push_reserved.new.self} {y = n.menus ++ m ∷ []} e k;
    }
