use Rattle.std.proofs.Common.{◌≡◌, ℕ, List, length, sym, ap, ◌∙◌, subst}
use Rattle.netlist.specs.Netlist.{netlist}
use Rattle.netlist.specs.Slots.{used, Supplies}
use Rattle.netlist.specs.Standing.{left}
use Rattle.netlist.specs.View.{drawn}
use Rattle.record.proofs.Refilled.{Accepts, with_all, supplies_filled}
use Rattle.record.proofs.fill.fill_supplies.Goals as goal

pub loop-number-init : goal.loop-number-init
loop-number-init c =
    let n = drawn c.args.draft.now in
    let s = c.args.supplies in
    let whole = netlist n.terms s n.menus n.nets in
    let e = ap left c.into_iter-number-iterator.ensures.into_iter_gives ∙ c.standing-number-items.ensures in
    let F : Supplies → List (ℕ × ℕ) → Type 0 = λ x ps. Accepts (netlist n.terms x n.menus n.nets) ps × (with_all (netlist n.terms x n.menus n.nets) ps ≡ whole) in
    let r = supplies_filled s c.requires.lawful n.terms n.menus n.nets (ap length c.requires.early) in
    let p : F n.supplies (left c.into_iter-number-iterator.result) = subst (F n.supplies) (sym e) (subst (λ x. F x (used s.map 0 s.values)) (sym c.requires.none) r) in
    record { accepted = p.0; whole = p.1 }
