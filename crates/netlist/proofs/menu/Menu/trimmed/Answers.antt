use Rattle.std.proofs.Common.{◌≡◌, length, replicate, ltb, refl, sym, ap, ◌∙◌, arith}
use Rattle.std.specs.List.{list_all}
use Rattle.netlist.specs.Netlist.{no_choice}
use Rattle.netlist.specs.Slots.{used}
use Rattle.netlist.specs.Standing.{left}
use Rattle.netlist.proofs.Used.{fill, fill_cleared, used_within}
use Rattle.netlist.proofs.menu.Menu.trimmed.Goals as goal

pub loop-i-init : goal.loop-i-init
loop-i-init c =
    let s = c.args.self.now in
    let l : length s.values ≡ 8 = omega arith in
    let e = ap left c.into_iter-i-iterator.ensures.into_iter_gives ∙ c.standing-i-items.ensures in
    record {
      eight = refl;
      within = ap (list_all (λ p. ltb p.0 8)) e ∙ used_within s.map 0 8 s.values (omega arith);
      filled = ap (fill (replicate 8 no_choice)) e ∙ ap (λ n. fill (replicate n no_choice) (used s.map 0 s.values)) (sym l) ∙ fill_cleared no_choice s.map s.values;
    }
