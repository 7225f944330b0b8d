use Rattle.std.proofs.Common.{◌≡◌, true, length, ltb}
use Rattle.std.specs.List.{list_all}
use Rattle.netlist.specs.Netlist.{no_choice}
use Rattle.netlist.specs.Slots.{cleared}
use Rattle.netlist.specs.Standing.{left}
use Rattle.netlist.proofs.Used.{fill}
use Rattle.netlist.proofs.menu.Menu.trimmed.Given as goal

abbrev pub invariant-loop-i : goal.invariant-loop-i
invariant-loop-i l = record {
  eight : length l.values ≡ 8;
  within : list_all (λ p. ltb p.0 8) (left l.i-iterator) ≡ true;
  filled : fill l.values (left l.i-iterator) ≡ cleared no_choice l.self.map 0 l.self.values;
}
