use Rattle.std.proofs.Common.{◌≡◌, None, map}
use Rattle.netlist.specs.Netlist.{in_order}
use Rattle.netlist.specs.Slots.{standing}
use Rattle.netlist.specs.Standing.{left}
use Rattle.netlist.proofs.slots.Slots.in_order.Given as goal

abbrev pub invariant-loop-value : goal.invariant-loop-value
invariant-loop-value g l =
    in_order g.T.Slot.comes_after l.last (map (λ p. p.1) (left l.value-iterator))
    ≡ in_order g.T.Slot.comes_after None (standing l.self.map 0 l.self.values)
