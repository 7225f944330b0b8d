use Rattle.std.proofs.Common.{None, ap, ◌∙◌, map}
use Rattle.netlist.specs.Netlist.{in_order}
use Rattle.netlist.specs.Standing.{left}
use Rattle.netlist.proofs.Used.{standing_used}
use Rattle.netlist.proofs.slots.Slots.in_order.Goals as goal

pub loop-value-init : goal.loop-value-init
loop-value-init g c =
    let s = c.args.self.now in
    let e = ap left c.into_iter-value-iterator.ensures.into_iter_gives ∙ c.standing-value-items.ensures in
    ap (in_order g.T.Slot.comes_after None) (ap (map (λ p. p.1)) e ∙ standing_used s.map 0 s.values)
