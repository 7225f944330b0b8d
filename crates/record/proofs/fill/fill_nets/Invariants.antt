use Rattle.std.proofs.Common.{◌≡◌, take}
use Rattle.netlist.specs.Netlist.{netlist}
use Rattle.netlist.specs.View.{drawn}
use Rattle.record.proofs.fill.fill_nets.Given as goal

abbrev pub invariant-loop-net : goal.invariant-loop-net
invariant-loop-net l =
    drawn l.draft ≡ netlist (drawn l.initial.draft).terms (drawn l.initial.draft).supplies (drawn l.initial.draft).menus (take l.net-index l.nets)
