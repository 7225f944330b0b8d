use Rattle.std.proofs.Common.{◌≡◌, take}
use Rattle.netlist.specs.Netlist.{netlist}
use Rattle.netlist.specs.View.{drawn}
use Rattle.record.proofs.fill.fill_menus.Given as goal

abbrev pub invariant-loop-menu : goal.invariant-loop-menu
invariant-loop-menu l =
    drawn l.draft ≡ netlist (drawn l.initial.draft).terms (drawn l.initial.draft).supplies (take l.menu-index l.menus) (drawn l.initial.draft).nets
