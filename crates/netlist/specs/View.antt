-- What a design stands for. Assumes nothing.
use Rattle.std.specs.Prelude.{vec_items}
use Rattle.netlist.specs.declared.design.Design.{Design}
use Rattle.netlist.specs.declared.design.draft.Draft.{Draft}
use Rattle.netlist.specs.Netlist.{Netlist, netlist}

abbrev pub view : Design → Netlist
view d = netlist d.terms d.supplies (vec_items d.menus) d.nets

abbrev pub drawn : Draft → Netlist
drawn d = view d.design
