-- What an assignment stands for. Assumes nothing.
use Rattle.std.specs.Prelude.{ℕ, List}
use Rattle.netlist.specs.Netlist.{Netlist}
use Rattle.netlist.specs.View.{view}
use Rattle.timing.specs.declared.assignment.Assignment.{Assignment}

-- the design that it is of
abbrev pub planned : Assignment → Netlist
planned x = view x.design.now

-- the supplies that it names
abbrev pub named : Assignment → List ℕ
named x = x.supplies.now
