-- What stands on a sheet. Assumes nothing.
use Rattle.std.specs.Prelude.{Ok, Err, Result}
use Rattle.netlist.specs.Netlist.{Netlist, netlist}
use Rattle.faults.specs.declared.RecordFault.{RecordFault}
use Rattle.record.specs.declared.sheet.Sheet.{Sheet}

abbrev pub design : Sheet → Netlist
design s = netlist s.terms s.supplies s.menus.now s.nets.now

abbrev pub designed : Result Sheet RecordFault → Result Netlist RecordFault
designed (Ok s) = Ok (design s)
designed (Err f) = Err f
