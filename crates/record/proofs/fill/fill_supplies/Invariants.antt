use Rattle.std.proofs.Common.{◌≡◌}
use Rattle.netlist.specs.Netlist.{netlist}
use Rattle.netlist.specs.Standing.{left}
use Rattle.netlist.specs.View.{drawn}
use Rattle.record.proofs.Refilled.{Accepts, with_all}
use Rattle.record.proofs.fill.fill_supplies.Given as goal

abbrev pub invariant-loop-number : goal.invariant-loop-number
invariant-loop-number l = record {
  accepted : Accepts (drawn l.draft) (left l.number-iterator);
  whole : with_all (drawn l.draft) (left l.number-iterator) ≡ netlist (drawn l.initial.draft).terms l.fn.supplies (drawn l.initial.draft).menus (drawn l.initial.draft).nets;
}
