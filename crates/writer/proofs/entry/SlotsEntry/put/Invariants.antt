use Rattle.std.proofs.Common.{◌≡◌, ◌++◌}
use Rattle.netlist.specs.Standing.{left}
use Rattle.record.specs.Record.{all_bytes, slot_bytes}
use Rattle.writer.proofs.entry.SlotsEntry.put.Given as goal

-- what is left to put completes the table
abbrev pub invariant-loop-entry : goal.invariant-loop-entry
invariant-loop-entry g l =
    l.page.items ++ all_bytes (λ p. g.T.Entry.bytes p.1) (left l.entry-iterator)
    ≡ l.initial.page.items ++ slot_bytes g.T.Entry.bytes l.self.map 0 l.self.values
