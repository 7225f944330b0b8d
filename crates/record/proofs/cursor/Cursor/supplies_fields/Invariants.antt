use Rattle.std.proofs.Common.{◌≡◌}
use Rattle.record.specs.Blocks.{voltage_entry}
use Rattle.record.proofs.Filled.{Reading}
use Rattle.record.proofs.cursor.Cursor.supplies_fields.Given as goal

abbrev pub invariant-loop-field : goal.invariant-loop-field
invariant-loop-field l =
    (l.self.bytes ≡ l.initial.self.bytes)
    × Reading 0 2 (voltage_entry l.initial.self.bytes.now) l.map l.initial.self.at l._field l.left l.voltages l.last l.self.at
