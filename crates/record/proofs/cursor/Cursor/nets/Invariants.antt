use Rattle.std.proofs.Common.{◌≡◌, length}
use Rattle.record.specs.Blocks.{net_block}
use Rattle.record.proofs.Gathered.{Gathering}
use Rattle.record.proofs.cursor.Cursor.nets.Given as goal

abbrev pub invariant-loop-i : goal.invariant-loop-i
invariant-loop-i l =
    (l.self.bytes ≡ l.initial.self.bytes)
    × Gathering (net_block l.modules l.initial.self.bytes.now) (length l.initial.places) l.first l.initial.self.at l.i-counter l.places l.self.at
