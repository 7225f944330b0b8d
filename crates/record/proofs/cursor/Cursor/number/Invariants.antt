use Rattle.std.proofs.Common.{◌≡◌, ◌+◌, ◌-◌, ◌*◌, ◌^◌, ◌<◌}
use Rattle.record.specs.Fields.{number}
use Rattle.record.proofs.cursor.Cursor.number.Given as goal

-- what is left to read completes the number
abbrev pub invariant-loop-byte : goal.invariant-loop-byte
invariant-loop-byte l =
    (l.n < 256 ^ l.byte-index)
    × (256 ^ (l.width - l.byte-index) * l.n + number (l.width - l.byte-index) l.self.bytes.now (l.at + l.byte-index) ≡ number l.width l.self.bytes.now l.at)
