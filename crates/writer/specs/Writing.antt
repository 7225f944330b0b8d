-- Writing the record of a design into a buffer. Assumes nothing.
use Rattle.std.specs.Prelude.{ℕ, List, [], ◌∷◌, ◌++◌, length, drop, nat_lt}
use Rattle.netlist.specs.Netlist.{Netlist}
use Rattle.netlist.specs.Refusals.{Rule}
use Rattle.record.specs.Record.{record_of}

-- 24 where the buffer is shorter than the record
abbrev pub write_rules : Netlist → List ℕ → List Rule
write_rules n out = (24, nat_lt (length out) (length (record_of n))) ∷ []

-- the record in front, and every other byte kept
abbrev pub with_record : Netlist → List ℕ → List ℕ
with_record n out = record_of n ++ drop (length (record_of n)) out
