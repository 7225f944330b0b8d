-- What a fault says: its refusal, its block and its first byte. Assumes nothing.
use Rattle.std.specs.Prelude.{ℕ, List, ◌++◌, codes}
use Rattle.std.specs.Fmt.{decimal}
use Rattle.netlist.specs.Refusals.{number, reason}
use Rattle.netlist.specs.declared.refusal.Refusal.{Refusal}
use Rattle.netlist.specs.declared.refusal.Refusal.TheVariants as refusal
use Rattle.faults.specs.declared.BlockFault.{BlockFault}
use Rattle.faults.specs.declared.BlockFault.TheVariants.{Map, Field}
use Rattle.faults.specs.declared.RecordFault.{RecordFault}
use Rattle.faults.specs.declared.RecordFault.TheVariants.{Block, BytesFollow}

abbrev pub block_refusal : BlockFault → Refusal
block_refusal (Map why at) = why
block_refusal (Field f) = f.refusal

abbrev pub block_place : BlockFault → ℕ
block_place (Map why at) = at
block_place (Field f) = f.at

abbrev pub refusal_of : RecordFault → Refusal
refusal_of (Block b f) = block_refusal f
refusal_of (BytesFollow b at) = refusal.BytesFollow

abbrev pub block_of : RecordFault → ℕ
block_of (Block b f) = b
block_of (BytesFollow b at) = b

abbrev pub place_of : RecordFault → ℕ
place_of (Block b f) = block_place f
place_of (BytesFollow b at) = at

-- a fault's text: the number, the place and the reason
abbrev pub text : RecordFault → List ℕ
text f =
    decimal (number (refusal_of f)) ++ codes " in block " ++ decimal (block_of f) ++ codes " at byte " ++ decimal (place_of f)
    ++ codes ": " ++ reason (refusal_of f)
