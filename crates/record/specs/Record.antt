-- The whole record: what it reads as, and the one record of a design. Assumes nothing.
use Rattle.std.specs.Prelude.{ℕ, zero, suc, ◌+◌, if◌then◌else◌, List, [], ◌∷◌, ◌++◌, length, Ok, Err, Result, nat_lt}
use Rattle.netlist.specs.declared.slots.Slots.{Slots}
use Rattle.netlist.specs.declared.parts.Choice.{Choice}
use Rattle.netlist.specs.declared.parts.Net.{Net}
use Rattle.netlist.specs.Slots.{bit, Supplies, Menu}
use Rattle.netlist.specs.Netlist.{Netlist, netlist, modules, is_zero}
use Rattle.faults.specs.declared.BlockFault.{BlockFault}
use Rattle.faults.specs.declared.RecordFault.{RecordFault}
use Rattle.faults.specs.declared.RecordFault.TheVariants.{Block, BytesFollow}
use Rattle.record.specs.Steps.{Read, then_read, inside, ahead}
use Rattle.record.specs.Fields.{spelled}
use Rattle.record.specs.Blocks.{head_block, supplies_block, menu_block, net_block}

-- as many blocks of one kind as are told, the first of which is block b
unfoldable pub blocks : {T : Type 0} → (ℕ → Read T BlockFault) → ℕ → ℕ → ℕ → Read (List T) RecordFault
blocks one zero b at = Ok ([], at)
blocks one (suc k) b at = then_read (inside (Block b) (one at)) (λ x. ahead x.0 (blocks one k (b + 1) x.1))

-- 2 where bytes follow the last block
abbrev pub ended : List ℕ → ℕ → ℕ → Netlist → Result Netlist RecordFault
ended bytes b at n = if nat_lt at (length bytes) then Err (BytesFollow b at) else Ok n

-- The blocks in their order: head, supplies, modules, nets, the end.
abbrev pub reads_as : List ℕ → Result Netlist RecordFault
reads_as bytes =
    then_read (inside (Block 0) (head_block bytes 0)) (λ h.
    then_read (inside (Block 1) (supplies_block bytes h.1)) (λ s.
    then_read (blocks (menu_block s.0.map bytes) h.0.modules 2 s.1) (λ ms.
    then_read (blocks (net_block h.0.modules bytes) h.0.nets (2 + h.0.modules) ms.1) (λ ns.
    ended bytes (2 + h.0.modules + h.0.nets) ns.1 (netlist h.0.terms s.0 ms.0 ns.0)))))

-- whether a record is taken, and what a draft then holds
abbrev pub taken : Result Netlist RecordFault → Result (Unit {0}) RecordFault
taken (Ok n) = Ok tt
taken (Err f) = Err f

abbrev pub replaced : Result Netlist RecordFault → Netlist → Netlist
replaced (Ok n) old = n
replaced (Err f) old = old

-- Writing: a field stands only where it says something
abbrev pub bit_unless_zero : ℕ → ℕ → ℕ
bit_unless_zero weight n = if is_zero n then 0 else weight

abbrev pub spelled_unless_zero : ℕ → ℕ → List ℕ
spelled_unless_zero width n = if is_zero n then [] else spelled width n

abbrev pub head_bytes : Netlist → List ℕ
head_bytes n =
    (1 + bit_unless_zero 2 n.terms.shifter.delay + bit_unless_zero 4 n.terms.shifter.power
    + bit_unless_zero 8 (modules n) + bit_unless_zero 16 (length n.nets))
    ∷ (spelled 4 n.terms.cycle
    ++ (spelled_unless_zero 2 n.terms.shifter.delay
    ++ (spelled_unless_zero 2 n.terms.shifter.power
    ++ (spelled_unless_zero 1 (modules n) ++ spelled_unless_zero 2 (length n.nets)))))

abbrev pub slot_bytes : {T : Type 0} → (T → List ℕ) → ℕ → ℕ → List T → List ℕ
slot_bytes spell map i [] = []
slot_bytes spell map i (x ∷ xs) = (if bit map i then spell x else []) ++ slot_bytes spell map (i + 1) xs

-- a table: its map, and what stands at its used places
abbrev pub table_bytes : {T : Type 0} → (T → List ℕ) → Slots T → List ℕ
table_bytes spell t = t.map ∷ slot_bytes spell t.map 0 t.values

abbrev pub supplies_bytes : Supplies → List ℕ
supplies_bytes s = table_bytes (spelled 2) s

abbrev pub choice_bytes : Choice → List ℕ
choice_bytes c = spelled 2 c.delay ++ spelled 4 c.power

abbrev pub menu_bytes : Menu → List ℕ
menu_bytes m = table_bytes choice_bytes m

abbrev pub net_bytes : Net → List ℕ
net_bytes t =
    (3 + bit_unless_zero 4 t.wire) ∷ (spelled 1 t.driver ++ (spelled 1 t.receiver ++ spelled_unless_zero 2 t.wire))

abbrev pub all_bytes : {T : Type 0} → (T → List ℕ) → List T → List ℕ
all_bytes spell [] = []
all_bytes spell (x ∷ xs) = spell x ++ all_bytes spell xs

-- The one record of a design
abbrev pub record_of : Netlist → List ℕ
record_of n = head_bytes n ++ (supplies_bytes n.supplies ++ (all_bytes menu_bytes n.menus ++ all_bytes net_bytes n.nets))
