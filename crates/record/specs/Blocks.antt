-- The blocks of a record, as they are read: a map byte, then the fields of its bits, lowest first. Assumes nothing.
use Rattle.std.specs.Prelude.{ℕ, zero, suc, ◌+◌, Bool, if◌then◌else◌, ◌&&◌, List, [], length, Some, None, Ok, Err, Option, Result, nat_le, nat_lt, slice_index}
use Rattle.netlist.specs.declared.parts.Choice.{Choice}
use Rattle.netlist.specs.declared.parts.Net.{Net}
use Rattle.netlist.specs.declared.refusal.Refusal.{Refusal}
use Rattle.netlist.specs.declared.refusal.Refusal.TheVariants.{EndsEarly, WrongMap, Limit, Order, WrongMenu, WrongEnds}
use Rattle.netlist.specs.Slots.{bit, Supplies, Menu}
use Rattle.netlist.specs.Netlist.{voltage_in_limits, voltage_follows, choice_in_limits, choice_follows, no_choice, names_supplies, joins}
use Rattle.netlist.specs.Calls.{terms_of, net_of}
use Rattle.faults.specs.declared.FieldFault.{FieldFault}
use Rattle.faults.specs.declared.BlockFault.{BlockFault}
use Rattle.faults.specs.declared.BlockFault.TheVariants.{Map, Field}
use Rattle.record.specs.declared.head.Head.{Head}
use Rattle.record.specs.Steps.{Read, then_read, inside, ahead}
use Rattle.record.specs.Fields.{field_fault, field, number, required, optional}

-- a map: 1 where there is none
abbrev pub map_byte : List ℕ → ℕ → Result ℕ BlockFault
map_byte bytes at = if nat_le (length bytes) at then Err (Map EndsEarly at) else Ok (slice_index bytes at)

-- a map that is refused when it is read
abbrev pub fine_map : (ℕ → Bool) → Refusal → List ℕ → ℕ → Result ℕ BlockFault
fine_map fine why bytes at = then_read (map_byte bytes at) (λ map. if fine map then Ok map else Err (Map why at))

-- A block: its map, then its fields, each of which may be refused.
abbrev pub block : {T : Type 0} → (ℕ → Bool) → Refusal → (ℕ → ℕ → Read T FieldFault) → List ℕ → ℕ → Read T BlockFault
block fine why fields bytes at = then_read (fine_map fine why bytes at) (λ map. inside Field (fields map (at + 1)))

-- A table under a map, k places from place i on: at each bit that stands a field is read, after the latest value before it;
-- where no bit stands there is nothing.
unfoldable pub slots : {T : Type 0} → T → ℕ → (Option T → ℕ → Result T FieldFault) → ℕ → ℕ → ℕ → Option T → ℕ → Read (List T) FieldFault
slots none width entry zero map i last at = Ok ([], at)
slots none width entry (suc k) map i last at =
    if bit map i
    then then_read (entry last at) (λ x. ahead x (slots none width entry k map (i + 1) (Some x) (at + width)))
    else ahead none (slots none width entry k map (i + 1) last at)

-- 5 before 6
abbrev pub checked : {T : Type 0} → (T → Bool) → (Option T → T → Bool) → Option T → ℕ → T → Result T FieldFault
checked fine follows last at x =
    if fine x then (if follows last x then Ok x else Err (field_fault Order at)) else Err (field_fault Limit at)

-- Head: cycle time (4 bytes, required), shifter delay (2), shifter power (2), modules (1), nets (2)
abbrev pub head_map : ℕ → Bool
head_map map = bit map 0 && nat_lt map 32

abbrev pub head_fields : List ℕ → ℕ → ℕ → Read Head FieldFault
head_fields bytes map at =
    then_read (required 4 1 2000000 bytes at) (λ c.
    then_read (optional (bit map 1) 2 10000 bytes c.1) (λ d.
    then_read (optional (bit map 2) 2 10000 bytes d.1) (λ p.
    then_read (optional (bit map 3) 1 64 bytes p.1) (λ m.
    then_read (optional (bit map 4) 2 256 bytes m.1) (λ n.
    Ok (record { terms = terms_of c.0 d.0 p.0; modules = m.0; nets = n.0 }, n.1))))))

abbrev pub head_block : List ℕ → ℕ → Read Head BlockFault
head_block bytes = block head_map WrongMap (head_fields bytes) bytes

-- Supplies: bit i, 2 bytes
abbrev pub any_map : ℕ → Bool
any_map map = nat_lt map 256

abbrev pub voltage_entry : List ℕ → Option ℕ → ℕ → Result ℕ FieldFault
voltage_entry bytes last at = then_read (field 2 bytes at) (checked voltage_in_limits voltage_follows last at)

abbrev pub supplies_read : ℕ → Read (List ℕ) FieldFault → Read Supplies FieldFault
supplies_read map (Ok r) = Ok (record { map = map; values = r.0 }, r.1)
supplies_read map (Err e) = Err e

abbrev pub supplies_fields : List ℕ → ℕ → ℕ → Read Supplies FieldFault
supplies_fields bytes map at = supplies_read map (slots 0 2 (voltage_entry bytes) 8 map 0 None at)

abbrev pub supplies_block : List ℕ → ℕ → Read Supplies BlockFault
supplies_block bytes = block any_map WrongMap (supplies_fields bytes) bytes

-- Module: bit i, one field of 6 bytes: delay (2) and power (4)
abbrev pub choice_at : List ℕ → ℕ → Choice
choice_at bytes at = record { delay = number 2 bytes at; power = number 4 bytes (at + 2) }

abbrev pub choice_entry : List ℕ → Option Choice → ℕ → Result Choice FieldFault
choice_entry bytes last at =
    if nat_lt (length bytes) (at + 6)
    then Err (field_fault EndsEarly at)
    else checked choice_in_limits choice_follows last at (choice_at bytes at)

abbrev pub menu_read : ℕ → Read (List Choice) FieldFault → Read Menu FieldFault
menu_read map (Ok r) = Ok (record { map = map; values = r.0 }, r.1)
menu_read map (Err e) = Err e

abbrev pub menu_fields : List ℕ → ℕ → ℕ → Read Menu FieldFault
menu_fields bytes map at = menu_read map (slots no_choice 6 (choice_entry bytes) 8 map 0 None at)

abbrev pub menu_map : ℕ → List ℕ → ℕ → Result ℕ BlockFault
menu_map supplies = fine_map (names_supplies supplies) WrongMenu

abbrev pub menu_block : ℕ → List ℕ → ℕ → Read Menu BlockFault
menu_block supplies bytes = block (names_supplies supplies) WrongMenu (menu_fields bytes) bytes

-- Net: driver (1 byte, required), receiver (1, required), wire delay (2); the ends are checked after the receiver
abbrev pub net_map : ℕ → Bool
net_map map = bit map 0 && bit map 1 && nat_lt map 8

abbrev pub net_fields : ℕ → List ℕ → ℕ → ℕ → Read Net FieldFault
net_fields modules bytes map at =
    then_read (field 1 bytes at) (λ d.
    then_read (field 1 bytes (at + 1)) (λ r.
    if joins modules d r
    then then_read (optional (bit map 2) 2 10000 bytes (at + 2)) (λ w. Ok (net_of d r w.0, w.1))
    else Err (field_fault WrongEnds (at + 1))))

abbrev pub net_block : ℕ → List ℕ → ℕ → Read Net BlockFault
net_block modules bytes = block net_map WrongMap (net_fields modules bytes) bytes
