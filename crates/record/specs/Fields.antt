-- The fields of a record: numbers, most significant byte first. Assumes nothing.
use Rattle.std.specs.Prelude.{ℕ, zero, suc, ◌+◌, ◌*◌, ◌/◌, ◌%◌, ◌^◌, ◌<◌, Bool, if◌then◌else◌, List, [], ◌∷◌, length, Ok, Err, Result, ◌==◌, nat_lt, slice_index}
use Rattle.netlist.specs.declared.refusal.Refusal.{Refusal}
use Rattle.netlist.specs.declared.refusal.Refusal.TheVariants.{EndsEarly, AbsentValue, Limit}
use Rattle.netlist.specs.Netlist.{within}
use Rattle.faults.specs.declared.FieldFault.{FieldFault}
use Rattle.record.specs.Steps.{Read, then_read}

-- each is a byte
abbrev pub Bytes : List ℕ → Type 0
Bytes bytes = (i : ℕ) → slice_index bytes i < 256

abbrev pub field_fault : Refusal → ℕ → FieldFault
field_fault why at = record { refusal = why; at = at }

-- the number in the bytes from `at` on, of which there are as many as `width` says
abbrev pub number : ℕ → List ℕ → ℕ → ℕ
number zero bytes at = 0
number (suc width) bytes at = 256 ^ width * slice_index bytes at + number width bytes (at + 1)

-- the bytes of a number
abbrev pub spelled : ℕ → ℕ → List ℕ
spelled zero n = []
spelled (suc width) n = n / 256 ^ width % 256 ∷ spelled width n

-- a field is read when it is whole: 1 where the record ends inside it
abbrev pub field : ℕ → List ℕ → ℕ → Result ℕ FieldFault
field width bytes at = if nat_lt (length bytes) (at + width) then Err (field_fault EndsEarly at) else Ok (number width bytes at)

-- a number that has to lie in its limits: 5 where it does not
abbrev pub limited : ℕ → ℕ → ℕ → ℕ → Result ℕ FieldFault
limited low high at n = if within low high n then Ok n else Err (field_fault Limit at)

-- the same with the place after the field
abbrev pub in_limits : ℕ → ℕ → ℕ → ℕ → ℕ → Read ℕ FieldFault
in_limits low high width at n = if within low high n then Ok (n, at + width) else Err (field_fault Limit at)

abbrev pub required : ℕ → ℕ → ℕ → List ℕ → ℕ → Read ℕ FieldFault
required width low high bytes at = then_read (field width bytes at) (in_limits low high width at)

-- an optional field, whose absence means 0: 4 where it is present and holds 0
abbrev pub optional : Bool → ℕ → ℕ → List ℕ → ℕ → Read ℕ FieldFault
optional present width high bytes at =
    if present
    then then_read (field width bytes at) (λ n. if n == 0 then Err (field_fault AbsentValue at) else in_limits 1 high width at n)
    else Ok (0, at)
