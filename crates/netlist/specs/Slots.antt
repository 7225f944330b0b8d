-- Tables of eight places under a map byte: bit i says whether place i is used. Assumes nothing.
use Rattle.std.specs.Prelude.{ℕ, ◌+◌, ◌*◌, ◌<◌, ◌/◌, ◌%◌, ◌^◌, Bool, if◌then◌else◌, List, [], ◌∷◌, ◌==◌}
use Rattle.std.proofs.Common.{lit<}
use Rattle.netlist.specs.declared.parts.Choice.{Choice}
use Rattle.netlist.specs.declared.slots.Slots.{Slots}

-- eight voltages, and eight choices, are few bytes
pub small_voltages : 8 * 4 < 2 ^ 63
small_voltages = lit< tt

pub small_choices : 8 * 8 < 2 ^ 63
small_choices = lit< tt

-- the supplies of a design, by their voltages, and a menu, by its choices
abbrev pub Supplies : Type 0
Supplies = Slots ℕ

abbrev pub Menu : Type 0
Menu = Slots Choice

abbrev pub bit : ℕ → ℕ → Bool
bit map i = map / 2 ^ i % 2 == 1

-- the values at the places that are used, lowest first; the list begins at place i
abbrev pub standing : {T : Type 0} → ℕ → ℕ → List T → List T
standing map i [] = []
standing map i (x ∷ xs) = if bit map i then x ∷ standing map (i + 1) xs else standing map (i + 1) xs

-- the places that are used, lowest first, each with its value
abbrev pub used : {T : Type 0} → ℕ → ℕ → List T → List (ℕ × T)
used map i [] = []
used map i (x ∷ xs) = if bit map i then (i, x) ∷ used map (i + 1) xs else used map (i + 1) xs

-- the values at the other places
abbrev pub absent : {T : Type 0} → ℕ → ℕ → List T → List T
absent map i [] = []
absent map i (x ∷ xs) = if bit map i then absent map (i + 1) xs else x ∷ absent map (i + 1) xs

-- the table with nothing left at the places that are not used
abbrev pub cleared : {T : Type 0} → T → ℕ → ℕ → List T → List T
cleared none map i [] = []
cleared none map i (x ∷ xs) = (if bit map i then x else none) ∷ cleared none map (i + 1) xs
