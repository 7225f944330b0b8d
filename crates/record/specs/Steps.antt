-- One reading after another: each starts where the one before ended. Assumes nothing.
use Rattle.std.specs.Prelude.{ℕ, List, ◌∷◌, Ok, Err, Result}

-- what was read, and the place of the first byte after it
abbrev pub Read : Type 0 → Type 0 → Type 0
Read T E = Result (T × ℕ) E

abbrev pub then_read : {S T E : Type 0} → Result S E → (S → Result T E) → Result T E
then_read (Ok x) next = next x
then_read (Err e) next = Err e

-- the fault, carried inside another
abbrev pub inside : {T E F : Type 0} → (E → F) → Result T E → Result T F
inside wrap (Ok x) = Ok x
inside wrap (Err e) = Err (wrap e)

-- one value in front of the others
abbrev pub ahead : {T E : Type 0} → T → Read (List T) E → Read (List T) E
ahead x (Ok r) = Ok (x ∷ r.0, r.1)
ahead x (Err e) = Err e

-- what a reader answers, with the place at which it leaves its cursor
abbrev pub placed : {T E : Type 0} → Result T E → ℕ → Read T E
placed (Ok x) to = Ok (x, to)
placed (Err e) to = Err e

-- what a reader has put into the places that its caller lent, with the place at which it leaves its cursor
abbrev pub filled : {T E : Type 0} → Result (Unit {0}) E → List T → ℕ → Read (List T) E
filled (Ok done) xs to = Ok (xs, to)
filled (Err e) xs to = Err e
