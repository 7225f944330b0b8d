-- The number of each refusal, and of the answer that carries one. Assumes nothing.
use Rattle.std.specs.Prelude.{ℕ, Bool, if◌then◌else◌, List, [], ◌∷◌, Some, None, Ok, Err, Option, Result, codes}
use Rattle.netlist.specs.declared.refusal.Refusal.{Refusal}
use Rattle.netlist.specs.declared.refusal.Refusal.TheVariants.{EndsEarly, BytesFollow, WrongMap, AbsentValue, Limit, Order, WrongMenu, WrongEnds, TableFull, ShortBuffer, LateSupply}

abbrev pub number : Refusal → ℕ
number EndsEarly = 1
number BytesFollow = 2
number WrongMap = 3
number AbsentValue = 4
number Limit = 5
number Order = 6
number WrongMenu = 7
number WrongEnds = 8
number TableFull = 21
number ShortBuffer = 24
number LateSupply = 25

-- its text
abbrev pub reason : Refusal → List ℕ
reason EndsEarly = codes "the record ends early"
reason BytesFollow = codes "bytes follow the record's end"
reason WrongMap = codes "the map has a forbidden bit or lacks a required one"
reason AbsentValue = codes "an optional field is present and holds the value that its absence means"
reason Limit = codes "a number is beyond its limits"
reason Order = codes "supplies, delays or powers are out of order"
reason WrongMenu = codes "the menu is empty or names a missing supply"
reason WrongEnds = codes "an end of the net is missing, or its driver is not below its receiver"
reason TableFull = codes "the table of modules or nets is full"
reason ShortBuffer = codes "the buffer is too short"
reason LateSupply = codes "a supply is added once modules exist"

-- the number of a call's refusal, none where it was accepted
abbrev pub refused : {T : Type 0} → Result T Refusal → Option ℕ
refused (Ok x) = None
refused (Err e) = Some (number e)

-- a rule that a call can break: its number, and whether it is broken
abbrev pub Rule : Type 0
Rule = ℕ × Bool

-- the number of the first rule that is broken; a call's rules stand in rising number
abbrev pub first_broken : List Rule → Option ℕ
first_broken [] = None
first_broken (r ∷ rs) = if r.1 then Some r.0 else first_broken rs

-- what is in force after a call: nothing changes where it is refused
abbrev pub unless_refused : {T : Type 0} → Option ℕ → T → T → T
unless_refused None old new = new
unless_refused (Some n) old new = old
