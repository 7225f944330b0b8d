-- What an iterator over the used places of a table has left. Assumes nothing.
use Rattle.std.specs.Prelude.{ℕ, List}
use Rattle.netlist.specs.declared.slots.standing.Standing.{Standing}
use Rattle.netlist.specs.Slots.{used}

abbrev pub left : {T : Type 0} → Standing T → List (ℕ × T)
left s = used s.map 0 s.values.now
