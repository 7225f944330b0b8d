-- What is answered of any bytes as a would-be assignment. Assumes nothing.
use Rattle.std.specs.Prelude.{◌≡◌, ℕ, if◌then◌else◌, List, Some, None, IsTrue, ◌↔◌, Option}
use Rattle.netlist.specs.Netlist.{Netlist}
use Rattle.timing.specs.declared.assess.Figures.{Figures}
use Rattle.timing.specs.Arrivals.{Longest, longest_delay, meets}
use Rattle.timing.specs.Assignments.{Assigns, assigns}
use Rattle.timing.specs.Paths.{timed, Meets}
use Rattle.timing.specs.Power.{power}
use Rattle.timing.specs.Published.{InTime, objective, selection_of}

abbrev pub figures : Netlist → List ℕ → Figures
figures n a = record { power = power n a; delay = longest_delay n a; meets = meets n a }

abbrev pub assessed : Netlist → List ℕ → Option Figures
assessed n a = (if assigns n a then Some (figures n a) else None)

-- The figures of an assignment in plain words: its power is what the published problem minimises, its delay is the
-- longest of all paths, and it meets the cycle exactly where no path exceeds the cycle time, and exactly where the
-- published timing constraint holds.
pub record Judged (n : Netlist) (a : List ℕ) (f : Figures) : Type 0 where
  pub assigns : Assigns n a
  pub objective : f.power ≡ objective n (selection_of n a)
  pub longest : Longest (timed n a) f.delay
  pub meets : IsTrue f.meets ↔ Meets n a
  pub in_time : IsTrue f.meets ↔ InTime n (selection_of n a)
