-- The figures of every assignment of the worked example, from the definitions. Assumes nothing.
use Rattle.std.specs.Prelude.{◌≡◌, ℕ, Bool, true, false, List, [], ◌∷◌, map, Some, None, Option}
use Rattle.example.specs.Example.{example}
use Rattle.netlist.specs.Calls.{with_net}
use Rattle.netlist.specs.Netlist.{blank}
use Rattle.timing.specs.Assess.{assessed}
use Rattle.timing.specs.Assignments.{before}
use Rattle.timing.specs.Power.{power}
use Rattle.timing.specs.declared.assess.Figures.{Figures}

abbrev pub three : ℕ → ℕ → ℕ → List ℕ
three a b c = a ∷ b ∷ c ∷ []

-- its assignments in listing order
abbrev pub all_eight : List (List ℕ)
all_eight = three 0 0 0 ∷ three 0 0 1 ∷ three 0 1 0 ∷ three 0 1 1 ∷ three 1 0 0 ∷ three 1 0 1 ∷ three 1 1 0 ∷ three 1 1 1 ∷ []

-- power, longest delay, and whether it meets the cycle time of 16
abbrev pub row : ℕ → ℕ → Bool → Option Figures
row power delay meets = Some (record { power = power; delay = delay; meets = meets })

pub record ExampleFigures : Type 0 where
  pub each : map (assessed example) all_eight ≡ row 90 13 true ∷ row 72 16 true ∷ row 83 16 true ∷ row 63 18 false ∷ row 80 16 true ∷ row 62 19 false ∷ row 71 18 false ∷ row 51 20 false ∷ []
  -- too short, too long, and a supply that is not on the menu
  pub no_assignments : map (assessed example) ((0 ∷ 0 ∷ []) ∷ (0 ∷ 0 ∷ 0 ∷ 0 ∷ []) ∷ three 0 2 0 ∷ three 0 0 8 ∷ []) ≡ None ∷ None ∷ None ∷ None ∷ []
  -- a second net from module 0 to module 1 needs a shifter of its own
  pub parallel_nets : power (with_net example 0 1 0) (three 1 0 0) ≡ 82
  pub no_modules : assessed blank [] ≡ row 0 0 true
  pub listed : map (before (three 0 1 0)) all_eight ≡ false ∷ false ∷ false ∷ true ∷ true ∷ true ∷ true ∷ true ∷ []
