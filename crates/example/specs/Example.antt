-- The worked example: its design and its record of 64 bytes. Assumes nothing.
use Rattle.std.specs.Prelude.{List, [], ◌∷◌, ℕ, replicate}
use Rattle.netlist.specs.declared.parts.Choice.{Choice}
use Rattle.netlist.specs.Netlist.{Netlist, netlist, no_choice}
use Rattle.netlist.specs.Calls.{terms_of, net_of}
use Rattle.netlist.specs.Slots.{Menu}

abbrev pub choice : ℕ → ℕ → Choice
choice delay power = record { delay = delay; power = power }

-- a menu of supplies 0 and 1
abbrev pub two : Choice → Choice → Menu
two c d = record { map = 3; values = c ∷ (d ∷ replicate 6 no_choice) }

abbrev pub example : Netlist
example =
    netlist (terms_of 16 1 2) (record { map = 3; values = 1200 ∷ (1000 ∷ replicate 6 0) })
    (two (choice 4 30) (choice 6 18) ∷ two (choice 3 20) (choice 5 11) ∷ two (choice 5 40) (choice 8 22) ∷ [])
    (net_of 0 1 1 ∷ net_of 1 2 0 ∷ [])

abbrev pub example_bytes : List ℕ
example_bytes = 31 ∷ 0 ∷ 0 ∷ 0 ∷ 16 ∷ 0 ∷ 1 ∷ 0 ∷ 2 ∷ 3 ∷ 0 ∷ 2 ∷ 3 ∷ 4 ∷ 176 ∷ 3 ∷ 232 ∷ 3 ∷ 0 ∷ 4 ∷ 0 ∷ 0 ∷ 0 ∷ 30 ∷ 0 ∷ 6 ∷ 0 ∷ 0 ∷ 0 ∷ 18 ∷ 3 ∷ 0 ∷ 3 ∷ 0 ∷ 0 ∷ 0 ∷ 20 ∷ 0 ∷ 5 ∷ 0 ∷ 0 ∷ 0 ∷ 11 ∷ 3 ∷ 0 ∷ 5 ∷ 0 ∷ 0 ∷ 0 ∷ 40 ∷ 0 ∷ 8 ∷ 0 ∷ 0 ∷ 0 ∷ 22 ∷ 7 ∷ 0 ∷ 1 ∷ 0 ∷ 1 ∷ 3 ∷ 1 ∷ 2 ∷ []
