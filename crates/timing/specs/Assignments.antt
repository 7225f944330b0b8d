-- Assignments of a design, and the order in which they are listed. Assumes nothing.
use Rattle.std.specs.Prelude.{◌≡◌, ℕ, ◌<◌, Bool, true, false, ◌&&◌, ◌||◌, List, [], ◌∷◌, length, ◌==◌, nat_lt, slice_index}
use Rattle.netlist.specs.Netlist.{Netlist, modules}
use Rattle.netlist.specs.Rules.{Offered}
use Rattle.netlist.specs.Slots.{bit, Menu}

-- a list of supply numbers, module 0 first; the supply that it names for module m
abbrev pub supply : List ℕ → ℕ → ℕ
supply a m = slice_index a m

-- it names one supply of its menu for each module
pub record Assigns (n : Netlist) (a : List ℕ) : Type 0 where
  pub one_each : length a ≡ modules n
  pub of_its_menu : (m : ℕ) → m < modules n → Offered n m (supply a m)

-- the same as a test
abbrev pub all_offered : List Menu → List ℕ → Bool
all_offered [] [] = true
all_offered [] (s ∷ ss) = false
all_offered (menu ∷ menus) [] = false
all_offered (menu ∷ menus) (s ∷ ss) = bit menu.map s && all_offered menus ss

abbrev pub assigns : Netlist → List ℕ → Bool
assigns n a = all_offered n.menus a

-- a is listed before b: at the lowest module where they differ, it has the lower supply number
pub record Before (a b : List ℕ) : Type 0 where
  pub where_they_differ : ℕ
  pub inside : where_they_differ < length a
  pub same_below : (m : ℕ) → m < where_they_differ → supply a m ≡ supply b m
  pub lower_there : supply a where_they_differ < supply b where_they_differ

-- the same as a test
abbrev pub before : List ℕ → List ℕ → Bool
before [] b = false
before (x ∷ a) [] = false
before (x ∷ a) (y ∷ b) = nat_lt x y || (x == y && before a b)
