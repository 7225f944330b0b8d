-- The test of an assignment, and what it says. Assumes nothing.
use Rattle.std.proofs.Common.{◌≡◌, ℕ, zero, suc, ◌+◌, ◌<◌, ◌≤◌, true, false, ◌&&◌, List, [], ◌∷◌, length, get_or, drop, sym, refl, ap, ap₂, ⊎_elim, arith}
use Rattle.netlist.specs.Netlist.{Netlist}
use Rattle.netlist.specs.Rules.{no_menu}
use Rattle.netlist.specs.Slots.{bit, Menu}
use Rattle.std.proofs.lemmas.List.{drop_more, drop_all}
use Rattle.std.proofs.lemmas.Bool.{and_parts, and_from, cases_Bool}
use Rattle.std.specs.List.{list_all, zip}
use Rattle.timing.specs.Assignments.{Assigns, assigns, all_offered, supply}

pub as_long : (ms : List Menu) (ss : List ℕ) → all_offered ms ss ≡ true → length ss ≡ length ms
as_long [] [] h = refl
as_long [] (s ∷ ss) h = let z : ◌≡◌ {A = ℕ} 0 1 = cc in absurd (omega arith)
as_long (m ∷ ms) [] h = let z : ◌≡◌ {A = ℕ} 0 1 = cc in absurd (omega arith)
as_long (m ∷ ms) (s ∷ ss) h = ap suc (as_long ms ss (and_parts (bit m.map s) (all_offered ms ss) h).1)

-- lists of other lengths are none
pub not_as_long : (ms : List Menu) (ss : List ℕ) → (length ms ≡ length ss → ⊥) → all_offered ms ss ≡ false
not_as_long ms ss h = ⊎_elim (λ (t : all_offered ms ss ≡ true). absurd (h (sym (as_long ms ss t)))) (λ f. f) (cases_Bool (all_offered ms ss))

-- one module after another
pub offered_more : (ms : List Menu) (ss : List ℕ) (k : ℕ) → k < length ms → k < length ss → all_offered (drop k ms) (drop k ss) ≡ (bit (get_or ms k no_menu).map (get_or ss k 0) && all_offered (drop (k + 1) ms) (drop (k + 1) ss))
offered_more ms ss k h l = ap₂ all_offered (drop_more ms k no_menu h) (drop_more ss k 0 l)

pub offered_all : (ms : List Menu) (ss : List ℕ) (k : ℕ) → length ms ≤ k → length ss ≤ k → all_offered (drop k ms) (drop k ss) ≡ true
offered_all ms ss k h l = ap₂ all_offered (drop_all k ms h) (drop_all k ss l)

-- as many are tested pair by pair
pub offered_zip : (ms : List Menu) (ss : List ℕ) → length ms ≡ length ss → list_all (λ p. bit p.0.map p.1) (zip ms ss) ≡ all_offered ms ss
offered_zip [] [] h = refl
offered_zip [] (s ∷ ss) h = absurd (omega arith)
offered_zip (m ∷ ms) [] h = absurd (omega arith)
offered_zip (m ∷ ms) (s ∷ ss) h = ap (λ b. bit m.map s && b) (offered_zip ms ss (omega arith))

offered_at : (ms : List Menu) (ss : List ℕ) → all_offered ms ss ≡ true → (m : ℕ) → m < length ms → bit (get_or ms m no_menu).map (supply ss m) ≡ true
offered_at [] ss t m h = absurd (omega arith)
offered_at (x ∷ ms) [] t m h = let z : ◌≡◌ {A = ℕ} 0 1 = cc in absurd (omega arith)
offered_at (x ∷ ms) (s ∷ ss) t zero h = (and_parts (bit x.map s) (all_offered ms ss) t).0
offered_at (x ∷ ms) (s ∷ ss) t (suc m) h = offered_at ms ss (and_parts (bit x.map s) (all_offered ms ss) t).1 m (omega arith)

offered_from : (ms : List Menu) (ss : List ℕ) → length ss ≡ length ms → ((m : ℕ) → m < length ms → bit (get_or ms m no_menu).map (supply ss m) ≡ true) → all_offered ms ss ≡ true
offered_from [] [] l h = refl
offered_from [] (s ∷ ss) l h = absurd (omega arith)
offered_from (x ∷ ms) [] l h = absurd (omega arith)
offered_from (x ∷ ms) (s ∷ ss) l h = and_from (bit x.map s) (all_offered ms ss) (h 0 (omega arith)) (offered_from ms ss (omega arith) (λ m b. h (suc m) (omega arith)))

pub assigns_means : (n : Netlist) (a : List ℕ) → assigns n a ≡ true → Assigns n a
assigns_means n a t = record { one_each = as_long n.menus a t; of_its_menu = offered_at n.menus a t }

pub assigns_from : (n : Netlist) (a : List ℕ) → Assigns n a → assigns n a ≡ true
assigns_from n a h = offered_from n.menus a h.one_each h.of_its_menu
