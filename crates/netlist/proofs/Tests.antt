-- Tests that are computed over each number below a limit. Assumes nothing.
use Rattle.std.proofs.Common.{◌≡◌, ℕ, zero, suc, ◌<◌, Bool, true, false, not, ◌&&◌, ◌||◌, sym, refl, ap, ◌∙◌, ⊎_elim, le_of_suc-le-suc, not-suc-le-zero, eq-or-lt_of_le}
use Rattle.std.proofs.lemmas.Bool.{and_parts, both_ways}

-- the test passes at each number below n
abbrev pub up_to : (ℕ → Bool) → ℕ → Bool
up_to f zero = true
up_to f (suc k) = f k && up_to f k

pub at_each : (f : ℕ → Bool) (k : ℕ) → up_to f k ≡ true → (n : ℕ) → n < k → f n ≡ true
at_each f zero t n h = absurd (not-suc-le-zero h)
at_each f (suc k) t n h =
    let p = and_parts (f k) (up_to f k) t in
    ⊎_elim (λ (e : n ≡ k). ap f e ∙ p.0) (λ (l : n < k). at_each f k p.1 n l) (eq-or-lt_of_le (le_of_suc-le-suc h))

abbrev pub same : Bool → Bool → Bool
same true x = x
same false x = not x

pub same_true : (x y : Bool) → same x y ≡ true → x ≡ y
same_true true true h = refl
same_true true false h = sym h
same_true false false h = refl
same_true false true h = h

pub or_second : (a b : Bool) → a ≡ true → (not a || b) ≡ true → b ≡ true
or_second true b e h = h
or_second false b e h = absurd (both_ways false refl e)
