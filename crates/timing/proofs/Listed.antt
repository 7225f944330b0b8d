-- The listing order as a test. Assumes nothing.
use Rattle.std.proofs.Common.{◌≡◌, ℕ, zero, suc, ◌+◌, ◌<◌, ◌≤◌, Bool, true, false, cond, not, ◌&&◌, ◌||◌, eqb, ltb, ◌⊎◌, List, [], ◌∷◌, length, get_or, take, drop, Some, None, Option, Bor, MatchOption, IsTrue, ◌↔◌, refl, ap, ◌∙◌, ap₂, inl, inr, ⊎_elim, arith}
use Rattle.std.specs.List.{find, zip}
use Rattle.std.specs.Option.{option_map}
use Rattle.std.proofs.lemmas.List.{drop_more, drop_all}
use Rattle.std.proofs.lemmas.Bool.Decides.{nat_tests}
use Rattle.std.proofs.lemmas.Bool.{ltb-true, eqb-true, lt-ltb, le-ltb, eq-eqb, or_cases, or_left, or_right, and_parts, and_from}
use Rattle.timing.specs.Assignments.{Before, before, supply}

pub before_more : (a b : List ℕ) (k : ℕ) → k < length a → k < length b → before (drop k a) (drop k b) ≡ (ltb (get_or a k 0) (get_or b k 0) || (eqb (get_or a k 0) (get_or b k 0) && before (drop (k + 1) a) (drop (k + 1) b)))
before_more a b k h l = ap₂ before (drop_more a k 0 h) (drop_more b k 0 l)

-- where either ends, nothing is listed before
pub before_none : (a b : List ℕ) (k : ℕ) → (length a ≤ k) ⊎ (length b ≤ k) → before (drop k a) (drop k b) ≡ false
before_none a b k (inl h) = ap (λ xs. before xs (drop k b)) (drop_all k a h)
before_none a b k (inr h) = ap (before (drop k a)) (drop_all k b h) ∙ nothing (drop k a)
  where
    nothing : (xs : List ℕ) → before xs [] ≡ false
    nothing [] = refl
    nothing (x ∷ xs) = refl

-- whether the first place that differs has the lower number first
abbrev pub lower_first : Option (ℕ × ℕ) → Bool
lower_first None = false
lower_first (Some p) = ltb p.0 p.1

pub first_answers : (r : Option (Bor ℕ × Bor ℕ)) (b : Bool) → MatchOption r (b ≡ false) (λ p. b ≡ ltb p.0.now p.1.now) → b ≡ lower_first (option_map (λ p. (p.0.now, p.1.now)) r)
first_answers None b h = h
first_answers (Some p) b h = h

pub before_first : (a b : List ℕ) → lower_first (find (λ p. not (eqb p.0 p.1)) (zip a b)) ≡ before a b
before_first [] b = refl
before_first (x ∷ a) [] = refl
before_first (x ∷ a) (y ∷ b) = go (eqb x y) (eqb-true x y) (before_first a b)
  where
    go : (e : Bool) → (e ≡ true → x ≡ y) → lower_first (find (λ p. not (eqb p.0 p.1)) (zip a b)) ≡ before a b →
        lower_first (cond (not e) (Some (x, y)) (find (λ p. not (eqb p.0 p.1)) (zip a b))) ≡ (ltb x y || (e && before a b))
    go true e ih = rw (le-ltb x y (let h = e refl in omega arith)) ih
    go false e ih = grind (arith, nat_tests)

-- past the end of the shorter there are no pairs
pub zip_common : (k : ℕ) (a b : List ℕ) → (length a ≤ k) ⊎ (length b ≤ k) → zip (take k a) (take k b) ≡ zip a b
zip_common zero [] b h = refl
zip_common (suc k) [] b h = refl
zip_common zero (x ∷ a) [] h = refl
zip_common zero (x ∷ a) (y ∷ b) (inl h) = absurd (omega arith)
zip_common zero (x ∷ a) (y ∷ b) (inr h) = absurd (omega arith)
zip_common (suc k) (x ∷ a) [] h = refl
zip_common (suc k) (x ∷ a) (y ∷ b) (inl h) = ap (λ ps. (x, y) ∷ ps) (zip_common k a b (inl (omega arith)))
zip_common (suc k) (x ∷ a) (y ∷ b) (inr h) = ap (λ ps. (x, y) ∷ ps) (zip_common k a b (inr (omega arith)))

words : (a b : List ℕ) → before a b ≡ true → Before a b
words [] b t = let z : ◌≡◌ {A = ℕ} 0 1 = cc in absurd (omega arith)
words (x ∷ a) [] t = let z : ◌≡◌ {A = ℕ} 0 1 = cc in absurd (omega arith)
words (x ∷ a) (y ∷ b) t = ⊎_elim
    (λ l. record { where_they_differ = 0; inside = omega arith; same_below = λ m h. absurd (omega arith); lower_there = ltb-true x y l })
    (λ e. let p = and_parts (eqb x y) (before a b) e in later (eqb-true x y p.0) (words a b p.1))
    (or_cases (ltb x y) (eqb x y && before a b) t)
  where
    later : x ≡ y → Before a b → Before (x ∷ a) (y ∷ b)
    later e r = record { where_they_differ = suc r.where_they_differ; inside = let h = r.inside in omega arith; same_below = same; lower_there = r.lower_there }
      where
        same : (m : ℕ) → m < suc r.where_they_differ → supply (x ∷ a) m ≡ supply (y ∷ b) m
        same zero h = e
        same (suc m) h = r.same_below m (omega arith)

test : (k : ℕ) (a b : List ℕ) → k < length a → ((m : ℕ) → m < k → supply a m ≡ supply b m) → supply a k < supply b k → before a b ≡ true
test k [] b h s l = absurd (omega arith)
test k (x ∷ a) [] h s l = absurd (omega arith)
test zero (x ∷ a) (y ∷ b) h s l = or_left (ltb x y) (eqb x y && before a b) (lt-ltb x y l)
test (suc k) (x ∷ a) (y ∷ b) h s l =
    or_right (ltb x y) (eqb x y && before a b) (and_from (eqb x y) (before a b) (eq-eqb x y (s 0 (omega arith))) (test k a b (omega arith) (λ m j. s (suc m) (omega arith)) l))

pub before_decides : (a b : List ℕ) → IsTrue (before a b) ↔ Before a b
before_decides a b = (words a b, λ r. test r.where_they_differ a b r.inside r.same_below r.lower_there)
