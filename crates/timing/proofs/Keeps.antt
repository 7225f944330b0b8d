-- Ways of keeping one of two arrivals. Assumes nothing.
use Rattle.std.proofs.Common.{◌≡◌, ℕ, zero, suc, ◌+◌, ◌<◌, List, [], ◌∷◌, length, get_or, fold, sym, refl, ap, ◌∙◌, ⊎_elim, arith}
use Rattle.timing.specs.Arrivals.{KeepsOne}

module _ (keep : ℕ → ℕ → ℕ) (way : KeepsOne keep) where
  pub keep_same : (x : ℕ) → keep x x ≡ x
  keep_same x = ⊎_elim (λ e. e) (λ e. e) (way.one_of_two x x)

  -- y prevails against x where y is kept of the two; what x yields to, it yields to through y
  pub prevails_through : (x y z : ℕ) → keep x y ≡ y → keep y z ≡ z → keep x z ≡ z
  prevails_through x y z xy yz =
      let a = way.grouping x y z in
      cc

  pub prevails_plus : (x y c : ℕ) → keep x y ≡ y → keep (x + c) (y + c) ≡ y + c
  prevails_plus x y c e = way.adding x y c ∙ ap (λ t. t + c) e

  left_yields : (x y : ℕ) → keep x (keep x y) ≡ keep x y
  left_yields x y = sym (way.grouping x x y) ∙ ap (λ t. keep t y) (keep_same x)

  right_yields : (x y : ℕ) → keep y (keep x y) ≡ keep x y
  right_yields x y = ap (keep y) (way.order x y) ∙ left_yields y x ∙ way.order y x

  -- what is kept of several is one of them, and prevails against each
  pub folded_one : (t : ℕ) (ts : List ℕ) → (k : ℕ) × (k < length (t ∷ ts)) × (get_or (t ∷ ts) k 0 ≡ fold keep t ts)
  folded_one t [] = (0, omega arith, refl)
  folded_one t (x ∷ ts) = go (folded_one (keep t x) ts)
    where
      go : (k : ℕ) × (k < length (keep t x ∷ ts)) × (get_or (keep t x ∷ ts) k 0 ≡ fold keep (keep t x) ts) → (k : ℕ) × (k < length (t ∷ (x ∷ ts))) × (get_or (t ∷ (x ∷ ts)) k 0 ≡ fold keep (keep t x) ts)
      go (zero, h, e) = ⊎_elim (λ (l : keep t x ≡ t). (0, omega arith, sym l ∙ e)) (λ (r : keep t x ≡ x). (1, omega arith, sym r ∙ e)) (way.one_of_two t x)
      go (suc k, h, e) = (suc (suc k), omega arith, e)

  first_yields : (t : ℕ) (ts : List ℕ) → keep t (fold keep t ts) ≡ fold keep t ts
  first_yields t [] = keep_same t
  first_yields t (x ∷ ts) = prevails_through t (keep t x) (fold keep (keep t x) ts) (left_yields t x) (first_yields (keep t x) ts)

  pub folded_prevails : (t : ℕ) (ts : List ℕ) (k : ℕ) → k < length (t ∷ ts) → keep (get_or (t ∷ ts) k 0) (fold keep t ts) ≡ fold keep t ts
  folded_prevails t ts zero h = first_yields t ts
  folded_prevails t [] (suc k) h = absurd (omega arith)
  folded_prevails t (x ∷ ts) (suc zero) h =
      prevails_through x (keep t x) (fold keep (keep t x) ts) (right_yields t x) (first_yields (keep t x) ts)
  folded_prevails t (x ∷ ts) (suc (suc k)) h = folded_prevails (keep t x) ts (suc k) (omega arith)
