-- The used places of a table, one after another. Assumes nothing.
use Rattle.std.proofs.Common.{◌++◌, set, replicate, ltb, append_assoc, length-append, ◌≡◌, ℕ, zero, suc, ◌+◌, ◌-◌, ◌<◌, ◌≤◌, Bool, true, false, List, [], ◌∷◌, map, length, get_or, sym, refl, ap, ◌∙◌, inl, inr, arith}
use lib.Bits.{bit_and}
use lib.Count.{count_trailing_zeros}
use Rattle.std.proofs.lemmas.Nat.{pow_pos}
use Rattle.std.proofs.lemmas.Bool.{cases_Bool, and_from, lt-ltb}
use Rattle.std.proofs.lemmas.List.Folds.{list_all-map}
use Rattle.std.proofs.Math.Seq.{set-append_seam}
use Rattle.std.specs.List.{list_all}
use Rattle.netlist.specs.Slots.{bit, used, standing, cleared}
use Rattle.netlist.proofs.Lowest.{Lowest, none_below, cleared_to, same_past}
use Rattle.netlist.proofs.Maps.{bit_past}

module _ {T : Type 0} where
  pub used_none : (i : ℕ) (xs : List T) → used 0 i xs ≡ []
  used_none i [] = refl
  used_none i (x ∷ xs) = let b : bit 0 i ≡ false = bit_past 0 i (pow_pos i) in rw b (used_none (i + 1) xs)

  -- two maps with the same bits from place i on
  pub used_same : (a b i : ℕ) (xs : List T) → ((j : ℕ) → i ≤ j → j < i + length xs → bit a j ≡ bit b j) → used a i xs ≡ used b i xs
  used_same a b i [] h = refl
  used_same a b i (x ∷ xs) h =
      let e = h i (omega arith) (omega arith) in
      let r = used_same a b (i + 1) xs (λ j l m. h j (omega arith) (omega arith)) in
      rw (e, r) refl

  -- the place of the lowest bit comes first, and then those of the others
  pub used_lowest : (n i k : ℕ) (xs : List T) (d : T) → n < 256 → Lowest n → i + k ≡ count_trailing_zeros 8 n → k < length xs → used n i xs ≡ (count_trailing_zeros 8 n, get_or xs k d) ∷ used (bit_and n (n - 1)) i xs
  used_lowest n i k [] d b w e l = absurd (omega arith)
  used_lowest n i zero (x ∷ xs) d z w e l =
      let p : i ≡ count_trailing_zeros 8 n = omega arith in
      let b : bit n i ≡ true = rw p w.stands in
      let c = cleared_to n w i (omega arith) in
      let s = used_same n (bit_and n (n - 1)) (i + 1) xs (λ j a m. sym (same_past n z w j (omega arith))) in
      rw (b, c, s) (ap (λ j. (j, x) ∷ used (bit_and n (n - 1)) (i + 1) xs) p)
  used_lowest n i (suc k) (x ∷ xs) d z w e l =
      let b = none_below n w i (omega arith) in
      let c = cleared_to n w i (omega arith) in
      rw (b, c) (used_lowest n (i + 1) k xs d z w (omega arith) (omega arith))

  -- the values alone
  pub standing_used : (m i : ℕ) (xs : List T) → map (λ p. p.1) (used m i xs) ≡ standing m i xs
  standing_used m i [] = refl
  standing_used m i (x ∷ xs) =
      let e = standing_used m (i + 1) xs in
      elim (cases_Bool (bit m i)) [ inl b ↦ rw b (ap (λ ys. x ∷ ys) e) | inr b ↦ rw b e ]

  -- filling a table with the used places of another, one after another
  abbrev pub fill : List T → List (ℕ × T) → List T
  fill xs [] = xs
  fill xs (p ∷ ps) = fill (set xs p.0 p.1) ps

  fill_from : (none : T) (m i : ℕ) (xs ys : List T) → length xs ≡ i → fill (xs ++ replicate (length ys) none) (used m i ys) ≡ xs ++ cleared none m i ys
  fill_from none m i xs [] e = refl
  fill_from none m i xs (y ∷ ys) e =
      let more : (z : T) → length (xs ++ z ∷ []) ≡ i + 1 = λ z. simp length-append (omega arith) in
      let f : (z : T) → fill (xs ++ z ∷ replicate (length ys) none) (used m (i + 1) ys) ≡ xs ++ z ∷ cleared none m (i + 1) ys =
      λ z. ap (λ zs. fill zs (used m (i + 1) ys)) (sym (append_assoc xs (z ∷ []) (replicate (length ys) none)))
      ∙ fill_from none m (i + 1) (xs ++ z ∷ []) ys (more z) ∙ append_assoc xs (z ∷ []) (cleared none m (i + 1) ys) in
      let g : set (xs ++ none ∷ replicate (length ys) none) i y ≡ xs ++ y ∷ replicate (length ys) none =
      ap (λ j. set (xs ++ none ∷ replicate (length ys) none) j y) (sym e) ∙ set-append_seam xs none (replicate (length ys) none) y in
      elim (cases_Bool (bit m i)) [ inl b ↦ rw b (ap (λ zs. fill zs (used m (i + 1) ys)) g ∙ f y) | inr b ↦ rw b (f none) ]

  -- each of them is within the table
  pub used_within : (m i n : ℕ) (xs : List T) → i + length xs ≤ n → list_all (λ p. ltb p.0 n) (used m i xs) ≡ true
  used_within m i n [] l = refl
  used_within m i n (x ∷ xs) l =
      let e = used_within m (i + 1) n xs (omega arith) in
      elim (cases_Bool (bit m i)) [ inl b ↦ rw b (and_from (ltb i n) _ (lt-ltb i n (omega arith)) e) | inr b ↦ rw b e ]

  pub fill_cleared : (none : T) (m : ℕ) (xs : List T) → fill (replicate (length xs) none) (used m 0 xs) ≡ cleared none m 0 xs
  fill_cleared none m xs = fill_from none m 0 [] xs refl

  pub list_all_used : (test : T → Bool) (m i : ℕ) (xs : List T) → list_all (λ p. test p.1) (used m i xs) ≡ list_all test (standing m i xs)
  list_all_used test m i xs = sym (list_all-map test (λ p. p.1) (used m i xs)) ∙ ap (list_all test) (standing_used m i xs)
