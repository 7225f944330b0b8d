-- Entries put one after the other: what is written and what is left make the whole. Assumes nothing.
use Rattle.std.proofs.Common.{◌≡◌, ℕ, ◌+◌, ◌<◌, ◌≤◌, true, false, cond, List, [], ◌∷◌, inl, inr, ◌++◌, length, get_or, drop, refl, sym, ap, ◌∙◌, arith}
use Rattle.std.proofs.lemmas.List.{append_assoc, length-append, drop_more, drop_all, at_drop_more}
use Rattle.std.proofs.lemmas.Bool.{cases_Bool}
use Rattle.netlist.specs.Slots.{bit, used}
use Rattle.record.specs.Record.{all_bytes, slot_bytes}

-- what is left begins with x
module _ (w left s whole x rest : List ℕ) (h : w ++ left ≡ s ++ whole) (e : left ≡ x ++ rest) where
  pub next_fits : (most : ℕ) → length s + length whole ≤ most → length w + length x ≤ most
  next_fits most l = omega (arith, simp length-append at (ap length h), simp length-append at (ap length e))

module _ {T : Type 0} (bytes : T → List ℕ) where
  pub next_entry : (xs : List T) (i : ℕ) (x : T) → i < length xs → x ≡ get_or xs i x → all_bytes bytes (drop i xs) ≡ bytes x ++ all_bytes bytes (drop (i + 1) xs)
  next_entry xs i x l e = at_drop_more (all_bytes bytes) xs i x l ∙ ap (λ y. bytes y ++ all_bytes bytes (drop (i + 1) xs)) (sym e)

  pub blocks_end : (i : ℕ) (xs : List T) → length xs ≤ i → all_bytes bytes (drop i xs) ≡ []
  blocks_end i xs l = ap (all_bytes bytes) (drop_all i xs l)

  -- a table under its map, from place i on
  module _ (d : T) (map i : ℕ) (xs : List T) where
    pub slots_stand : i < length xs → bit map i ≡ true → slot_bytes bytes map i (drop i xs) ≡ bytes (get_or xs i d) ++ slot_bytes bytes map (i + 1) (drop (i + 1) xs)
    slots_stand l h =
        ap (slot_bytes bytes map i) (drop_more xs i d l) ∙ ap (λ b. cond b (bytes (get_or xs i d)) [] ++ slot_bytes bytes map (i + 1) (drop (i + 1) xs)) h

    pub slots_pass : i < length xs → bit map i ≡ false → slot_bytes bytes map i (drop i xs) ≡ slot_bytes bytes map (i + 1) (drop (i + 1) xs)
    slots_pass l h =
        ap (slot_bytes bytes map i) (drop_more xs i d l) ∙ ap (λ b. cond b (bytes (get_or xs i d)) [] ++ slot_bytes bytes map (i + 1) (drop (i + 1) xs)) h

    pub slots_end : length xs ≤ i → slot_bytes bytes map i (drop i xs) ≡ []
    slots_end l = ap (slot_bytes bytes map i) (drop_all i xs l)

  -- a table by its used places
  pub bytes_used : (map i : ℕ) (xs : List T) → all_bytes (λ p. bytes p.1) (used map i xs) ≡ slot_bytes bytes map i xs
  bytes_used map i [] = refl
  bytes_used map i (x ∷ xs) =
      let e = bytes_used map (i + 1) xs in
      elim (cases_Bool (bit map i)) [ inl b ↦ rw b (ap (λ ys. bytes x ++ ys) e) | inr b ↦ rw b e ]

-- four parts put one after the other
module _ (w h s m n a b c : List ℕ) (e : a ≡ w ++ h) (f : b ≡ a ++ s) (g : c ≡ b ++ m) where
  pub four_joined : (d : List ℕ) → d ≡ c ++ n → d ≡ w ++ (h ++ (s ++ (m ++ n)))
  four_joined d k = rw (k, g, f, e) (simp append_assoc)

  pub last_fits : (most : ℕ) → length w + length (h ++ (s ++ (m ++ n))) ≤ most → length c + length n ≤ most
  last_fits most l =
      omega (arith, simp length-append at l, simp length-append at (ap length e), simp length-append at (ap length f), simp length-append at (ap length g))
