-- Tables of eight places under a map. Assumes nothing.
use Rattle.std.proofs.Common.{◌≡◌, ℕ, zero, suc, ◌+◌, ◌^◌, ◌<◌, ◌≤◌, Bool, true, false, cond, not, List, [], ◌∷◌, ◌++◌, length, get_or, take, drop, set, Some, None, Option, sym, refl, ap, ◌∙◌, ap₂, inl, inr, ⊎_elim, add-zero, zero-add, arith, pow_mono}
use Rattle.std.specs.List.{list_all}
use Rattle.std.proofs.lemmas.Bool.{and_parts, and_from, cases_Bool, not_from_false, not-true}
use Rattle.std.proofs.lemmas.List.{append-nil, append_assoc, at_drop_more, at_drop_all, length-set, get_or-set_other, take_all, take_more, take_more_set, drop-set-lt}
use Rattle.netlist.specs.Slots.{bit, standing, absent, cleared}
use Rattle.netlist.specs.Netlist.{in_order}
use Rattle.netlist.proofs.Bools.{after_first}
use Rattle.netlist.proofs.Maps.{bit_past, bit_add_low, bit_add_same, bit_add_past, bit_add_left}

module _ {T : Type 0} where
  -- the values at the places that a test picks
  abbrev pub picked : (ℕ → Bool) → ℕ → List T → List T
  picked p i [] = []
  picked p i (x ∷ xs) = cond (p i) (x ∷ picked p (i + 1) xs) (picked p (i + 1) xs)

  pub standing_picked : (map i : ℕ) (xs : List T) → standing map i xs ≡ picked (bit map) i xs
  standing_picked map i [] = refl
  standing_picked map i (x ∷ xs) = rw (standing_picked map (i + 1) xs)

  pub absent_picked : (map i : ℕ) (xs : List T) → absent map i xs ≡ picked (λ k. not (bit map k)) i xs
  absent_picked map i [] = refl
  absent_picked map i (x ∷ xs) =
      let e = absent_picked map (i + 1) xs in
      let ys = picked (λ k. not (bit map k)) (i + 1) xs in
      let c : cond (bit map i) ys (x ∷ ys) ≡ cond (not (bit map i)) (x ∷ ys) ys =
      elim (bit map i) as (λ b. cond b ys (x ∷ ys) ≡ cond (not b) (x ∷ ys) ys) [ true ↦ refl | false ↦ refl ] in
      rw e c

  -- a test of each picked value, by place
  module _ (test : T → Bool) (p : ℕ → Bool) where
    rest : (b : Bool) (x : T) (ys : List T) → list_all test (cond b (x ∷ ys) ys) ≡ true → list_all test ys ≡ true
    rest true x ys h = (and_parts (test x) (list_all test ys) h).1
    rest false x ys h = h

    pub list_all_picked : (i : ℕ) (xs : List T) → list_all test (picked p i xs) ≡ true → (k : ℕ) (d : T) → k < length xs → p (i + k) ≡ true → test (get_or xs k d) ≡ true
    list_all_picked i [] h k d l b = absurd (omega arith)
    list_all_picked i (x ∷ xs) h zero d l b =
        let c : p i ≡ true = rw add-zero at b in
        (and_parts (test x) (list_all test (picked p (i + 1) xs)) (rw c at h)).0
    list_all_picked i (x ∷ xs) h (suc k) d l b =
        let e : i + suc k ≡ (i + 1) + k = omega arith in
        list_all_picked (i + 1) xs (rest (p i) x (picked p (i + 1) xs) h) k d (omega arith) (rw e at b)

    pub list_all_picked_from : (i : ℕ) (xs : List T) → ((k : ℕ) (d : T) → k < length xs → p (i + k) ≡ true → test (get_or xs k d) ≡ true) → list_all test (picked p i xs) ≡ true
    list_all_picked_from i [] h = refl
    list_all_picked_from i (x ∷ xs) h =
        let ys = picked p (i + 1) xs in
        let r : list_all test ys ≡ true = list_all_picked_from (i + 1) xs
        (λ k d l b. let e : i + suc k ≡ (i + 1) + k = omega arith in h (suc k) d (omega arith) (rw e b)) in
        ⊎_elim (λ (b : p i ≡ true). rw b (and_from (test x) (list_all test ys) (h zero x (omega arith) (rw add-zero b)) r))
        (λ (b : p i ≡ false). rw b r)
        (cases_Bool (p i))

  -- values picked in order: each follows each before it
  module _ (follows : Option T → T → Bool) (chain : (x y z : T) → follows (Some x) y ≡ true → follows (Some y) z ≡ true → follows (Some x) z ≡ true) (p : ℕ → Bool) where
    in_order_rest : (b : Bool) (last : Option T) (x : T) (ys : List T) → in_order follows last (cond b (x ∷ ys) ys) ≡ true → (l : Option T) × (in_order follows l ys ≡ true)
    in_order_rest true last x ys h = (Some x, (and_parts (follows last x) (in_order follows (Some x) ys) h).1)
    in_order_rest false last x ys h = (last, h)

    pub in_order_picked : (i : ℕ) (xs : List T) (last : Option T) → in_order follows last (picked p i xs) ≡ true → (j k : ℕ) (d : T) → j < k → k < length xs → p (i + j) ≡ true → p (i + k) ≡ true → follows (Some (get_or xs j d)) (get_or xs k d) ≡ true
    in_order_picked i [] last h j k d jk l a b = absurd (omega arith)
    in_order_picked i (x ∷ xs) last h j zero d jk l a b = absurd (omega arith)
    in_order_picked i (x ∷ xs) last h zero (suc k) d jk l a b =
        let c : p i ≡ true = rw add-zero at a in
        let ys = picked p (i + 1) xs in
        let e = (and_parts (follows last x) (in_order follows (Some x) ys) (rw c at h)).1 in
        let s : i + suc k ≡ (i + 1) + k = omega arith in
        list_all_picked (follows (Some x)) p (i + 1) xs (after_first follows chain x ys e) k d (omega arith) (rw s at b)
    in_order_picked i (x ∷ xs) last h (suc j) (suc k) d jk l a b =
        let r = in_order_rest (p i) last x (picked p (i + 1) xs) h in
        let s : i + suc k ≡ (i + 1) + k = omega arith in
        let t : i + suc j ≡ (i + 1) + j = omega arith in
        in_order_picked (i + 1) xs r.0 r.1 j k d (omega arith) (omega arith) (rw t at a) (rw s at b)

-- the same by the bits of a map, from place 0
module _ {T : Type 0} (map : ℕ) (xs : List T) where
  pub standing_at : (test : T → Bool) → list_all test (standing map 0 xs) ≡ true → (k : ℕ) (d : T) → k < length xs → bit map k ≡ true → test (get_or xs k d) ≡ true
  standing_at test h k d l b = list_all_picked test (bit map) 0 xs (rw (standing_picked map 0 xs) at h) k d l (rw zero-add b)

  pub standing_from : (test : T → Bool) → ((k : ℕ) (d : T) → k < length xs → bit map k ≡ true → test (get_or xs k d) ≡ true) → list_all test (standing map 0 xs) ≡ true
  standing_from test h = rw (standing_picked map 0 xs) (list_all_picked_from test (bit map) 0 xs (λ k d l b. h k d l (rw zero-add at b)))

  pub absent_at : (test : T → Bool) → list_all test (absent map 0 xs) ≡ true → (k : ℕ) (d : T) → k < length xs → bit map k ≡ false → test (get_or xs k d) ≡ true
  absent_at test h k d l b =
      list_all_picked test (λ i. not (bit map i)) 0 xs (rw (absent_picked map 0 xs) at h) k d l (rw zero-add (not_from_false (bit map k) b))

  pub absent_from : (test : T → Bool) → ((k : ℕ) (d : T) → k < length xs → bit map k ≡ false → test (get_or xs k d) ≡ true) → list_all test (absent map 0 xs) ≡ true
  absent_from test h =
      rw (absent_picked map 0 xs) (list_all_picked_from test (λ i. not (bit map i)) 0 xs (λ k d l b. h k d l (not-true (bit map k) (rw zero-add at b))))

  pub order_at : (follows : Option T → T → Bool) → ((x y z : T) → follows (Some x) y ≡ true → follows (Some y) z ≡ true → follows (Some x) z ≡ true) → in_order follows None (standing map 0 xs) ≡ true → (j k : ℕ) (d : T) → j < k → k < length xs → bit map j ≡ true → bit map k ≡ true → follows (Some (get_or xs j d)) (get_or xs k d) ≡ true
  order_at follows chain h j k d jk l a b =
      in_order_picked follows chain (bit map) 0 xs None (rw (standing_picked map 0 xs) at h) j k d jk l (rw zero-add a) (rw zero-add b)

module _ {T : Type 0} where
  -- what is left of a table from place i on, one place further and at the end
  pub left_more : {Y : Type 0} (F : List T → Y) (map : ℕ) (xs : List T) (i : ℕ) (d : T) → i < length xs → F (standing map i (drop i xs)) ≡ F (cond (bit map i) (get_or xs i d ∷ standing map (i + 1) (drop (i + 1) xs)) (standing map (i + 1) (drop (i + 1) xs)))
  left_more F map xs i d h = at_drop_more (λ l. F (standing map i l)) xs i d h

  pub left_none : {Y : Type 0} (F : List T → Y) (map : ℕ) (xs : List T) (i : ℕ) → length xs ≤ i → F (standing map i (drop i xs)) ≡ F []
  left_none F map xs i h = at_drop_all (λ l. F (standing map i l)) xs i h

  -- past the map's last bit nothing stands
  pub standing_past : (map i : ℕ) (xs : List T) → ((k : ℕ) → i ≤ k → bit map k ≡ false) → standing map i xs ≡ []
  standing_past map i [] h = refl
  standing_past map i (x ∷ xs) h =
      let b = h i (omega arith) in
      rw b (standing_past map (i + 1) xs (λ k l. h k (omega arith)))

  -- a bit above all others adds its value at the end
  pub standing_add : (map n i j : ℕ) (xs : List T) (v : T) → i + j ≡ n → map < 2 ^ n → j < length xs → standing (map + 2 ^ n) i (set xs j v) ≡ standing map i xs ++ v ∷ []
  standing_add map n i j [] v e h l = absurd (omega arith)
  standing_add map n i zero (x ∷ xs) v e h l =
      let p : i ≡ n = omega arith in
      let b : bit (map + 2 ^ n) i ≡ true = rw p (bit_add_same map n h) in
      let m : map < 2 ^ i = rw p h in
      let r = standing_past (map + 2 ^ n) (i + 1) xs (λ k g. bit_add_past map n k h (omega arith)) in
      let s = standing_past map i (x ∷ xs) (λ k g. bit_past map k (let w : 2 ^ i ≤ 2 ^ k = pow_mono g in omega arith)) in
      rw b (rw r (rw s refl))
  standing_add map n i (suc j) (x ∷ xs) v e h l =
      let b = bit_add_low map n i (omega arith) in
      let r = standing_add map n (i + 1) j xs v (omega arith) h (omega arith) in
      let ys = standing map (i + 1) xs in
      let c : cond (bit map i) (x ∷ ys ++ v ∷ []) (ys ++ v ∷ []) ≡ cond (bit map i) (x ∷ ys) ys ++ v ∷ [] =
      elim (bit map i) as (λ b. cond b (x ∷ ys ++ v ∷ []) (ys ++ v ∷ []) ≡ cond b (x ∷ ys) ys ++ v ∷ []) [ true ↦ refl | false ↦ refl ] in
      rw b (rw r c)

  -- and leaves the places without a value as they were
  pub absent_add : (test : T → Bool) (map n : ℕ) (xs : List T) (v : T) → map < 2 ^ n → list_all test (absent map 0 xs) ≡ true → list_all test (absent (map + 2 ^ n) 0 (set xs n v)) ≡ true
  absent_add test map n xs v h a =
      absent_from (map + 2 ^ n) (set xs n v) test (λ k d l b.
      let p = bit_add_left map n k h b in
      let t : k < length xs = simp length-set at l in
      rw (get_or-set_other xs n k v d p.0) (absent_at map xs test a k d t p.1))

module _ {T : Type 0} (none : T) (map : ℕ) where
  pub length_cleared : (i : ℕ) (xs : List T) → length (cleared none map i xs) ≡ length xs
  length_cleared i [] = refl
  length_cleared i (x ∷ xs) = ap suc (length_cleared (i + 1) xs)

  pub standing_cleared : (i : ℕ) (xs : List T) → standing map i (cleared none map i xs) ≡ standing map i xs
  standing_cleared i [] = refl
  standing_cleared i (x ∷ xs) =
      let e = standing_cleared (i + 1) xs in
      elim (cases_Bool (bit map i)) [ inl b ↦ rw b (ap (λ ys. x ∷ ys) e) | inr b ↦ rw b e ]

  pub absent_cleared : (test : T → Bool) → test none ≡ true → (i : ℕ) (xs : List T) → list_all test (absent map i (cleared none map i xs)) ≡ true
  absent_cleared test t i [] = refl
  absent_cleared test t i (x ∷ xs) =
      let e = absent_cleared test t (i + 1) xs in
      elim (cases_Bool (bit map i)) [
        | inl b ↦ rw b e
        | inr b ↦ rw b (and_from (test none) (list_all test (absent map (i + 1) (cleared none map (i + 1) xs))) t e)
      ]

  -- a table with nothing at the places without a bit stays as it is
  pub cleared_same : (test : T → Bool) → ((x : T) → test x ≡ true → x ≡ none) → (i : ℕ) (xs : List T) → list_all test (absent map i xs) ≡ true → cleared none map i xs ≡ xs
  cleared_same test t i [] h = refl
  cleared_same test t i (x ∷ xs) h =
      elim (cases_Bool (bit map i)) [
        | inl b ↦ rw b (ap (λ ys. x ∷ ys) (cleared_same test t (i + 1) xs (rw b at h)))
        | inr b ↦
            let p = and_parts (test x) (list_all test (absent map (i + 1) xs)) (rw b at h) in
            rw b (ap₂ ◌∷◌ (sym (t x p.0)) (cleared_same test t (i + 1) xs p.1))
      ]

  -- clearing a table place by place: the places before i are done
  abbrev pub cleared_from : ℕ → List T → List T
  cleared_from i xs = take i xs ++ cleared none map i (drop i xs)

  pub clear_keeps : (i : ℕ) (xs : List T) (d : T) → i < length xs → bit map i ≡ true → cleared_from (i + 1) xs ≡ cleared_from i xs
  clear_keeps i xs d h b =
      let ys = cleared none map (i + 1) (drop (i + 1) xs) in
      let e : cleared none map i (drop i xs) ≡ get_or xs i d ∷ ys = at_drop_more (cleared none map i) xs i d h ∙ ap (λ v. cond v (get_or xs i d) none ∷ ys) b in
      ap (λ zs. zs ++ ys) (take_more xs i d h) ∙ append_assoc (take i xs) (get_or xs i d ∷ []) ys ∙ ap (λ zs. take i xs ++ zs) (sym e)

  pub clear_sets : (i : ℕ) (xs : List T) → i < length xs → bit map i ≡ false → cleared_from (i + 1) (set xs i none) ≡ cleared_from i xs
  clear_sets i xs h b =
      let ys = cleared none map (i + 1) (drop (i + 1) xs) in
      let e : cleared none map i (drop i xs) ≡ none ∷ ys = at_drop_more (cleared none map i) xs i none h ∙ ap (λ v. cond v (get_or xs i none) none ∷ ys) b in
      let d : drop (i + 1) (set xs i none) ≡ drop (i + 1) xs = drop-set-lt (i + 1) xs i none (omega arith) in
      ap (λ zs. zs ++ cleared none map (i + 1) (drop (i + 1) (set xs i none))) (take_more_set xs i none h)
      ∙ ap (λ zs. (take i xs ++ none ∷ []) ++ cleared none map (i + 1) zs) d
      ∙ append_assoc (take i xs) (none ∷ []) ys ∙ ap (λ zs. take i xs ++ zs) (sym e)

  pub clear_done : (i : ℕ) (xs : List T) → length xs ≤ i → cleared_from i xs ≡ xs
  clear_done i xs h = ap (λ zs. take i xs ++ zs) (at_drop_all (cleared none map i) xs i h) ∙ append-nil (take i xs) ∙ take_all i xs h
