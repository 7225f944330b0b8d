-- Assignments and the published variables correspond one to one. Assumes nothing.
use Rattle.std.proofs.Common.{◌≡◌, ℕ, zero, suc, ◌+◌, ◌*◌, ◌<◌, ◌≤◌, Bool, true, false, cond, eqb, ◌⊎◌, List, [], ◌∷◌, map, length, get_or, sym, refl, ap, ◌∙◌, subst, ap₂, inl, inr, ⊎_elim, mul-zero, zero-add, mul-one, arith}
use Rattle.netlist.specs.Netlist.{Netlist, modules, lawful, no_choice}
use Rattle.netlist.specs.Rules.{Rules, Offered, menu, choice, voltage}
use Rattle.netlist.specs.Slots.{bit, standing}
use Rattle.netlist.specs.declared.parts.Choice.{Choice}
use Rattle.netlist.proofs.Kept.{kept, kept_supplies}
use Rattle.netlist.proofs.Words.{keeps_rules, kept_at}
use Rattle.std.proofs.lemmas.List.FromFn.{get_or-range_with_len, length-map-range_with_len, get_or-map-range_with_len, fill_by_all}
use Rattle.std.proofs.lemmas.List.{length-map, get_or-map, get_or_past}
use Rattle.std.proofs.lemmas.Bool.{cases_lt, cases_eq, eq-eqb, ne_eqb, cond-true, cond-false, both_ways}
use Rattle.std.specs.List.{range_with_len, AllByRecursion as All}
use Rattle.timing.specs.Assignments.{Assigns, supply}
use Rattle.timing.specs.Published.{Selection, Selects, Binary, weighed, total, offers, numbers, chosen, selected, selection_of, assignment_of, delay_at, power_at, voltage_at}

-- Tables of places under a map ------------------------------------------------------------------------------------------
pub map-standing : {X Y : Type 0} (f : X → Y) (map' i : ℕ) (xs : List X) → map f (standing map' i xs) ≡ standing map' i (map f xs)
map-standing f map' i [] = refl
map-standing f map' i (x ∷ xs) = go (bit map' i) (map-standing f map' (i + 1) xs)
  where
    go : (b : Bool) → map f (standing map' (i + 1) xs) ≡ standing map' (i + 1) (map f xs) →
        map f (cond b (x ∷ standing map' (i + 1) xs) (standing map' (i + 1) xs)) ≡ cond b (f x ∷ standing map' (i + 1) (map f xs)) (standing map' (i + 1) (map f xs))
    go true ih = ap (λ ys. f x ∷ ys) ih
    go false ih = ih

pub length-standing : {X Y : Type 0} (map' i : ℕ) (xs : List X) (ys : List Y) → length xs ≡ length ys → length (standing map' i xs) ≡ length (standing map' i ys)
length-standing map' i [] [] e = refl
length-standing map' i [] (y ∷ ys) e = absurd (omega arith)
length-standing map' i (x ∷ xs) [] e = absurd (omega arith)
length-standing map' i (x ∷ xs) (y ∷ ys) e = go (bit map' i) (length-standing map' (i + 1) xs ys (omega arith))
  where
    go : (b : Bool) → length (standing map' (i + 1) xs) ≡ length (standing map' (i + 1) ys) →
        length (cond b (x ∷ standing map' (i + 1) xs) (standing map' (i + 1) xs)) ≡ length (cond b (y ∷ standing map' (i + 1) ys) (standing map' (i + 1) ys))
    go true ih = ap suc ih
    go false ih = ih

-- One chosen place of a table -------------------------------------------------------------------------------------------
chosen_same : (s q : ℕ) → q ≡ s → chosen s q ≡ 1
chosen_same s q e = cond-true (eqb q s) 1 0 (eq-eqb q s e)

chosen_other : (s q : ℕ) → (q ≡ s → ⊥) → chosen s q ≡ 0
chosen_other s q ne = cond-false (eqb q s) 1 0 (ne_eqb q s ne)

pub chosen_binary : (s q : ℕ) → Binary (chosen s q)
chosen_binary s q = ⊎_elim (λ e. inr (chosen_same s q e)) (λ ne. inl (chosen_other s q ne)) (cases_eq q s)

weighed_none : (xs us : List ℕ) → total us ≡ 0 → weighed xs us ≡ 0
weighed_none [] us z = refl
weighed_none (x ∷ xs) [] z = refl
weighed_none (x ∷ xs) (u ∷ us) z =
    let e : u ≡ 0 = omega arith in
    let t = weighed_none xs us (omega arith) in
    let m : x * u ≡ 0 = ap (λ v. x * v) e ∙ mul-zero x in
    omega arith

-- the used places of a table of k places that begins with place i, and which of them is place s
module _ (map' : ℕ) where
  abbrev pub places : ℕ → ℕ → List ℕ
  places i k = standing map' i (range_with_len i k)

  abbrev pub marks : ℕ → ℕ → ℕ → List ℕ
  marks s i k = map (chosen s) (places i k)

  -- a place before the table is none of it
  total_unmarked : (s i k : ℕ) → s < i → total (marks s i k) ≡ 0
  total_unmarked s i zero h = refl
  total_unmarked s i (suc k) h = go (bit map' i) (total_unmarked s (i + 1) k (omega arith))
    where
      go : (b : Bool) → total (marks s (i + 1) k) ≡ 0 → total (map (chosen s) (cond b (i ∷ places (i + 1) k) (places (i + 1) k))) ≡ 0
      go true ih = let one = chosen_other s i (λ e. omega arith) in omega arith
      go false ih = ih

  none_marked : (s i k : ℕ) (us : List ℕ) → s < i → length us ≡ length (places i k) → total us ≡ 0 → marks s i k ≡ us
  none_marked s i zero [] h l z = refl
  none_marked s i zero (u ∷ us) h l z = absurd (omega arith)
  none_marked s i (suc k) us h l z = go (bit map' i) us l z (λ vs. none_marked s (i + 1) k vs (omega arith))
    where
      go : (b : Bool) (us : List ℕ) → length us ≡ length (cond b (i ∷ places (i + 1) k) (places (i + 1) k)) → total us ≡ 0 →
          ((vs : List ℕ) → length vs ≡ length (places (i + 1) k) → total vs ≡ 0 → marks s (i + 1) k ≡ vs) →
          map (chosen s) (cond b (i ∷ places (i + 1) k) (places (i + 1) k)) ≡ us
      go true [] l z ih = absurd (omega arith)
      go true (u ∷ us) l z ih =
          let one = chosen_other s i (λ e. omega arith) in
          let same : chosen s i ≡ u = omega arith in
          ap₂ (λ x xs. x ∷ xs) same (ih us (omega arith) (omega arith))
      go false us l z ih = ih us l z

  -- one of it is marked once
  pub total_marked : (s i k : ℕ) → i ≤ s → s < i + k → bit map' s ≡ true → total (marks s i k) ≡ 1
  total_marked s i zero l h b = absurd (omega arith)
  total_marked s i (suc k) l h b = go (bit map' i) refl (cases_eq i s) (λ ne. total_marked s (i + 1) k (omega (arith, ne)) (omega arith) b)
    where
      go : (c : Bool) → bit map' i ≡ c → (i ≡ s) ⊎ (i ≡ s → ⊥) → ((i ≡ s → ⊥) → total (marks s (i + 1) k) ≡ 1) → total (map (chosen s) (cond c (i ∷ places (i + 1) k) (places (i + 1) k))) ≡ 1
      go true c (inl e) ih = let one = chosen_same s i e in let z = total_unmarked s (i + 1) k (omega arith) in omega arith
      go true c (inr ne) ih = let one = chosen_other s i ne in let t = ih ne in omega arith
      go false c (inl e) ih = absurd (both_ways (bit map' i) c (ap (bit map') e ∙ b))
      go false c (inr ne) ih = ih ne

  -- and what is weighed by the marks is what stands there
  pub weighed_marked : (s i j : ℕ) (xs : List ℕ) → s ≡ i + j → j < length xs → bit map' s ≡ true → weighed (standing map' i xs) (marks s i (length xs)) ≡ get_or xs j 0
  weighed_marked s i j [] e h b = absurd (omega arith)
  weighed_marked s i zero (x ∷ xs) e h b =
      let c : bit map' i ≡ true = ap (bit map') (let d : i ≡ s = omega arith in d) ∙ b in
      let one : x * chosen s i ≡ x = ap (λ u. x * u) (chosen_same s i (omega arith)) ∙ mul-one x in
      let z = weighed_none (standing map' (i + 1) xs) (marks s (i + 1) (length xs)) (total_unmarked s (i + 1) (length xs) (omega arith)) in
      rw c (omega (arith, one, z))
  weighed_marked s i (suc j) (x ∷ xs) e h b = go (bit map' i) (weighed_marked s (i + 1) j xs (omega arith) (omega arith) b)
    where
      k : ℕ
      k = length xs

      go : (c : Bool) → weighed (standing map' (i + 1) xs) (marks s (i + 1) (length xs)) ≡ get_or xs j 0 →
          weighed (cond c (x ∷ standing map' (i + 1) xs) (standing map' (i + 1) xs)) (map (chosen s) (cond c (i ∷ places (i + 1) (length xs)) (places (i + 1) (length xs)))) ≡ get_or xs j 0
      go true ih = let none : x * chosen s i ≡ 0 = ap (λ u. x * u) (chosen_other s i (λ d. omega arith)) ∙ mul-zero x in omega arith
      go false ih = ih

  -- Binary variables of sum 1, one for each used place, mark one place.
  abbrev MarksOne : ℕ → ℕ → List ℕ → List ℕ → Type 0
  MarksOne i k ps us = (i ≤ weighed ps us) × (weighed ps us < i + k) × (bit map' (weighed ps us) ≡ true) × (map (chosen (weighed ps us)) ps ≡ us)

  pub marked_one : (i k : ℕ) (us : List ℕ) → length us ≡ length (places i k) → All Binary us → total us ≡ 1 → MarksOne i k (places i k) us
  marked_one i zero [] l a t = absurd (omega arith)
  marked_one i zero (u ∷ us) l a t = absurd (omega arith)
  marked_one i (suc k) us l a t = go (bit map' i) refl us l a t (marked_one (i + 1) k)
    where
      go : (b : Bool) → bit map' i ≡ b → (us : List ℕ) → length us ≡ length (cond b (i ∷ places (i + 1) k) (places (i + 1) k)) → All Binary us → total us ≡ 1 →
          ((us : List ℕ) → length us ≡ length (places (i + 1) k) → All Binary us → total us ≡ 1 → MarksOne (i + 1) k (places (i + 1) k) us) →
          MarksOne i (suc k) (cond b (i ∷ places (i + 1) k) (places (i + 1) k)) us
      go false b us l a t ih =
          let r = ih us l a t in
          (omega (arith, r.0), omega (arith, r.1), r.2, r.3)
      go true b [] l a t ih = absurd (omega arith)
      go true b (u ∷ us) l (inl z, a) t ih =
          let r = ih us (omega arith) a (omega arith) in
          let m : i * u ≡ 0 = ap (λ v. i * v) z ∙ mul-zero i in
          let w : ℕ = weighed (places (i + 1) k) us in
          let e : i * u + w ≡ w = omega arith in
          let other = chosen_other w i (λ d. omega (arith, r.0)) in
          let P : ℕ → Type 0 = λ w. (i ≤ w) × (w < i + suc k) × (bit map' w ≡ true) × (map (chosen w) (i ∷ places (i + 1) k) ≡ u ∷ us) in
          subst P (sym e) (omega (arith, r.0), omega (arith, r.1), r.2, ap₂ (λ x xs. x ∷ xs) (other ∙ sym z) r.3)
      go true b (u ∷ us) l (inr z, a) t ih =
          let m : i * u ≡ i = ap (λ v. i * v) z ∙ mul-one i in
          let n = weighed_none (places (i + 1) k) us (omega arith) in
          let e : i * u + weighed (places (i + 1) k) us ≡ i = omega arith in
          let P : ℕ → Type 0 = λ w. (i ≤ w) × (w < i + suc k) × (bit map' w ≡ true) × (map (chosen w) (i ∷ places (i + 1) k) ≡ u ∷ us) in
          subst P (sym e) (omega arith, omega arith, b, ap₂ (λ x xs. x ∷ xs) (chosen_same i i refl ∙ sym z) (none_marked i (i + 1) k us (omega arith) (omega arith) (omega arith)))

-- Assignments and selections ---------------------------------------------------------------------------------------------
module _ (n : Netlist) (ok : lawful n ≡ true) where
  law : Rules n
  law = keeps_rules n ok

  offered_below : (m s : ℕ) → Offered n m s → s < 8
  offered_below m s b = let l = law.supply_numbers s (law.of_the_design m s b) in omega arith

  eight_choices : (m : ℕ) → m < modules n → length (menu n m).values ≡ 8
  eight_choices m h = (kept_at n ok m h).eight

  eight_voltages : length n.supplies.values ≡ 8
  eight_voltages = (kept_supplies n.supplies (kept n ok).supplies).eight

  module _ (a : List ℕ) (assigns : Assigns n a) where
    -- where there is no module, supply 0 is named
    pub supply_below : (m : ℕ) → supply a m < 8
    supply_below m = ⊎_elim
        (λ h. offered_below m (supply a m) (assigns.of_its_menu m h))
        (λ h. let past = get_or_past a m 0 (let l = assigns.one_each in omega arith) in omega arith)
        (cases_lt m (modules n))

    -- what module m has under the variables of an assignment is what it has at its supply
    pub selection_at : (m : ℕ) → m < modules n → get_or (selection_of n a) m [] ≡ selected n a m
    selection_at m h = get_or-map-range_with_len (selected n a) 0 (modules n) m m [] h (omega arith)

    weighed_at : (m : ℕ) → m < modules n → (xs : List ℕ) → length xs ≡ 8 → weighed (standing (menu n m).map 0 xs) (get_or (selection_of n a) m []) ≡ get_or xs (supply a m) 0
    weighed_at m h xs e =
        let b = assigns.of_its_menu m h in
        let l = supply_below m in
        let w = weighed_marked (menu n m).map (supply a m) 0 (supply a m) xs (omega arith) (omega arith) b in
        let P : ℕ → Type 0 = λ k. weighed (standing (menu n m).map 0 xs) (marks (menu n m).map (supply a m) 0 k) ≡ get_or xs (supply a m) 0 in
        ap (weighed (standing (menu n m).map 0 xs)) (selection_at m h) ∙ subst P e w

    choice_weighed : (f : Choice → ℕ) → (m : ℕ) → m < modules n → weighed (map f (offers n m)) (get_or (selection_of n a) m []) ≡ f (choice n m (supply a m))
    choice_weighed f m h =
        let e = eight_choices m h in
        let l = supply_below m in
        ap (λ xs. weighed xs (get_or (selection_of n a) m [])) (map-standing f (menu n m).map 0 (menu n m).values)
        ∙ weighed_at m h (map f (menu n m).values) (length-map (menu n m).values f ∙ e)
        ∙ get_or-map f (menu n m).values (supply a m) no_choice 0 (omega arith)

    pub delay_same : (m : ℕ) → m < modules n → delay_at n (selection_of n a) m ≡ (choice n m (supply a m)).delay
    delay_same = choice_weighed (λ (c : Choice). c.delay)

    pub power_same : (m : ℕ) → m < modules n → power_at n (selection_of n a) m ≡ (choice n m (supply a m)).power
    power_same = choice_weighed (λ (c : Choice). c.power)

    pub voltage_same : (m : ℕ) → m < modules n → voltage_at n (selection_of n a) m ≡ voltage n (supply a m)
    voltage_same m h = weighed_at m h n.supplies.values eight_voltages

    pub number_same : (m : ℕ) → m < modules n → weighed (numbers n m) (get_or (selection_of n a) m []) ≡ supply a m
    number_same m h =
        weighed_at m h (range_with_len 0 8) refl
        ∙ get_or-range_with_len 0 8 (supply a m) 0 (supply_below m)
        ∙ zero-add (supply a m)

    pub selects_all : Selects n (selection_of n a)
    selects_all =
        record {
          one_each = length-map-range_with_len (selected n a) 0 (modules n);
          as_many = λ i h. ap length (selection_at i h) ∙ length-map (numbers n i) (chosen (supply a i)) ∙ length-standing (menu n i).map 0 (range_with_len 0 8) (menu n i).values (sym (eight_choices i h));
          binary = λ i h. subst (All Binary) (sym (selection_at i h)) (binary i (numbers n i));
          exactly_one = λ i h. ap total (selection_at i h) ∙ (let l = supply_below i in total_marked (menu n i).map (supply a i) 0 8 (omega arith) (omega arith) (assigns.of_its_menu i h));
        }
      where
        binary : (i : ℕ) (qs : List ℕ) → All Binary (map (chosen (supply a i)) qs)
        binary i [] = tt
        binary i (q ∷ qs) = (chosen_binary (supply a i) q, binary i qs)

  module _ (u : Selection) (selects : Selects n u) where
    one_at : (m : ℕ) → (h : m < modules n) → (0 ≤ weighed (numbers n m) (get_or u m [])) × (weighed (numbers n m) (get_or u m []) < 0 + 8) × Offered n m (weighed (numbers n m) (get_or u m [])) × (marks (menu n m).map (weighed (numbers n m) (get_or u m [])) 0 8 ≡ get_or u m [])
    one_at m h =
        marked_one (menu n m).map 0 8 (get_or u m [])
        (selects.as_many m h ∙ length-standing (menu n m).map 0 (menu n m).values (range_with_len 0 8) (eight_choices m h))
        (selects.binary m h) (selects.exactly_one m h)

    assignment_at : (m : ℕ) → m < modules n → supply (assignment_of n u) m ≡ weighed (numbers n m) (get_or u m [])
    assignment_at m h = get_or-map-range_with_len (λ i. weighed (numbers n i) (get_or u i [])) 0 (modules n) m m 0 h (omega arith)

    pub assigns_all : Assigns n (assignment_of n u)
    assigns_all =
        record {
          one_each = length-map-range_with_len (λ i. weighed (numbers n i) (get_or u i [])) 0 (modules n);
          of_its_menu = λ m h. subst (Offered n m) (sym (assignment_at m h)) (one_at m h).2;
        }

    pub back_and_there : selection_of n (assignment_of n u) ≡ u
    back_and_there = sym (fill_by_all (selected n (assignment_of n u)) u (modules n) [] selects.one_each
        (λ m h. sym (one_at m h).3 ∙ ap (λ s. map (chosen s) (numbers n m)) (sym (assignment_at m h))))

  pub there_and_back : (a : List ℕ) → Assigns n a → assignment_of n (selection_of n a) ≡ a
  there_and_back a h = sym (fill_by_all (λ i. weighed (numbers n i) (get_or (selection_of n a) i [])) a (modules n) 0 h.one_each (λ m l. sym (number_same a h m l)))
