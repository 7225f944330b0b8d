-- The nets in the order of their receivers: what one net more changes, and where the nets into a module stand. Assumes nothing.
use Rattle.std.proofs.Common.{◌≡◌, ℕ, zero, suc, ◌+◌, ◌-◌, ◌<◌, ◌≤◌, true, false, cond, eqb, ltb, List, [], ◌∷◌, ◌++◌, length, get_or, replicate, sym, refl, ap, ◌∙◌, inl, inr, add-zero, zero-add, add-one, arith}
use Rattle.std.proofs.lemmas.List.FromFn.{get_or-map-range_with_len, fill_by_all}
use Rattle.std.proofs.lemmas.List.Edits.{length-insert}
use Rattle.std.proofs.lemmas.List.{append-nil, append_assoc, length-append, length-map, length-replicate, get_or-replicate, take_at, drop_at, map_push}
use Rattle.std.proofs.lemmas.Slice.{between_is}
use Rattle.std.proofs.lemmas.Bool.{and_parts, cases_Bool, cases_lt, eq-eqb, ne_eqb}
use Rattle.std.proofs.lemmas.Bool.Decides.{nat_tests}
use Rattle.std.specs.List.{between, insert, list_all}
use Rattle.netlist.specs.declared.parts.Net.{Net}
use Rattle.netlist.specs.ByReceiver.{receivers, into, into_below, begin, begins, Index}
use Rattle.netlist.specs.FanIn.{fan_in_from}
use Rattle.netlist.specs.Netlist.{net_lawful}

-- the nets into one module
pub into-receivers : (m i : ℕ) (ts : List Net) → into m i (receivers ts) ≡ fan_in_from m i ts
into-receivers m i [] = refl
into-receivers m i (t ∷ ts) = rw (into-receivers m (i + 1) ts)

pub into_push : (m i : ℕ) (rs : List ℕ) (r : ℕ) → into m i (rs ++ r ∷ []) ≡ into m i rs ++ cond (eqb r m) ((i + length rs) ∷ []) []
into_push m i [] r = rw add-zero
into_push m i (x ∷ rs) r =
    let e = into_push m (i + 1) rs r in
    let a : i + suc (length rs) ≡ (i + 1) + length rs = omega arith in
    let ys = into m (i + 1) rs in
    let zs = cond (eqb r m) (((i + 1) + length rs) ∷ []) [] in
    let c : cond (eqb x m) (i ∷ ys ++ zs) (ys ++ zs) ≡ cond (eqb x m) (i ∷ ys) ys ++ zs =
    elim (eqb x m) as (λ b. cond b (i ∷ ys ++ zs) (ys ++ zs) ≡ cond b (i ∷ ys) ys ++ zs) [ true ↦ refl | false ↦ refl ] in
    rw (a, e) c

pub into_other : (m : ℕ) (rs : List ℕ) (r : ℕ) → (r ≡ m → ⊥) → into m 0 (rs ++ r ∷ []) ≡ into m 0 rs
into_other m rs r h = into_push m 0 rs r ∙ rw (ne_eqb r m h) (append-nil (into m 0 rs))

pub into_same : (rs : List ℕ) (r : ℕ) → into r 0 (rs ++ r ∷ []) ≡ into r 0 rs ++ length rs ∷ []
into_same rs r = into_push r 0 rs r ∙ rw (eq-eqb r r refl, zero-add)

-- how many there are does not hang on the number of the first net
pub length-into : (m i j : ℕ) (rs : List ℕ) → length (into m i rs) ≡ length (into m j rs)
length-into m i j [] = refl
length-into m i j (r ∷ rs) =
    let e = length-into m (i + 1) (j + 1) rs in
    elim (cases_Bool (eqb r m)) [ inl b ↦ rw b (ap suc e) | inr b ↦ rw b e ]

-- there are none into a module that no net may have for its receiver
pub fan_in_past : (n m i : ℕ) (ts : List Net) → list_all (net_lawful n) ts ≡ true → n ≤ m → fan_in_from m i ts ≡ []
fan_in_past n m i [] h l = refl
fan_in_past n m i (t ∷ ts) h l =
    let p = and_parts (net_lawful n t) (list_all (net_lawful n) ts) h in
    let a = p.0 in
    let b : eqb t.receiver m ≡ false = grind (arith, nat_tests) in
    rw b (fan_in_past n m (i + 1) ts p.1 l)

-- the nets into the modules below another
pub below_none : (m : ℕ) → into_below m [] ≡ []
unfolding into_below
below_none zero = refl
below_none (suc m) = rw (below_none m)

pub below_more : (rs : List ℕ) (m k : ℕ) → (rest : List ℕ) × (into_below (k + m) rs ≡ into_below m rs ++ rest)
unfolding into_below
below_more rs m zero = ([], rw zero-add (sym (append-nil (into_below m rs))))
below_more rs m (suc k) =
    let p = below_more rs m k in
    let e : suc k + m ≡ suc (k + m) = omega arith in
    (p.0 ++ into (k + m) 0 rs, rw e (ap (λ xs. xs ++ into (k + m) 0 rs) p.1 ∙ append_assoc (into_below m rs) p.0 (into (k + m) 0 rs)))

-- a net more into module r comes after those into the modules up to r, and moves those into the others up
pub below_low : (rs : List ℕ) (r m : ℕ) → m ≤ r → into_below m (rs ++ r ∷ []) ≡ into_below m rs
unfolding into_below
below_low rs r zero h = refl
below_low rs r (suc m) h = rw (below_low rs r m (omega arith), into_other m rs r (omega arith))

pub below_high : (rs : List ℕ) (r k : ℕ) → (rest : List ℕ) × ((into_below (k + suc r) rs ≡ into_below (suc r) rs ++ rest) × (into_below (k + suc r) (rs ++ r ∷ []) ≡ into_below (suc r) rs ++ length rs ∷ rest))
unfolding into_below
below_high rs r zero =
    ([], (rw zero-add (sym (append-nil (into_below (suc r) rs))), rw (zero-add, below_low rs r r (omega arith), into_same rs r) (sym (append_assoc (into_below r rs) (into r 0 rs) (length rs ∷ [])))))
below_high rs r (suc k) =
    let p = below_high rs r k in
    let e : suc k + suc r ≡ suc (k + suc r) = omega arith in
    let ys = into (k + suc r) 0 rs in
    let f = into_other (k + suc r) rs r (omega arith) in
    (p.0 ++ ys, (rw e (ap (λ xs. xs ++ ys) p.1.0 ∙ append_assoc (into_below (suc r) rs) p.0 ys), rw (e, f) (ap (λ xs. xs ++ ys) p.1.1 ∙ append_assoc (into_below (suc r) rs) (length rs ∷ p.0) ys)))

pub below_push : (rs : List ℕ) (r m : ℕ) → r < m → into_below m (rs ++ r ∷ []) ≡ insert (into_below m rs) (begin rs (r + 1)) (length rs)
unfolding begin
below_push rs r m h =
    let p = below_high rs r (m - suc r) in
    let e : (m - suc r) + suc r ≡ m = omega arith in
    let a : into_below m rs ≡ into_below (suc r) rs ++ p.0 = rw e at p.1.0 in
    let b : into_below m (rs ++ r ∷ []) ≡ into_below (suc r) rs ++ length rs ∷ p.0 = rw e at p.1.1 in
    let xs = into_below (suc r) rs in
    let t = take_at xs p.0 (length xs) refl in
    let d = drop_at xs p.0 (length xs) refl in
    b ∙ rw (add-one, a, t, d)

-- where the nets into a module begin
pub begin_mono : (rs : List ℕ) (m n : ℕ) → m ≤ n → begin rs m ≤ begin rs n
unfolding begin
begin_mono rs m n h =
    let p = below_more rs m (n - m) in
    let e : (n - m) + m ≡ n = omega arith in
    let a : into_below n rs ≡ into_below m rs ++ p.0 = rw e at p.1 in
    rw a (simp length-append (omega arith))

-- a net that comes before the others
begin_first : (r : ℕ) (rs : List ℕ) (m : ℕ) → begin (r ∷ rs) m ≡ begin rs m + cond (ltb r m) 1 0
unfolding begin into_below
begin_first r rs zero = grind (arith, nat_tests)
begin_first r rs (suc m) =
    let p = begin_first r rs m in
    let a = length-append (into_below m (r ∷ rs)) (into m 0 (r ∷ rs)) in
    let b = length-append (into_below m rs) (into m 0 rs) in
    let s = length-into m 1 0 rs in
    let c : length (into m 0 (r ∷ rs)) ≡ cond (eqb r m) 1 0 + length (into m 0 rs) =
    elim (cases_Bool (eqb r m)) [ inl t ↦ rw t (omega arith) | inr t ↦ rw t (omega arith) ] in
    grind (arith, nat_tests)

pub begin_none : (m : ℕ) → begin [] m ≡ 0
unfolding begin
begin_none m = ap length (below_none m)

pub begin_bound : (rs : List ℕ) (m : ℕ) → begin rs m ≤ length rs
begin_bound [] m = let e : begin [] m ≡ 0 = begin_none m in omega arith
begin_bound (r ∷ rs) m =
    let p = begin_bound rs m in
    let e = begin_first r rs m in
    grind (arith, nat_tests)

pub begin_push : (rs : List ℕ) (r m : ℕ) → begin (rs ++ r ∷ []) m ≡ begin rs m + cond (ltb r m) 1 0
unfolding begin
begin_push rs r m =
    elim (cases_lt r m) [
      | inl h ↦
          let l = begin_mono rs (r + 1) m (omega arith) in
          let n = length-insert (into_below m rs) (begin rs (r + 1)) (length rs) l in
          rw (below_push rs r m h) (grind (arith, nat_tests, n))
      | inr h ↦ rw (below_low rs r m h) (grind (arith, nat_tests))
    ]

-- the nets into module m lie between its beginning and the next
pub into_between : (rs : List ℕ) (m n : ℕ) → m < n → between (begin rs m) (begin rs (m + 1)) (into_below n rs) ≡ into m 0 rs
unfolding begin into_below
into_between rs m n h =
    let p = below_more rs (suc m) (n - suc m) in
    let e : (n - suc m) + suc m ≡ n = omega arith in
    let a : into_below n rs ≡ into_below (suc m) rs ++ p.0 = rw e at p.1 in
    let xs = into_below (suc m) rs in
    let t = take_at xs p.0 (length xs) refl in
    between_is (into_below n rs) (begin rs m) (begin rs (m + 1)) ∙ rw (add-one, a, t) (drop_at (into_below m rs) (into m 0 rs) (length (into_below m rs)) refl)

-- the beginnings in one list
pub get_or-begins : (n : ℕ) (rs : List ℕ) (m : ℕ) → m < n → get_or (begins n rs) m 0 ≡ begin rs m
unfolding begins
get_or-begins n rs m h = get_or-map-range_with_len (begin rs) 0 n m m 0 h (zero-add m)

pub begins_from : (n : ℕ) (rs xs : List ℕ) → length xs ≡ n → ((m : ℕ) → m < n → get_or xs m 0 ≡ begin rs m) → xs ≡ begins n rs
unfolding begins
begins_from n rs xs e h = fill_by_all (begin rs) xs n 0 e h

pub begins_none : (n : ℕ) → replicate n 0 ≡ begins n []
begins_none n = begins_from n [] (replicate n 0) (length-replicate n 0) (λ m h. get_or-replicate n m 0 0 h ∙ sym (begin_none m))

pub begins_push : (n : ℕ) (rs : List ℕ) (r : ℕ) (xs : List ℕ) → length xs ≡ n → ((m : ℕ) → m < n → get_or xs m 0 ≡ get_or (begins n rs) m 0 + cond (ltb r m) 1 0) → xs ≡ begins n (rs ++ r ∷ [])
begins_push n rs r xs e h =
    begins_from n (rs ++ r ∷ []) xs e (λ m l. h m l ∙ ap (λ x. x + cond (ltb r m) 1 0) (get_or-begins n rs m l) ∙ sym (begin_push rs r m))

-- the index of a list of nets
pub index_none : (numbers first : List ℕ) (ts : List Net) → ts ≡ [] → numbers ≡ [] → first ≡ replicate 65 0 → Index numbers first ts
index_none numbers first ts e n f =
    (n ∙ sym (ap (λ us. into_below 64 (receivers us)) e ∙ below_none 64), f ∙ begins_none 65 ∙ sym (ap (λ us. begins 65 (receivers us)) e))

module _ (numbers first : List ℕ) (ts : List Net) (h : Index numbers first ts) where
  pub first_at : (m : ℕ) → m < 65 → get_or first m 0 ≡ begin (receivers ts) m
  first_at m l = ap (λ xs. get_or xs m 0) h.1 ∙ get_or-begins 65 (receivers ts) m l

  pub length_numbers : length numbers ≡ begin (receivers ts) 64
  unfolding begin
  length_numbers = ap length h.0

  pub few_numbers : length numbers ≤ length ts
  few_numbers = let b = begin_bound (receivers ts) 64 in omega (arith, length_numbers, length-map ts (λ t. t.receiver))

  pub first_rises : (m : ℕ) → m < 64 → get_or first m 0 ≤ get_or first (m + 1) 0
  first_rises m l = let b = begin_mono (receivers ts) m (m + 1) (omega arith) in omega (arith, first_at m (omega arith), first_at (m + 1) (omega arith))

  pub first_within : (m : ℕ) → m < 65 → get_or first m 0 ≤ length numbers
  first_within m l = let b = begin_mono (receivers ts) m 64 (omega arith) in omega (arith, first_at m l, length_numbers)

  pub index_between : (m : ℕ) → m < 64 → between (get_or first m 0) (get_or first (m + 1) 0) numbers ≡ fan_in_from m 0 ts
  index_between m l =
      rw (first_at m (omega arith), first_at (m + 1) (omega arith), h.0) (into_between (receivers ts) m 64 l ∙ into-receivers m 0 ts)

  pub index_push : (t : Net) (k : ℕ) (more later : List ℕ) → t.receiver < 64 → k ≡ length ts → more ≡ insert numbers (get_or first (t.receiver + 1) 0) k → length later ≡ 65 → ((m : ℕ) → m < 65 → get_or later m 0 ≡ get_or first m 0 + cond (ltb t.receiver m) 1 0) → Index more later (ts ++ t ∷ [])
  index_push t k more later l e a n b =
      let rs = receivers ts in
      let r = t.receiver in
      let p : receivers (ts ++ t ∷ []) ≡ rs ++ r ∷ [] = map_push (λ u. u.receiver) ts t in
      let q : k ≡ length rs = e ∙ sym (length-map ts (λ u. u.receiver)) in
      let s : more ≡ into_below 64 (rs ++ r ∷ []) = a ∙ rw (first_at (r + 1) (omega arith), h.0, q) (sym (below_push rs r 64 l)) in
      rw p (s, begins_push 65 rs r later n (λ m c. rw (← h.1) (b m c)))
