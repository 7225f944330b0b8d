-- Paths and the cycles through the virtual module. Assumes nothing.
use Rattle.std.proofs.Common.{◌≡◌, ℕ, zero, suc, ◌+◌, ◌*◌, ◌<◌, ◌≤◌, max, Bool, true, false, cond, ltb, leb, ◌⊎◌, List, [], ◌∷◌, ◌++◌, length, sym, refl, ap, ◌∙◌, subst, ap₂, inl, inr, ⊎_elim, one-mul, mul-zero, zero-mul, mul-one, arith}
use Rattle.netlist.specs.Netlist.{Netlist, modules, lawful}
use Rattle.netlist.specs.Rules.{Rules, net, voltage}
use Rattle.netlist.proofs.Words.{keeps_rules}
use Rattle.std.proofs.ByRecursion.{All-append}
use Rattle.std.proofs.lemmas.Bool.{cases_lt, cases_eq}
use Rattle.std.proofs.lemmas.Bool.Decides.{nat_tests}
use Rattle.std.specs.List.{AllByRecursion as All}
use Rattle.timing.specs.Assignments.{Assigns, supply}
use Rattle.timing.specs.Paths.{Timed, timed, model, PathTo, path_delay, first_module, Undriven, Meets, module_delay, net_delay}
use Rattle.timing.specs.Power.{power, module_power, net_power}
use Rattle.timing.specs.Published.{Selection, Vertex, virtual, real, Edge, enter, along, leave, tail, head, Joined, Apart, Cycle, power_at, shifter_on, objective, cycle_delay, InTime, selection_of}
use Rattle.timing.specs.Shifters.{needs_shifter}
use Rattle.timing.proofs.Arrived.{Forward, arrives, end_inside, within_latest}
use Rattle.timing.specs.Ways.{keeps_later}
use Rattle.timing.proofs.Sums.{sum_below_same}
use Rattle.timing.proofs.Walked.{forward}
use Rattle.timing.proofs.Shifters.{climbs_higher}
use Rattle.timing.proofs.Selected.{delay_same, power_same, voltage_same}

-- An assignment solves the published problem as it solves ours: its power is the objective, and it meets the cycle
-- exactly where the timing constraint holds.
pub record AsPublished (n : Netlist) (a : List ℕ) : Type 0 where
  pub same_power : power n a ≡ objective n (selection_of n a)
  pub in_time : Meets n a → InTime n (selection_of n a)
  pub meets : InTime n (selection_of n a) → Meets n a

same_module : (i j : ℕ) → real i ≡ real j → i ≡ j
same_module i j e = cc

not_virtual : (i : ℕ) → real i ≡ virtual → ⊥
not_virtual i e = let z : ◌≡◌ {A = ℕ} 0 1 = cc in omega arith

module _ (n : Netlist) (ok : lawful n ≡ true) (a : List ℕ) (assigns : Assigns n a) where
  law : Rules n
  law = keeps_rules n ok

  abbrev g : Timed
  g = timed n a

  abbrev u : Selection
  u = selection_of n a

  ahead : Forward g
  ahead = forward n ok (model n a)

  -- the published figures of a net and of the whole are ours
  shifter_same : (e : ℕ) → e < length n.nets → shifter_on n u e ≡ cond (needs_shifter n a e) 1 0
  shifter_same e h =
      let ends = law.ends e h in
      let d = voltage_same n ok a assigns (net n e).driver (omega arith) in
      let r = voltage_same n ok a assigns (net n e).receiver ends.1 in
      ap₂ (λ x y. cond (leb x y) 0 1) r d ∙ turned_round (voltage n (supply a (net n e).driver)) (voltage n (supply a (net n e).receiver))
      ∙ ap (λ b. cond b 1 0) (sym (climbs_higher n (supply a (net n e).driver) (supply a (net n e).receiver)))
    where
      turned_round : (x y : ℕ) → ◌≡◌ {A = ℕ} (cond (leb y x) 0 1) (cond (ltb x y) 1 0)
      turned_round x y = grind (arith, nat_tests)

  once : (b : Bool) (c : ℕ) → cond b 1 0 * c ≡ cond b c 0
  once true c = one-mul c
  once false c = zero-mul c

  once' : (b : Bool) (c : ℕ) → c * cond b 1 0 ≡ cond b c 0
  once' true c = mul-one c
  once' false c = mul-zero c

  net_delay_same : (e : ℕ) → e < length n.nets → n.terms.shifter.delay * shifter_on n u e + (net n e).wire ≡ net_delay n a e
  net_delay_same e h =
      let s = ap (λ x. n.terms.shifter.delay * x) (shifter_same e h) ∙ once' (needs_shifter n a e) n.terms.shifter.delay in
      omega arith

  pub same_power : power n a ≡ objective n u
  same_power = ap₂ (λ x y. x + y)
      (sum_below_same (modules n) (module_power n a) (power_at n u) (λ m h. sym (power_same n ok a assigns m h)))
      (sum_below_same (length n.nets) (net_power n a) (λ e. shifter_on n u e * n.terms.shifter.power)
      (λ e h. sym (ap (λ x. x * n.terms.shifter.power) (shifter_same e h) ∙ once (needs_shifter n a e) n.terms.shifter.power)))

  -- A cycle written from the virtual module on is a path ------------------------------------------------------------------
  abbrev Off : Edge → Type 0
  Off f = tail n f ≡ virtual → ⊥

  ended : (es : List Edge) → Joined n virtual es virtual → All Off es → es ≡ []
  ended [] j o = refl
  ended (e ∷ es) j o = absurd (o.0 j.1)

  goes_on : Meets n a → (k : ℕ) (path : List ℕ) → PathTo g k path → (es : List Edge) → Joined n (real k) es virtual → All Off es → cycle_delay n u es + path_delay g k path ≤ n.terms.cycle + module_delay n a k
  goes_on meets k path p [] j o = absurd (not_virtual k j)
  goes_on meets k path p (enter i ∷ es) j o = absurd (o.0 refl)
  goes_on meets k path p (along e ∷ es) (h, t, j) (f, o) =
      let same : (net n e).driver ≡ k = same_module (net n e).driver k t in
      let ends = law.ends e h in
      let q : PathTo g (net n e).driver path = subst (λ i. PathTo g i path) (sym same) p in
      let ih = goes_on meets (net n e).receiver (e ∷ path) (h, refl, q) es j o in
      let d = delay_same n ok a assigns (net n e).driver (omega arith) in
      let w = net_delay_same e h in
      let pd = ap (λ i. path_delay g i path) same in
      let md = ap (module_delay n a) same in
      omega arith
  goes_on meets k path p (leave i ∷ es) (h, t, j) (f, o) =
      let same : i ≡ k = same_module i k t in
      let none = ap (cycle_delay n u) (ended es j o) in
      let d = delay_same n ok a assigns i h.0 in
      let md = ap (module_delay n a) same in
      let m = meets k path p in
      omega arith

  from_virtual : Meets n a → (es : List Edge) → Joined n virtual es virtual → (e : Edge) (rest : List Edge) → es ≡ e ∷ rest → All Off rest → cycle_delay n u es ≤ n.terms.cycle
  from_virtual meets [] j e rest same o = let z = ap length same in absurd (omega arith)
  from_virtual meets (enter i ∷ es) (h, t, j) e rest same o =
      let q : es ≡ rest = cc in
      let m = goes_on meets i [] h.0 es j (subst (All Off) (sym q) o) in
      omega arith
  from_virtual meets (along i ∷ es) (h, t, j) e rest same o = absurd (not_virtual _ t)
  from_virtual meets (leave i ∷ es) (h, t, j) e rest same o = absurd (not_virtual _ t)

  -- Every cycle passes the virtual module: nets alone lead ever higher ------------------------------------------------------
  rises : (k j : ℕ) (es : List Edge) → Joined n (real k) es (real j) → All Off es → k ≤ j
  rises k j [] e o = let s = same_module k j e in omega arith
  rises k j (enter i ∷ es) e o = absurd (o.0 refl)
  rises k j (along i ∷ es) (h, t, e) (f, o) =
      let s = same_module _ _ t in
      let l = law.ends i h in
      let r = rises (net n i).receiver j es e o in
      omega arith
  rises k j (leave i ∷ []) (h, t, e) (f, o) = absurd (not_virtual j (sym e))
  rises k j (leave i ∷ (e ∷ es)) (h, t, e') (f, o) = absurd (o.0 e'.1)

  no_cycle_off : (e : Edge) (es : List Edge) → Joined n (tail n e) (e ∷ es) (tail n e) → All Off (e ∷ es) → ⊥
  no_cycle_off (enter i) es j o = o.0 refl
  no_cycle_off (along i) es (h, t, j) (f, o) =
      let l = law.ends i h in
      let r = rises (net n i).receiver (net n i).driver es j o in
      omega arith
  no_cycle_off (leave i) [] (h, t, j) (f, o) = not_virtual i (sym j)
  no_cycle_off (leave i) (e ∷ es) (h, t, j) (f, o) = o.0 j.1

  -- where it does
  pub record Passes (c : List Edge) : Type 0 where
    pub front : List Edge
    pub here : Edge
    pub back : List Edge
    pub whole : c ≡ front ++ here ∷ back
    pub virtually : tail n here ≡ virtual

  passes_later : (e : Edge) (es : List Edge) → Passes es → Passes (e ∷ es)
  passes_later e es p = record { front = e ∷ p.front; here = p.here; back = p.back; whole = ap (λ xs. e ∷ xs) p.whole; virtually = p.virtually }

  passes_or_off : (c : List Edge) → Passes c ⊎ All Off c
  passes_or_off [] = inr tt
  passes_or_off (enter i ∷ es) = inl (record { front = []; here = enter i; back = es; whole = refl; virtually = refl })
  passes_or_off (along i ∷ es) = ⊎_elim (λ p. inl (passes_later (along i) es p)) (λ o. inr (not_virtual _, o)) (passes_or_off es)
  passes_or_off (leave i ∷ es) = ⊎_elim (λ p. inl (passes_later (leave i) es p)) (λ o. inr (not_virtual _, o)) (passes_or_off es)

  -- turned so that it begins there
  joined_parts : (v w : Vertex) (cs ds : List Edge) → Joined n v (cs ++ ds) w → (x : Vertex) × Joined n v cs x × Joined n x ds w
  joined_parts v w [] ds j = (v, refl, j)
  joined_parts v w (e ∷ cs) ds (h, t, j) = let r = joined_parts (head n e) w cs ds j in (r.0, (h, t, r.1), r.2)

  joined_append : (v x w : Vertex) (cs ds : List Edge) → Joined n v cs x → Joined n x ds w → Joined n v (cs ++ ds) w
  joined_append v x w [] ds e j = subst (λ y. Joined n y ds w) (sym e) j
  joined_append v x w (e ∷ cs) ds (h, t, i) j = (h, t, joined_append (head n e) x w cs ds i j)

  delay_append : (cs ds : List Edge) → cycle_delay n u (cs ++ ds) ≡ cycle_delay n u cs + cycle_delay n u ds
  delay_append [] ds = omega arith
  delay_append (e ∷ cs) ds = let r = delay_append cs ds in omega arith

  -- the others do not pass it again
  off_front : (cs : List Edge) (e : Edge) (ds : List Edge) → tail n e ≡ virtual → Apart n (cs ++ e ∷ ds) → All Off cs
  off_front [] e ds v a = tt
  off_front (c ∷ cs) e ds v (d, a) = ((λ t. last cs d (v ∙ sym t)), off_front cs e ds v a)
    where
      last : (cs : List Edge) → All (λ f. tail n f ≡ tail n c → ⊥) (cs ++ e ∷ ds) → tail n e ≡ tail n c → ⊥
      last [] d = d.0
      last (x ∷ cs) d = last cs d.1

  off_back : (cs : List Edge) (e : Edge) (ds : List Edge) → tail n e ≡ virtual → Apart n (cs ++ e ∷ ds) → All Off ds
  off_back [] e ds v (d, a) = all ds d
    where
      all : (ds : List Edge) → All (λ f. tail n f ≡ tail n e → ⊥) ds → All Off ds
      all [] d = tt
      all (x ∷ ds) d = ((λ t. d.0 (t ∙ sym v)), all ds d.1)
  off_back (c ∷ cs) e ds v (d, a) = off_back cs e ds v a

  turned : Meets n a → (v : Vertex) (c : List Edge) → Joined n v c v → Apart n c → Passes c → cycle_delay n u c ≤ n.terms.cycle
  turned meets v c j d p =
      let j' : Joined n v (p.front ++ p.here ∷ p.back) v = subst (λ x. Joined n v x v) p.whole j in
      let d' : Apart n (p.front ++ p.here ∷ p.back) = subst (Apart n) p.whole d in
      let parts = joined_parts v v p.front (p.here ∷ p.back) j' in
      let x : parts.0 ≡ virtual = sym parts.2.1 ∙ p.virtually in
      let first : Joined n v p.front virtual = subst (λ y. Joined n v p.front y) x parts.1 in
      let second : Joined n virtual (p.here ∷ p.back) v = subst (λ y. Joined n y (p.here ∷ p.back) v) x parts.2 in
      let round = joined_append virtual v virtual (p.here ∷ p.back) p.front second first in
      let off = All-append Off p.back p.front (off_back p.front p.here p.back p.virtually d') (off_front p.front p.here p.back p.virtually d') in
      let m = from_virtual meets ((p.here ∷ p.back) ++ p.front) round p.here (p.back ++ p.front) refl off in
      let one = delay_append (p.here ∷ p.back) p.front in
      let two = ap (cycle_delay n u) p.whole ∙ delay_append p.front (p.here ∷ p.back) in
      omega arith

  pub in_time_from_meets : Meets n a → InTime n u
  in_time_from_meets meets [] c = absurd c
  in_time_from_meets meets (e ∷ es) (j, d) =
      ⊎_elim (turned meets (tail n e) (e ∷ es) j d) (λ o. absurd (no_cycle_off e es j o)) (passes_or_off (e ∷ es))

  -- The cycle of a path from an undriven module to one that drives nothing ---------------------------------------------------
  abbrev run : ℕ → List ℕ → List Edge → List Edge
  run m [] rest = enter m ∷ rest
  run m (i ∷ before) rest = run (net n i).driver before (along i ∷ rest)

  run_joined : (m : ℕ) (path : List ℕ) → PathTo g m path → Undriven g (first_module g m path) → (rest : List Edge) → Joined n (real m) rest virtual → Joined n virtual (run m path rest) virtual
  run_joined m [] p d rest j = ((p, d), refl, j)
  run_joined m (i ∷ before) (h, r, p) d rest j =
      run_joined (net n i).driver before p d (along i ∷ rest) (h, refl, subst (λ k. Joined n (real k) rest virtual) (sym r) j)

  run_delay : (m : ℕ) (path : List ℕ) → PathTo g m path → (rest : List Edge) → cycle_delay n u (run m path rest) + module_delay n a m ≡ path_delay g m path + cycle_delay n u rest
  run_delay m [] p rest = omega arith
  run_delay m (i ∷ before) (h, r, p) rest =
      let ih = run_delay (net n i).driver before p (along i ∷ rest) in
      let d = delay_same n ok a assigns (net n i).driver (let l = law.ends i h in omega arith) in
      let w = net_delay_same i h in
      omega arith

  -- every edge of the rest leaves a module that is not below m
  abbrev Above : ℕ → Edge → Type 0
  Above m f = (k : ℕ) × (tail n f ≡ real k) × (m ≤ k)

  higher : (m k : ℕ) → m ≤ k → (es : List Edge) → All (Above k) es → All (Above m) es
  higher m k l [] o = tt
  higher m k l (e ∷ es) (f, o) = ((f.0, f.1, omega (arith, f.2)), higher m k l es o)

  apart_below : (m k : ℕ) → m < k → (es : List Edge) → All (Above k) es → All (λ f. tail n f ≡ real m → ⊥) es
  apart_below m k l [] o = tt
  apart_below m k l (e ∷ es) (f, o) = ((λ t. let s = same_module f.0 m (sym f.1 ∙ t) in omega (arith, f.2)), apart_below m k l es o)

  off_above : (m : ℕ) (es : List Edge) → All (Above m) es → All Off es
  off_above m [] o = tt
  off_above m (e ∷ es) (f, o) = ((λ t. not_virtual f.0 (sym f.1 ∙ t)), off_above m es o)

  run_apart : (m : ℕ) (path : List ℕ) → PathTo g m path → (rest : List Edge) → All (Above m) rest → Apart n rest → Apart n (run m path rest)
  run_apart m [] p rest o d = (off_above m rest o, d)
  run_apart m (i ∷ before) (h, r, p) rest o d =
      let k : ℕ = (net n i).driver in
      let l : k < m = let e = law.ends i h in omega arith in
      run_apart k before p (along i ∷ rest) ((k, refl, omega arith), higher k m (omega arith) rest o) (apart_below k m l rest o, d)

  run_cycle : (e : Edge) (es : List Edge) → Joined n virtual (e ∷ es) virtual → Apart n (e ∷ es) → Cycle n (e ∷ es)
  run_cycle e es (h, t, j) d = (subst (λ v. Joined n v (e ∷ es) v) (sym t) (h, t, j), d)

  is_cycle : (es : List Edge) → 0 < length es → Joined n virtual es virtual → Apart n es → Cycle n es
  is_cycle [] l j d = absurd (omega arith)
  is_cycle (e ∷ es) l j d = run_cycle e es j d

  run_long : (m : ℕ) (path : List ℕ) (rest : List Edge) → 0 < length (run m path rest)
  run_long m [] rest = omega arith
  run_long m (i ∷ before) rest = run_long (net n i).driver before (along i ∷ rest)

  whole_path : InTime n u → (m : ℕ) (path : List ℕ) → m < modules n → PathTo g m path → Undriven g (first_module g m path) → ((i : ℕ) → i < length n.nets → (net n i).driver ≡ m → ⊥) → path_delay g m path ≤ n.terms.cycle
  whole_path in_time m path s p d r =
      let c = run m path (leave m ∷ []) in
      let cycle = is_cycle c (run_long m path (leave m ∷ [])) (run_joined m path p d (leave m ∷ []) ((s, r), refl, refl)) (run_apart m path p (leave m ∷ []) ((m, refl, omega arith), tt) (tt, tt)) in
      let t = in_time c cycle in
      let w = run_delay m path p (leave m ∷ []) in
      let e = delay_same n ok a assigns m s in
      omega arith

  -- a path can be led on until nothing is driven
  abbrev Drives : ℕ → ℕ → Type 0
  Drives m i = (i < length n.nets) × ((net n i).driver ≡ m)

  drives_some : (m k : ℕ) → ((i : ℕ) → i < k → Drives m i → ⊥) ⊎ ((i : ℕ) × Drives m i)
  drives_some m zero = inl (λ i l d. omega arith)
  drives_some m (suc k) = ⊎_elim last (λ d. inr d) (drives_some m k)
    where
      last : ((i : ℕ) → i < k → Drives m i → ⊥) → ((i : ℕ) → i < suc k → Drives m i → ⊥) ⊎ ((i : ℕ) × Drives m i)
      last none = ⊎_elim
          (λ (h : k < length n.nets). ⊎_elim (λ (e : (net n k).driver ≡ m). inr (k, (h, e))) (λ (ne : (net n k).driver ≡ m → ⊥). inl (still (λ d. ne d.1))) (cases_eq (net n k).driver m))
          (λ (h : length n.nets ≤ k). inl (still (λ d. omega (arith, d.0))))
          (cases_lt k (length n.nets))
        where
          still : (Drives m k → ⊥) → (i : ℕ) → i < suc k → Drives m i → ⊥
          still off i l d = ⊎_elim (λ (b : i < k). none i b d) (λ (b : k ≤ i). let e : i ≡ k = omega arith in off (subst (Drives m) e d)) (cases_lt i k)

  led_on : InTime n u → (fuel m : ℕ) (path : List ℕ) → modules n ≤ m + fuel → m < modules n → PathTo g m path → Undriven g (first_module g m path) → path_delay g m path ≤ n.terms.cycle
  led_on in_time zero m path f s p d = absurd (omega arith)
  led_on in_time (suc fuel) m path f s p d = ⊎_elim
      (λ (r : (i : ℕ) → i < length n.nets → Drives m i → ⊥). whole_path in_time m path s p d (λ i h e. r i h (h, e)))
      (λ (e : (i : ℕ) × Drives m i).
      let l = law.ends e.0 e.1.0 in
      let q : PathTo g (net n e.0).driver path = subst (λ k. PathTo g k path) (sym e.1.1) p in
      let d' : Undriven g (first_module g (net n e.0).driver path) = subst (λ k. Undriven g (first_module g k path)) (sym e.1.1) d in
      let t = led_on in_time fuel (net n e.0).receiver (e.0 ∷ path) (omega (arith, e.1.1)) l.1 (e.1.0, refl, q) d' in
      let pd = ap (λ k. path_delay g k path) e.1.1 in
      omega arith)
      (drives_some m (length n.nets))

  pub meets_from_in_time : InTime n u → Meets n a
  meets_from_in_time in_time m path p =
      let w = within_latest g ahead (λ k i h r. refl) m path p in
      let s : m < modules n = end_inside g ahead m path p in
      let b = arrives max g keeps_later ahead m s in
      let t = led_on in_time (modules n) m b.by_path (omega arith) s b.is_path b.from_undriven in
      let e = b.has_delay in
      omega arith

  pub as_published : AsPublished n a
  as_published = record { same_power = same_power; in_time = in_time_from_meets; meets = meets_from_in_time }
