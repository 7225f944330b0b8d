-- The walk over the nets keeps, at each module, what is kept of the delays of all paths to it. Assumes nothing.
use Rattle.std.proofs.Common.{◌≡◌, ℕ, zero, suc, ◌+◌, ◌<◌, ◌≤◌, max, ◌⊎◌, List, [], ◌∷◌, map, length, get_or, fold, sym, refl, ap, ◌∙◌, subst, inl, inr, ⊎_elim, not-suc-le-zero, arith, length-append}
use Rattle.netlist.specs.FanIn.{fan_in_from}
use Rattle.std.proofs.lemmas.Bool.{cases_lt}
use Rattle.std.proofs.lemmas.List.{get_or_append_left, get_or_push, get_or-map, length-map}
use Rattle.timing.specs.Arrivals.{KeepsOne, Arrives, Longest, kept, over_net, ready, done, arrivals}
use Rattle.timing.specs.Paths.{Timed, net_of, PathTo, path_delay, first_module, Undriven}
use Rattle.timing.proofs.FanIns.{fan_in_leads, fan_in_has}
use Rattle.timing.proofs.Keeps.{keep_same, prevails_through, prevails_plus, folded_one, folded_prevails}
use Rattle.timing.specs.Ways.{keeps_later}

-- Every net leads from a lower to a higher module, and inside.
pub record Forward (g : Timed) : Type 0 where
  pub rises : (i : ℕ) → i < length g.nets → (net_of g i).driver < (net_of g i).receiver
  pub inside : (i : ℕ) → i < length g.nets → (net_of g i).receiver < g.size

pub end_inside : (g : Timed) → Forward g → (m : ℕ) (path : List ℕ) → PathTo g m path → m < g.size
end_inside g forward m [] p = p
end_inside g forward m (i ∷ before) (l, r, p) = let h = forward.inside i l in omega arith

module _ (keep : ℕ → ℕ → ℕ) (g : Timed) where
  -- the arrival at a module
  abbrev pub arrival : ℕ → ℕ
  arrival m = done keep g (arrivals keep g m) m

  pub length_arrivals : (k : ℕ) → length (arrivals keep g k) ≡ k
  length_arrivals zero = refl
  length_arrivals (suc k) = rw length-append (let e = length_arrivals k in omega arith)

  pub arrivals_at : (k m : ℕ) → m < k → get_or (arrivals keep g k) m 0 ≡ arrival m
  arrivals_at zero m h = absurd (not-suc-le-zero h)
  arrivals_at (suc k) m h = ⊎_elim
      (λ (l : m < k). get_or_append_left (arrivals keep g k) _ 0 m (rw (length_arrivals k) l) ∙ arrivals_at k m l)
      (λ (l : k ≤ m). let e : k ≡ m = omega arith in get_or_push (arrivals keep g k) _ 0 m (length_arrivals k ∙ e) ∙ ap arrival e)
      (cases_lt m k)

  -- module m can be no one's receiver where nothing is in its fan-in
  pub undriven_from_none : (m : ℕ) → fan_in_from m 0 g.nets ≡ [] → Undriven g m
  undriven_from_none m e i h r =
      let f = fan_in_has m 0 g.nets i (i, omega arith, h, r) in
      let l = ap length e in
      omega (arith, f.1)

  pub none_from_undriven : (m : ℕ) → Undriven g m → fan_in_from m 0 g.nets ≡ []
  none_from_undriven m u = go (fan_in_from m 0 g.nets) refl
    where
      go : (is : List ℕ) → fan_in_from m 0 g.nets ≡ is → fan_in_from m 0 g.nets ≡ []
      go [] e = e
      go (i ∷ is) e =
          let l = ap length e in
          let f = fan_in_leads m 0 g.nets 0 (omega arith) in
          absurd (u f.0 f.2 f.3)

  module _ (way : KeepsOne keep) (forward : Forward g) where
    -- over each net into m comes the arrival at its driver, and what is ready at m prevails against it
    pub net_prevails : (i : ℕ) → i < length g.nets → keep (arrival (net_of g i).driver + g.delays.on_net i) (ready keep g (arrivals keep g (net_of g i).receiver) (net_of g i).receiver) ≡ ready keep g (arrivals keep g (net_of g i).receiver) (net_of g i).receiver
    net_prevails i h = go (fan_in_from m 0 g.nets) (fan_in_has m 0 g.nets i (i, omega arith, h, refl))
      where
        m : ℕ
        m = (net_of g i).receiver

        over : ℕ → ℕ
        over = over_net g (arrivals keep g m)

        same : over i ≡ arrival (net_of g i).driver + g.delays.on_net i
        same = ap (λ t. t + g.delays.on_net i) (arrivals_at m (net_of g i).driver (forward.rises i h))

        go : (is : List ℕ) → (k : ℕ) × (k < length is) × (get_or is k 0 ≡ i) → keep (arrival (net_of g i).driver + g.delays.on_net i) (kept keep (g.delays.start m) (map over is)) ≡ kept keep (g.delays.start m) (map over is)
        go [] f = absurd (omega (arith, f.1))
        go (j ∷ is) (k, l, e) =
            let p = folded_prevails keep way (over j) (map over is) k (rw (length-map (j ∷ is) over) l) in
            let q : get_or (map over (j ∷ is)) k 0 ≡ arrival (net_of g i).driver + g.delays.on_net i = get_or-map over (j ∷ is) k 0 0 l ∙ ap over e ∙ same in
            rw q at p

    -- and over one of them comes just that
    pub over_some : (m j : ℕ) (js : List ℕ) → fan_in_from m 0 g.nets ≡ j ∷ js →
        (i : ℕ) × (i < length g.nets) × ((net_of g i).receiver ≡ m) × (arrival (net_of g i).driver + g.delays.on_net i ≡ ready keep g (arrivals keep g m) m)
    over_some m j js e =
        let over = over_net g (arrivals keep g m) in
        let r : ready keep g (arrivals keep g m) m ≡ fold keep (over j) (map over js) = ap (λ (is : List ℕ). kept keep (g.delays.start m) (map over is)) e in
        let f = folded_one keep way (over j) (map over js) in
        let l : f.0 < length (j ∷ js) = rw (length-map (j ∷ js) over) at f.1 in
        let leads = fan_in_leads m 0 g.nets f.0 (rw e l) in
        let i : ℕ = leads.0 in
        let it : get_or (j ∷ js) f.0 0 ≡ i = ap (λ (is : List ℕ). get_or is f.0 0) (sym e) ∙ leads.1 ∙ omega arith in
        let low = forward.rises i leads.2 in
        let here = arrivals_at m (net_of g i).driver (omega (arith, leads.3)) in
        let at : over i ≡ fold keep (over j) (map over js) = sym (get_or-map over (j ∷ js) f.0 0 0 l ∙ ap over it) ∙ f.2 in
        (i, leads.2, leads.3, ap (λ t. t + g.delays.on_net i) (sym here) ∙ at ∙ sym r)

    -- some path from an undriven module has the arrival
    abbrev ByPath : ℕ → Type 0
    ByPath m = (path : List ℕ) × PathTo g m path × Undriven g (first_module g m path) × (path_delay g m path ≡ arrival m)

    by_path_below : (k m : ℕ) → m < k → m < g.size → ByPath m
    by_path_below zero m h s = absurd (not-suc-le-zero h)
    by_path_below (suc k) m h s = go (fan_in_from m 0 g.nets) refl (by_path_below k)
      where
        go : (is : List ℕ) → fan_in_from m 0 g.nets ≡ is → ((j : ℕ) → j < k → j < g.size → ByPath j) → ByPath m
        go [] e ih =
            let r : ready keep g (arrivals keep g m) m ≡ g.delays.start m = ap (λ (is : List ℕ). kept keep (g.delays.start m) (map (over_net g (arrivals keep g m)) is)) e in
            ([], s, undriven_from_none m e, omega arith)
        go (j ∷ js) e ih =
            let over = over_some m j js e in
            let low = forward.rises over.0 over.1 in
            let before = ih (net_of g over.0).driver (omega (arith, over.2)) (omega (arith, over.2)) in
            (over.0 ∷ before.0, (over.1, over.2, before.1), before.2, omega (arith, before.3, over.3))

    yields : (m : ℕ) (path : List ℕ) → PathTo g m path → Undriven g (first_module g m path) → keep (path_delay g m path) (arrival m) ≡ arrival m
    yields m [] p u =
        let e : ready keep g (arrivals keep g m) m ≡ g.delays.start m = ap (λ (is : List ℕ). kept keep (g.delays.start m) (map (over_net g (arrivals keep g m)) is)) (none_from_undriven m u) in
        let d : path_delay g m [] ≡ arrival m = omega arith in
        rw d (keep_same keep way (arrival m))
    yields m (i ∷ before) (l, r, p) u =
        let d : ℕ = (net_of g i).driver in
        let t : ℕ = path_delay g d before in
        let P : ℕ → Type 0 = λ m. keep (arrival d + g.delays.on_net i) (ready keep g (arrivals keep g m) m) ≡ ready keep g (arrivals keep g m) m in
        let over = prevails_plus keep way t (arrival d) (g.delays.on_net i) (yields d before p u) in
        let here = prevails_through keep way (t + g.delays.on_net i) (arrival d + g.delays.on_net i) (ready keep g (arrivals keep g m) m) over (subst P r (net_prevails i l)) in
        prevails_plus keep way (t + g.delays.on_net i) (ready keep g (arrivals keep g m) m) (g.delays.at_module m) here

    pub arrives : (m : ℕ) → m < g.size → Arrives keep g m (arrival m)
    arrives m s =
        let b = by_path_below (suc m) m (omega arith) s in
        record { by_path = b.0; is_path = b.1; from_undriven = b.2; has_delay = b.3; prevails = yields m }

-- The latest arrivals bound every path, wherever it begins, if only paths from undriven modules begin with something.
module _ (g : Timed) (forward : Forward g) (starts : (m i : ℕ) → i < length g.nets → (net_of g i).receiver ≡ m → g.delays.start m ≡ 0) where
  abbrev latest_at : ℕ → ℕ
  latest_at = arrival max g

  start_within : (m : ℕ) → g.delays.start m ≤ ready max g (arrivals max g m) m
  start_within m = go (fan_in_from m 0 g.nets) refl
    where
      over : ℕ → ℕ
      over = over_net g (arrivals max g m)

      go : (is : List ℕ) → fan_in_from m 0 g.nets ≡ is → g.delays.start m ≤ kept max (g.delays.start m) (map over is)
      go [] e = omega arith
      go (i ∷ is) e =
          let l = ap length e in
          let f = fan_in_leads m 0 g.nets 0 (omega arith) in
          let z = starts m f.0 f.2 f.3 in
          omega arith

  pub within_latest : (m : ℕ) (path : List ℕ) → PathTo g m path → path_delay g m path ≤ latest_at m
  within_latest m [] p = let h = start_within m in omega arith
  within_latest m (i ∷ before) (l, r, p) =
      let P : ℕ → Type 0 = λ m. max (latest_at (net_of g i).driver + g.delays.on_net i) (ready max g (arrivals max g m) m) ≡ ready max g (arrivals max g m) m in
      let h = subst P r (net_prevails max g keeps_later forward i l) in
      let ih = within_latest (net_of g i).driver before p in
      omega arith

  -- the greatest of them is the longest delay of a path
  pub greatest_longest : Longest g (fold max 0 (arrivals max g g.size))
  greatest_longest = record { none_longer = none; some_path = some }
    where
      ts : List ℕ
      ts = arrivals max g g.size

      long : length ts ≡ g.size
      long = length_arrivals max g g.size

      top : (k : ℕ) → k < g.size → latest_at k ≤ fold max 0 ts
      top k h =
          let p = folded_prevails max keeps_later 0 ts (suc k) (omega (arith, long)) in
          let e = arrivals_at max g g.size k h in
          omega arith

      none : (m : ℕ) (path : List ℕ) → PathTo g m path → path_delay g m path ≤ fold max 0 ts
      none m path p = let h = within_latest m path p in omega (arith, top m (end_inside g forward m path p))

      at_module : (k t : ℕ) → k < g.size → latest_at k ≡ t → (m : ℕ) × (path : List ℕ) × PathTo g m path × (path_delay g m path ≡ t)
      at_module k t h e = let a = arrives max g keeps_later forward k h in (k, a.by_path, a.is_path, a.has_delay ∙ e)

      some : ((g.size ≡ 0) × (fold max 0 ts ≡ 0)) ⊎ ((m : ℕ) × (path : List ℕ) × PathTo g m path × (path_delay g m path ≡ fold max 0 ts))
      some = ⊎_elim
          (λ (h : 0 < g.size). inr (go h (folded_one max keeps_later 0 ts)))
          (λ (h : g.size ≤ 0). inl (omega arith, let e : g.size ≡ 0 = omega arith in ap (λ k. fold max 0 (arrivals max g k)) e))
          (cases_lt 0 g.size)
        where
          go : 0 < g.size → (k : ℕ) × (k < length (0 ∷ ts)) × (get_or (0 ∷ ts) k 0 ≡ fold max 0 ts) → (m : ℕ) × (path : List ℕ) × PathTo g m path × (path_delay g m path ≡ fold max 0 ts)
          go h (zero, l, e) = at_module 0 (fold max 0 ts) h (let t = top 0 h in omega arith)
          go h (suc k, l, e) =
              let b : k < g.size = omega (arith, long) in
              at_module k (fold max 0 ts) b (sym (arrivals_at max g g.size k b) ∙ e)
