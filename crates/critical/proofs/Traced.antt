-- Paths traced back from the module at which they end. Assumes nothing.
use Rattle.std.proofs.Common.{◌≡◌, ℕ, zero, suc, ◌+◌, ◌<◌, ◌≤◌, max, true, List, [], ◌∷◌, ◌++◌, map, length, get_or, fold, sym, refl, ap, ◌∙◌, subst, append_assoc, append-nil, Some, None, Option, MatchOption, arith}
use Rattle.netlist.specs.FanIn.{fan_in}
use Rattle.netlist.specs.Netlist.{Netlist, modules, lawful}
use Rattle.netlist.specs.Rules.{net}
use Rattle.std.proofs.ByRecursion.{All-get_or}
use Rattle.std.proofs.lemmas.Option.{none-some, same_Some}
use Rattle.std.specs.List.{AllWithin, HoldsAt, IsFirstMaxByKey, reduce}
use Rattle.timing.specs.Arrivals.{Into, over_net, kept, arrivals, latest}
use Rattle.timing.specs.Paths.{Timed, timed, model, module_delay, PathTo, path_delay}
use Rattle.timing.proofs.Arrived.{arrival, over_some}
use Rattle.timing.proofs.FanIns.{fan_in_has}
use Rattle.timing.proofs.Keeps.{folded_one, folded_prevails}
use Rattle.timing.specs.Ways.{keeps_later}
use Rattle.timing.proofs.Reach.{into_ends, fan_in_into}
use Rattle.timing.proofs.Walked.{forward, table_at}
use Rattle.critical.specs.Steps.{ComesOver}

-- What was traced so far leads on: any path to where the trace stands can be led to its end, and gains what the
-- arrivals differ by.
abbrev pub Traces : Netlist → List ℕ → List ℕ → ℕ → List ℕ → ℕ → Type 0
Traces n a known end steps m = (path : List ℕ) → PathTo (timed n a) m path → PathTo (timed n a) end (steps ++ path) × (path_delay (timed n a) end (steps ++ path) + get_or known m 0 ≡ path_delay (timed n a) m path + get_or known end 0)

-- each of the nets into a module leads to it
pub into_at : (n : Netlist) → lawful n ≡ true → (m k d : ℕ) → k < length (fan_in n m) → Into n m (get_or (fan_in n m) k d)
into_at n ok m k d h = All-get_or (Into n m) (fan_in n m) k d h (fan_in_into n ok m)

module _ (n : Netlist) (ok : lawful n ≡ true) (a known rest : List ℕ) (same : known ≡ latest n a ++ rest) where
  abbrev g : Timed
  g = timed n a

  at : (m : ℕ) → m < modules n → get_or known m 0 ≡ arrival max g m
  at = table_at max g (modules n) known rest same

  -- if the arrival comes over none of the nets into a module, there are none
  pub no_nets : (m : ℕ) → m < modules n →
      ((k : ℕ) → k < length (fan_in n m) → over_net g known (get_or (fan_in n m) k 0) + module_delay n a m ≡ get_or known m 0 → ⊥) → fan_in n m ≡ []
  no_nets m h off = go (fan_in n m) refl
    where
      go : (is : List ℕ) → fan_in n m ≡ is → fan_in n m ≡ []
      go [] e = e
      go (j ∷ js) e =
          let over = over_some max g keeps_later (forward n ok (model n a)) m j js e in
          let i : ℕ = over.0 in
          let ends = into_ends n ok m i (over.1, over.2) in
          let f = fan_in_has m 0 n.nets i (i, omega arith, over.1, over.2) in
          let d = at (net n i).driver (omega arith) in
          let own = at m h in
          let it = ap (over_net g known) f.2 in
          absurd (off f.0 f.1 (omega (arith, over.3)))

  -- what a search among the nets into a module finds
  pub last_from : (m : ℕ) → m < modules n → (r : Option ℕ) → MatchOption r
      (AllWithin (λ i. over_net g known i + module_delay n a m ≡ get_or known m 0 → ⊥) (fan_in n m) 0 (length (fan_in n m)))
      (λ i. (over_net g known i + module_delay n a m ≡ get_or known m 0) × (k : ℕ) × (k < length (fan_in n m)) × HoldsAt (λ j. j ≡ i) (fan_in n m) k
      × AllWithin (λ i. over_net g known i + module_delay n a m ≡ get_or known m 0 → ⊥) (fan_in n m) 0 k) →
      MatchOption r (fan_in n m ≡ []) (ComesOver n a known m)
  last_from m h None off = no_nets m h (λ k l. off k 0 (omega arith) l)
  last_from m h (Some i) (e, k, l, at, before) = record { into = subst (Into n m) (at 0) (into_at n ok m k 0 l); arrives = e }

  pub traces_more : (end m i : ℕ) (steps : List ℕ) → ComesOver n a known m i → Traces n a known end steps m → Traces n a known end (steps ++ i ∷ []) (net n i).driver
  traces_more end m i steps c lead path p =
      let whole = lead (i ∷ path) (c.into.0, c.into.1, p) in
      let e = append_assoc steps (i ∷ []) path in
      let P : List ℕ → Type 0 = λ xs. PathTo g end xs × (path_delay g end xs + get_or known (net n i).driver 0 ≡ path_delay g (net n i).driver path + get_or known end 0) in
      let own = c.arrives in
      subst P (sym e) (whole.0, omega (arith, whole.1))

  -- where no net leads in, the path begins
  pub traces_whole : (end m : ℕ) (steps : List ℕ) → m < modules n → fan_in n m ≡ [] → Traces n a known end steps m → PathTo g end steps × (path_delay g end steps ≡ get_or known end 0)
  traces_whole end m steps h none lead =
      let whole = lead [] h in
      let e = append-nil steps in
      let ready : get_or known m 0 ≡ 0 + module_delay n a m = at m h ∙ ap (λ (is : List ℕ). kept max 0 (map (over_net g (arrivals max g m)) is) + module_delay n a m) none in
      let P : List ℕ → Type 0 = λ xs. PathTo g end xs × (path_delay g end xs ≡ get_or known end 0) in
      subst P e (whole.0, omega (arith, whole.1))

-- the greatest of a list by its place
pub best_greatest : (ts : List ℕ) (b : ℕ) → IsFirstMaxByKey (λ t. t) ts (length ts) b → get_or ts b 0 ≡ fold max 0 ts
best_greatest ts b best = go (folded_one max keeps_later 0 ts)
  where
    above : get_or ts b 0 ≤ fold max 0 ts
    above = let p = folded_prevails max keeps_later 0 ts (suc b) (let h = best.0 in omega arith) in omega arith

    go : (k : ℕ) × (k < length (0 ∷ ts)) × (get_or (0 ∷ ts) k 0 ≡ fold max 0 ts) → get_or ts b 0 ≡ fold max 0 ts
    go (zero, h, e) = omega (arith, above)
    go (suc k, h, e) = let l = best.1 k 0 (omega arith) in omega (arith, above)

-- the first place of the greatest of a list
pub first_greatest : (ts : List ℕ) (t : ℕ) (r : Option ℕ) → reduce max ts ≡ Some t → MatchOption r (AllWithin (λ u. u ≡ t → ⊥) ts 0 (length ts)) (λ m. (m < length ts) × HoldsAt (λ u. u ≡ t) ts m × AllWithin (λ u. u ≡ t → ⊥) ts 0 m) →
    MatchOption r (length ts ≡ 0) (λ m. (m < length ts) × (get_or ts m 0 ≡ fold max 0 ts))
first_greatest [] t r e h = absurd (none-some t e)
first_greatest (u ∷ ts) t None e h =
    let f = folded_one max keeps_later u ts in
    absurd (h f.0 0 (omega arith) f.1 (f.2 ∙ same_Some _ _ e))
first_greatest (u ∷ ts) t (Some m) e h = let z : u ≡ max 0 u = omega arith in (h.0, h.1 0 ∙ sym (same_Some _ _ e) ∙ ap (λ v. fold max v ts) z)
