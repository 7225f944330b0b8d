-- Where the nets into a module come from, and how large an arrival can be. Assumes nothing.
use Rattle.std.proofs.Common.{◌≡◌, ℕ, suc, ◌+◌, ◌-◌, ◌*◌, ◌<◌, ◌≤◌, true, List, [], ◌∷◌, ◌++◌, map, length, get_or, take, drop, set, replicate, fold, sym, refl, ap, ◌∙◌, ap₂, ⊎_elim, add-one, arith, below_more}
use Rattle.netlist.specs.FanIn.{fan_in}
use Rattle.netlist.specs.Netlist.{Netlist, lawful}
use Rattle.netlist.specs.Rules.{net}
use Rattle.netlist.proofs.Words.{keeps_rules}
use Rattle.std.proofs.ByRecursion.{All-from_get_or}
use Rattle.std.proofs.lemmas.List.{map_more, take_all, get_or_append_left, set_at, append_assoc, get_or-set_other, get_or-set_same, length-append, length-replicate}
use Rattle.std.proofs.lemmas.List.Sums.{fold_push}
use Rattle.std.specs.List.{AllByRecursion as All}
use Rattle.timing.specs.Arrivals.{KeepsOne, Into, InReach, kept, over_net, done, arrivals}
use Rattle.timing.specs.Paths.{Timed, Model, timed_by}
use Rattle.timing.proofs.Arrived.{length_arrivals}
use Rattle.timing.proofs.FanIns.{fan_in_leads}

map_same : (f g : ℕ → ℕ) (P : ℕ → Type 0) → ((x : ℕ) → P x → f x ≡ g x) → (xs : List ℕ) → All P xs → map f xs ≡ map g xs
map_same f g P h [] a = refl
map_same f g P h (x ∷ xs) (p, a) = ap₂ (λ y ys. y ∷ ys) (h x p) (map_same f g P h xs a)

module _ (n : Netlist) (ok : lawful n ≡ true) where
  -- a net into module m has its driver below m, and m is a module
  pub into_ends : (m i : ℕ) → Into n m i → ((net n i).driver < m) × (m < 64)
  into_ends m i (h, r) =
      let law = keeps_rules n ok in
      let ends = law.ends i h in
      let few = law.at_most_64 in
      (omega arith, omega arith)

  pub fan_in_into : (m : ℕ) → All (Into n m) (fan_in n m)
  fan_in_into m = All-from_get_or (Into n m) (fan_in n m) 0 (λ k h. one k h)
    where
      one : (k : ℕ) → k < length (fan_in n m) → Into n m (get_or (fan_in n m) k 0)
      one k h =
          let l = fan_in_leads m 0 n.nets k h in
          let e : get_or (fan_in n m) k 0 ≡ l.0 = l.1 ∙ omega arith in
          rw e (l.2, l.3)

  -- One module more of a walk, whose arrivals so far stand at the front of a table. Only they are looked at.
  module _ (keep : ℕ → ℕ → ℕ) (d : Model) (known : List ℕ) (m : ℕ) (same : known ≡ arrivals keep (timed_by n d) m ++ replicate (64 - m) 0) where
    abbrev g : Timed
    g = timed_by n d

    pub done_known : done keep g known m ≡ done keep g (arrivals keep g m) m
    done_known = ap (λ ts. kept keep (d.start m) ts + d.at_module m) (map_same (over_net g known) (over_net g (arrivals keep g m)) (Into n m) over (fan_in n m) (fan_in_into m))
      where
        over : (i : ℕ) → Into n m i → over_net g known i ≡ over_net g (arrivals keep g m) i
        over i h =
            let l : (net n i).driver < length (arrivals keep g m) = rw (length_arrivals keep g m) (into_ends m i h).0 in
            ap (λ t. t + d.on_net i) (ap (λ (ts : List ℕ). get_or ts (net n i).driver 0) same ∙ get_or_append_left (arrivals keep g m) (replicate (64 - m) 0) 0 (net n i).driver l)

    pub table_long : m ≤ 64 → length known ≡ 64
    table_long h = ap length same ∙ length-append (arrivals keep g m) (replicate (64 - m) 0) ∙ (let a = length_arrivals keep g m in let b = length-replicate {A = ℕ} (64 - m) 0 in omega arith)

    pub arrivals_more : (t : ℕ) → m < 64 → t ≡ done keep g known m → set known m t ≡ arrivals keep g (m + 1) ++ replicate (64 - (m + 1)) 0
    arrivals_more t h e =
        let xs = arrivals keep g m in
        let zs : List ℕ = replicate (64 - (m + 1)) 0 in
        let left : 64 - m ≡ suc (64 - (m + 1)) = omega arith in
        ap (λ (ts : List ℕ). set ts m t) (same ∙ ap (λ k. xs ++ replicate k 0) left)
        ∙ set_at xs 0 zs t m (length_arrivals keep g m)
        ∙ sym (append_assoc xs (t ∷ []) zs)
        ∙ ap (λ v. (xs ++ v ∷ []) ++ zs) (e ∙ done_known)
        ∙ ap (λ k. arrivals keep g k ++ zs) (sym (add-one m))

-- what is written at m keeps the reach
pub reach_more : (known : List ℕ) (m t : ℕ) → m < length known → InReach m known → t ≤ 40000 * (m + 1) → InReach (m + 1) (set known m t)
reach_more known m t l h b = below_more (λ k. get_or (set known m t) k 0 ≤ 40000 * (k + 1)) m
    (λ k j. let e = get_or-set_other known m k t 0 (λ q. omega arith) in let r = h k j in omega arith)
    (let e = get_or-set_same known m t 0 l in omega arith)

-- one of two that are small is small
pub keep_small : (keep : ℕ → ℕ → ℕ) → KeepsOne keep → (x y b : ℕ) → x ≤ b → y ≤ b → keep x y ≤ b
keep_small keep way x y b h k = ⊎_elim (λ e. omega arith) (λ e. omega arith) (way.one_of_two x y)

-- one more arrival is kept
pub keep_more : (keep : ℕ → ℕ → ℕ) (over : ℕ → ℕ) (t : ℕ) (is : List ℕ) (k : ℕ) → k < length is → fold keep t (map over (take (k + 1) is)) ≡ keep (fold keep t (map over (take k is))) (over (get_or is k 0))
keep_more keep over t is k h = ap (fold keep t) (map_more over is k 0 h) ∙ fold_push keep t (map over (take k is)) (over (get_or is k 0))

-- a list that is not empty, as a slice pattern takes it apart
pub head_and_rest : (xs : List ℕ) → 0 < length xs → xs ≡ get_or xs 0 0 ∷ take (length xs - 1) (drop 1 xs)
head_and_rest [] h = absurd (omega arith)
head_and_rest (x ∷ xs) h = ap (λ ys. x ∷ ys) (sym (take_all (length (x ∷ xs) - 1) xs (omega arith)))
