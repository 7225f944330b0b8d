-- Sums over numbered things. Assumes nothing.
use Rattle.std.proofs.Common.{◌≡◌, ℕ, zero, suc, ◌+◌, ◌-◌, ◌*◌, ◌<◌, ◌≤◌, List, map, fold, sum, refl, sym, ap, ap₂, ◌∙◌, add-one, arith}
use Rattle.std.proofs.iter.Yields.{nat_range_steps}
use Rattle.std.proofs.lemmas.Iterator.{YieldsList, YieldsList-from_range, YieldsList-from_map, maps}
use Rattle.std.proofs.lemmas.Iterator.Consumers.{sum_from_yields_List, fits_from_yields_list}
use Rattle.std.proofs.lemmas.List.FromFn.{sum_by-map-range_with_len_more}
use Rattle.std.specs.Bool.{⊤}
use Rattle.std.specs.Fn.{Called}
use Rattle.std.specs.Iterator.{Drains}
use Rattle.std.specs.Iterator.Adapters.{map_source, map_callee}
use Rattle.std.specs.Iterator.Runs.{EachRunFrom}
use Rattle.std.specs.List.{range_with_len}
use Rattle.std.specs.declared.iter.Map.{Map}
use Rattle.std.specs.declared.ops.Range.{Range}
use denote.Param.Members.{Mut}
use Rattle.timing.specs.Sums.{sum_below}

pub sum_below_same : (k : ℕ) (f g : ℕ → ℕ) → ((i : ℕ) → i < k → f i ≡ g i) → sum_below k f ≡ sum_below k g
sum_below_same zero f g h = refl
sum_below_same (suc k) f g h = ap₂ (λ x y. x + y) (sum_below_same k f g (λ i l. h i (omega arith))) (h k (omega arith))

pub sum_below_more : (k : ℕ) (f : ℕ → ℕ) → sum_below (k + 1) f ≡ sum_below k f + f k
sum_below_more k f = ap (λ i. sum_below i f) (add-one k)

pub sum_below_bound : (k : ℕ) (f : ℕ → ℕ) (b : ℕ) → ((i : ℕ) → f i ≤ b) → sum_below k f ≤ k * b
sum_below_bound zero f b h = omega arith
sum_below_bound (suc k) f b h = let l = sum_below_bound k f b h in let m = h k in omega arith

-- the sum of a list made from the numbers below k
listed : (k : ℕ) (f : ℕ → ℕ) → sum (map f (range_with_len 0 k)) ≡ sum_below k f
listed zero f = refl
listed (suc k) f =
    ap (λ i. sum (map f (range_with_len 0 i))) (sym (add-one k))
    ∙ sum_by-map-range_with_len_more (λ x. x) f 0 k k (omega arith)
    ∙ ap (λ s. s + f k) (listed k f)

-- a chain that maps the numbers below k by f, and sums up
module _ {F : Type 0} (s : Map (Range ℕ) F) (g : Mut F (ℕ × Unit {0}) ℕ) (k : ℕ) (f : ℕ → ℕ) (below : map_source s ≡ record { start = 0; end = k })
    (gives : (x r : ℕ) (q : F) → Called g (map_callee s) (x, tt) r q → (q ≡ map_callee s) × (r ≡ f x)) where
  road : YieldsList (maps nat_range_steps g) (λ r. r) s (map f (range_with_len 0 k))
  road = let all : k - 0 ≡ k = omega arith in YieldsList-from_map g f (YieldsList-from_range 0 k k below all) refl gives

  pub sum_below_ran : (r : ℕ) → ((xs : List ℕ) × (⊤ → Drains (maps nat_range_steps g) s xs) × (r ≡ fold (λ a x. a + x) 0 xs)) → r ≡ sum_below k f
  sum_below_ran r ran = sum_from_yields_List s r ran road ∙ listed k f

  pub sum_below_fits : (top : ℕ) → sum_below k f < top → EachRunFrom (maps nat_range_steps g) s (λ p. fold (λ a x. a + x) 0 p.items < top)
  sum_below_fits top h = let e = listed k f in fits_from_yields_list s top road (omega arith)
