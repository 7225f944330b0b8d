-- Tests over each value of a list. Assumes nothing.
use Rattle.std.proofs.Common.{◌≡◌, ℕ, zero, suc, ◌<◌, Bool, true, List, [], ◌∷◌, ◌++◌, length, get_or, Some, Option, refl, ◌∙◌, arith}
use Rattle.std.specs.List.{list_all}
use Rattle.std.proofs.lemmas.Bool.{and_parts, and_from}
use Rattle.std.proofs.lemmas.List.Folds.{list_all-append}
use Rattle.netlist.specs.Netlist.{in_order}

module _ {T : Type 0} where
  pub list_all_push : (test : T → Bool) (xs : List T) (y : T) → list_all test xs ≡ true → test y ≡ true → list_all test (xs ++ y ∷ []) ≡ true
  list_all_push test xs y h e = list_all-append test xs (y ∷ []) ∙ rw (h, e) refl

  pub list_all_weaken : (f g : T → Bool) (xs : List T) → ((x : T) → f x ≡ true → g x ≡ true) → list_all f xs ≡ true → list_all g xs ≡ true
  list_all_weaken f g [] k h = refl
  list_all_weaken f g (x ∷ xs) k h =
      let p = and_parts (f x) (list_all f xs) h in
      and_from (g x) (list_all g xs) (k x p.0) (list_all_weaken f g xs k p.1)

  pub list_all_get : (test : T → Bool) (xs : List T) → list_all test xs ≡ true → (i : ℕ) (d : T) → i < length xs → test (get_or xs i d) ≡ true
  list_all_get test [] h i d l = absurd (omega arith)
  list_all_get test (x ∷ xs) h zero d l = (and_parts (test x) (list_all test xs) h).0
  list_all_get test (x ∷ xs) h (suc i) d l = list_all_get test xs (and_parts (test x) (list_all test xs) h).1 i d (omega arith)

  -- a value that follows each of the values in order can come after them
  pub in_order_push : (follows : Option T → T → Bool) (last : Option T) (xs : List T) (y : T) → in_order follows last xs ≡ true → list_all (λ x. follows (Some x) y) xs ≡ true → follows last y ≡ true → in_order follows last (xs ++ y ∷ []) ≡ true
  in_order_push follows last [] y h k e = rw e
  in_order_push follows last (x ∷ xs) y h k e =
      let p = and_parts (follows last x) (in_order follows (Some x) xs) h in
      let q = and_parts (follows (Some x) y) (list_all (λ z. follows (Some z) y) xs) k in
      and_from (follows last x) (in_order follows (Some x) (xs ++ y ∷ [])) p.0 (in_order_push follows (Some x) xs y p.1 q.1 q.0)

  -- values in order by a transitive test follow the first of them
  pub after_first : (follows : Option T → T → Bool) → ((x y z : T) → follows (Some x) y ≡ true → follows (Some y) z ≡ true → follows (Some x) z ≡ true) → (x : T) (ys : List T) → in_order follows (Some x) ys ≡ true → list_all (follows (Some x)) ys ≡ true
  after_first follows t x [] h = refl
  after_first follows t x (y ∷ ys) h =
      let p = and_parts (follows (Some x) y) (in_order follows (Some y) ys) h in
      and_from (follows (Some x) y) (list_all (follows (Some x)) ys) p.0
      (list_all_weaken (follows (Some y)) (follows (Some x)) ys (λ z e. t x y z p.0 e) (after_first follows t y ys p.1))
