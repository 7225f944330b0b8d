-- What a chain over a slice may ask of the items that it hands to a closure. Assumes nothing.
use Rattle.std.proofs.Common.{◌≡◌, List, [], ◌∷◌, Some, Bor, Iter, sym, ap, ◌∙◌, subst}
use Rattle.std.proofs.iter.Serving.{Stays}
use Rattle.std.proofs.iter.Yields.{fronts}
use Rattle.std.specs.Iterator.{CallableAtEachTurn, Yields}
use Rattle.std.specs.List.{AllByRecursion as All}

module _ {A : Type 0} (P : A → Type 0) where
  item : (xs : List (Bor A)) (s t u : Iter A) (x : Bor A) → All P s.rest.now → Yields fronts s xs t → fronts t (Some x) u → P x.now
  item [] s t u x all same e = (subst (All P) (ap (λ (s : Iter A). s.rest.now) same ∙ e) all).0
  item (y ∷ xs) s t u x all (j, e, more) next = item xs j t u x (subst (All P) e all).1 more next

  -- where each element of the slice has P, and no call changes a part of the state
  pub served : {S X : Type 0} (part : S → X) → Stays (Bor A) part → {R : S → Bor A → S → Type 0} {Q : S → Bor A → Type 0} (xs : List A) (s : Iter A) (p : S) → s.rest.now ≡ xs → All P xs →
      ((p : S) (x : Bor A) (q : S) → R p x q → part q ≡ part p) → ((q : S) (x : Bor A) → part q ≡ part p → P x.now → Q q x) → CallableAtEachTurn fronts R Q s p
  served part stays {R = R} all s p same each keeps asks =
      record { at = λ xs t q x u y k e. asks q x (stays R keeps xs p q k) (item xs s t u x (subst (All P) (sym same) each) y e) }
