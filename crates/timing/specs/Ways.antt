-- Ways of keeping one of two arrivals: the later is one. Assumes nothing.
use Rattle.std.specs.Prelude.{◌≡◌, ℕ, max, ◌⊎◌}
use Rattle.std.proofs.Common.{inl, inr, ⊎_elim, arith}
use Rattle.std.proofs.lemmas.Bool.{cases_lt}
use Rattle.timing.specs.Arrivals.{KeepsOne}

pub keeps_later : KeepsOne max
keeps_later = record { one_of_two = later; order = λ x y. omega arith; grouping = λ x y z. omega arith; adding = λ x y c. omega arith }
  where
    later : (x y : ℕ) → (max x y ≡ x) ⊎ (max x y ≡ y)
    later x y = ⊎_elim (λ l. inr (omega arith)) (λ l. inl (omega arith)) (cases_lt x y)
