-- The bytes of a number. Assumes nothing.
use Rattle.std.proofs.Common.{◌≡◌, ℕ, zero, suc, ◌+◌, ◌-◌, ◌*◌, ◌/◌, ◌%◌, ◌^◌, ◌<◌, ◌≤◌, ◌∷◌, drop, refl, sym, ap, ◌∙◌, pow-suc, arith}
use Rattle.std.proofs.lemmas.Nat.{pow-add}
use Rattle.std.specs.Int.{w32, to_be_bytes}
use Rattle.record.specs.Fields.{spelled}
use Rattle.std.proofs.Math.Nat.{div-one}

pub last_bytes : (width n : ℕ) → width ≤ 4 → drop (4 - width) (to_be_bytes w32 n) ≡ spelled width n
last_bytes zero n h = refl
last_bytes (suc zero) n h = rw (div-one n) refl
last_bytes (suc (suc zero)) n h = rw (div-one n) refl
last_bytes (suc (suc (suc zero))) n h = rw (div-one n) refl
last_bytes (suc (suc (suc (suc zero)))) n h = rw (div-one n) refl
last_bytes (suc (suc (suc (suc (suc k))))) n h = absurd (omega arith)

eights : (k : ℕ) → 2 ^ (8 * k) ≡ 256 ^ k
eights zero = refl
eights (suc k) =
    let e : 8 * suc k ≡ 8 * k + 8 = omega arith in
    ap (λ j. 2 ^ j) e ∙ (pow-add 2 (8 * k) 8 ∙ (ap (λ p. p * 256) (eights k) ∙ sym (pow-suc 256 k)))

-- the bytes of a number, from the highest on
pub spelled_top : (i n : ℕ) → 0 < i → spelled i n ≡ n / 2 ^ (8 * (i - 1)) % 256 ∷ spelled (i - 1) n
spelled_top zero n h = absurd (omega arith)
spelled_top (suc k) n h =
    let e : suc k - 1 ≡ k = omega arith in
    sym (ap (λ j. n / 2 ^ (8 * j) % 256 ∷ spelled j n) e ∙ ap (λ p. n / p % 256 ∷ spelled k n) (eights k))
