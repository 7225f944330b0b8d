-- The lowest bit of a byte, and the byte without it, by one test that is computed over every byte. Assumes nothing.
use Rattle.std.proofs.Common.{◌≡◌, ℕ, zero, suc, ◌+◌, ◌-◌, ◌<◌, ◌≤◌, Bool, true, false, not, ◌&&◌, ◌||◌, eqb, ltb, leb, sym, refl, ap, inl, inr, ◌∙◌, arith}
use lib.Bits.{bit_and}
use lib.Count.{ones, ones_in, count_trailing_zeros}
use Rattle.std.proofs.lemmas.Bool.{and_parts, cases_lt, ltb-true, eqb-true, lt-ltb, le-ltb, lt-leb}
use Rattle.netlist.specs.Slots.{bit}
use Rattle.netlist.proofs.Maps.{bit_past_byte}
use Rattle.netlist.proofs.Tests.{up_to, at_each, or_second, same, same_true}

abbrev low : ℕ → ℕ
low n = count_trailing_zeros 8 n

abbrev without : ℕ → ℕ
without n = bit_and n (n - 1)

-- bit j of the byte without its lowest bit: it stands above that bit just where it stood before
abbrev kept_bit : ℕ → ℕ → Bool
kept_bit n j = same (bit (without n) j) (ltb (low n) j && bit n j) && (leb (low n) j || not (bit n j))

abbrev low_test : ℕ → Bool
low_test n = not (ltb 0 n) || (ltb (low n) 8 && (bit n (low n) && (eqb (ones (without n) + 1) (ones n) && (ltb (without n) 256 && up_to (kept_bit n) 8))))

low_all : up_to low_test 256 ≡ true
unfolding ones ones_in count_trailing_zeros
low_all = refl

pub record Lowest (n : ℕ) : Type 0 where
  pub in_byte : low n < 8
  pub stands : bit n (low n) ≡ true
  pub fewer : ones (without n) + 1 ≡ ones n
  pub byte : without n < 256
  pub each : (j : ℕ) → j < 8 → kept_bit n j ≡ true

pub lowest : (n : ℕ) → n < 256 → 0 < n → Lowest n
lowest n l z =
    let t = or_second (ltb 0 n) _ (lt-ltb 0 n z) (at_each low_test 256 low_all n l) in
    let a = and_parts (ltb (low n) 8) _ t in
    let b = and_parts (bit n (low n)) _ a.1 in
    let c = and_parts (eqb (ones (without n) + 1) (ones n)) _ b.1 in
    let d = and_parts (ltb (without n) 256) _ c.1 in
    record { in_byte = ltb-true _ _ a.0; stands = b.0; fewer = eqb-true _ _ c.0; byte = ltb-true _ _ d.0; each = at_each (kept_bit n) 8 d.1 }

-- below the lowest bit none stands; without it, none up to it, and above it the same
pub none_below : (n : ℕ) → Lowest n → (j : ℕ) → j < low n → bit n j ≡ false
none_below n w j h =
    let e = (and_parts (same (bit (without n) j) (ltb (low n) j && bit n j)) _ (w.each j (let x = w.in_byte in omega arith))).1 in
    flip (bit n j) (leb (low n) j) (lt-leb (low n) j h) e
  where
    flip : (b l : Bool) → l ≡ false → (l || not b) ≡ true → b ≡ false
    flip false l e h = refl
    flip true false e h = sym h
    flip true true e h = e

pub cleared_to : (n : ℕ) → Lowest n → (j : ℕ) → j ≤ low n → bit (without n) j ≡ false
cleared_to n w j h =
    let e = same_true _ _ (and_parts (same (bit (without n) j) (ltb (low n) j && bit n j)) _ (w.each j (let x = w.in_byte in omega arith))).0 in
    e ∙ ap (λ b. b && bit n j) (le-ltb (low n) j h)

pub same_above : (n : ℕ) → Lowest n → (j : ℕ) → low n < j → j < 8 → bit (without n) j ≡ bit n j
same_above n w j h l =
    let e = same_true _ _ (and_parts (same (bit (without n) j) (ltb (low n) j && bit n j)) _ (w.each j l)).0 in
    e ∙ ap (λ b. b && bit n j) (lt-ltb (low n) j h)

-- also past the byte, where neither has a bit
pub same_past : (n : ℕ) → n < 256 → Lowest n → (j : ℕ) → low n < j → bit (without n) j ≡ bit n j
same_past n b w j h =
    elim (cases_lt j 8) [
      | inl l ↦ same_above n w j h l
      | inr l ↦ bit_past_byte (without n) j w.byte l ∙ sym (bit_past_byte n j b l)
    ]

pub some_ones : (n : ℕ) → 0 < ones n → 0 < n
unfolding ones ones_in
some_ones zero h = h
some_ones (suc n) h = omega arith

none_test : up_to (λ n. not (eqb (ones n) 0) || eqb n 0) 256 ≡ true
unfolding ones ones_in
none_test = refl

pub no_ones : (n : ℕ) → n < 256 → ones n ≡ 0 → n ≡ 0
no_ones n l e = eqb-true n 0 (or_second (eqb (ones n) 0) _ (ap (λ k. eqb k 0) e) (at_each (λ n. not (eqb (ones n) 0) || eqb n 0) 256 none_test n l))
