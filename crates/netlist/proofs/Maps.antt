-- The bits of a map. Assumes nothing.
use Rattle.std.proofs.Common.{◌≡◌, ℕ, zero, suc, ◌+◌, ◌-◌, ◌*◌, ◌/◌, ◌%◌, ◌^◌, ◌<◌, ◌≤◌, true, false, eqb, ◌≢◌, sym, ap, ◌∙◌, inl, inr, add-mul, one-mul, zero-mul, arith, pow_mono}
use lib.Bits.{bit_and}
use lib.Pow.{mod-mod-pow}
use Rattle.std.proofs.lemmas.Nat.{pow_pos, pow-add, div_below, mod_below, shr_split, shr_high, field_of, mod-pow-add, and_shr, and_mod, and_le_r}
use Rattle.std.proofs.lemmas.Bool.{cases_lt, cases_order, both_ways, eqb-true, eqb-false, eq-eqb}
use Rattle.netlist.specs.Slots.{bit}

pub shr_none : (map i : ℕ) → map < 2 ^ i → map / 2 ^ i ≡ 0
shr_none map i h = let l = div_below map (2 ^ i) 1 (pow_pos i) (omega arith) in omega arith

pub below_from_shr : (map i : ℕ) → map / 2 ^ i ≡ 0 → map < 2 ^ i
below_from_shr map i h =
    let s = shr_split map i in
    let m = mod_below map (2 ^ i) (pow_pos i) in
    let z : map / 2 ^ i * 2 ^ i ≡ 0 = rw h (zero-mul (2 ^ i)) in
    omega arith

pub bit_past : (map i : ℕ) → map < 2 ^ i → bit map i ≡ false
bit_past map i h = let e = shr_none map i h in rw e

pub bit_past_byte : (map i : ℕ) → map < 256 → 8 ≤ i → bit map i ≡ false
bit_past_byte map i h l = let p : 2 ^ 8 ≤ 2 ^ i = pow_mono l in bit_past map i (omega arith)

double : (n : ℕ) → 2 ^ (n + 1) ≡ 2 ^ n * 2
double n = pow-add 2 n 1

-- a power of two added above a bit leaves the bit
pub bit_add_low : (map n i : ℕ) → i < n → bit (map + 2 ^ n) i ≡ bit map i
bit_add_low map n i h =
    let d = n - (i + 1) in
    let q = map / 2 ^ i in
    let r = map % 2 ^ i in
    let e : n ≡ (d + 1) + i = omega arith in
    let p : 2 ^ n ≡ 2 ^ (d + 1) * 2 ^ i = ap (λ (x : ℕ). 2 ^ x) e ∙ pow-add 2 (d + 1) i in
    let s = shr_split map i in
    let m = add-mul q (2 ^ (d + 1)) (2 ^ i) in
    let w : map + 2 ^ n ≡ (q + 2 ^ (d + 1)) * 2 ^ i + r = omega arith in
    let v : (map + 2 ^ n) / 2 ^ i ≡ q + 2 ^ (d + 1) = ap (λ (x : ℕ). x / 2 ^ i) w ∙ shr_high (q + 2 ^ (d + 1)) i r (mod_below map (2 ^ i) (pow_pos i)) in
    let t = double d in
    let u : (map + 2 ^ n) / 2 ^ i % 2 ≡ q % 2 = omega arith in
    ap (λ (x : ℕ). eqb x 1) u

pub bit_add_same : (map n : ℕ) → map < 2 ^ n → bit (map + 2 ^ n) n ≡ true
bit_add_same map n h =
    let w : map + 2 ^ n ≡ 1 * 2 ^ n + map = omega arith in
    let v : (map + 2 ^ n) / 2 ^ n ≡ 1 = ap (λ (x : ℕ). x / 2 ^ n) w ∙ shr_high 1 n map h in
    rw v

pub bit_add_past : (map n i : ℕ) → map < 2 ^ n → n < i → bit (map + 2 ^ n) i ≡ false
bit_add_past map n i h l =
    let k : n + 1 ≤ i = omega arith in
    let p : 2 ^ (n + 1) ≤ 2 ^ i = pow_mono k in
    let t = double n in
    bit_past (map + 2 ^ n) i (omega arith)

-- where no bit stands after it, none stood before, and it is another bit
pub bit_add_left : (map n i : ℕ) → map < 2 ^ n → bit (map + 2 ^ n) i ≡ false → (i ≢ n) × (bit map i ≡ false)
bit_add_left map n i h b =
    elim (cases_order i n) [
      | inl e ↦ absurd (both_ways (bit (map + 2 ^ n) i) b (rw e (bit_add_same map n h)))
      | inr o ↦ elim o [
        | inl l ↦ (omega arith, sym (bit_add_low map n i l) ∙ b)
        | inr l ↦ let k : n ≤ i = omega arith in let p : 2 ^ n ≤ 2 ^ i = pow_mono k in (omega arith, bit_past map i (omega arith))
      ]
    ]

pub bit_in_byte : (map i : ℕ) → map < 256 → bit map i ≡ true → i < 8
bit_in_byte map i h b =
    elim (cases_lt i 8) [ inl l ↦ l | inr l ↦ absurd (both_ways (bit map i) (bit_past_byte map i h l) b) ]

-- a map other than 0 has a bit
pub some_bit : (k map : ℕ) → 0 < map → map < 2 ^ k → (i : ℕ) × (bit map i ≡ true)
some_bit zero map z h = absurd (omega arith)
some_bit (suc k) map z h =
    elim (cases_lt map (2 ^ k)) [
      | inl l ↦ some_bit k map z l
      | inr l ↦
          let e : suc k ≡ k + 1 = omega arith in
          let d : 2 ^ suc k ≡ 2 ^ k * 2 = ap (λ (x : ℕ). 2 ^ x) e ∙ double k in
          let r = map - 2 ^ k in
          let w : map ≡ r + 2 ^ k = omega arith in
          (k, rw w (bit_add_same r k (omega arith)))
    ]

-- a map within another: each of its bits is a bit of the other
pub bit_within : (a b i : ℕ) → bit_and a b ≡ a → bit a i ≡ true → bit b i ≡ true
bit_within a b i h t =
    let x = a / 2 ^ i in
    let y = b / 2 ^ i in
    let e : x % 2 ≡ bit_and (x % 2) (y % 2) = ap (λ (z : ℕ). z / 2 ^ i % 2) (sym h) ∙ ap (λ (z : ℕ). z % 2) (and_shr a b i) ∙ and_mod x y 1 in
    let l = and_le_r (x % 2) (y % 2) in
    let o = eqb-true (x % 2) 1 t in
    eq-eqb (y % 2) 1 (omega arith)

-- the bits below k of a map
pub bit_mod_low : (map k i : ℕ) → i < k → bit (map % 2 ^ k) i ≡ bit map i
bit_mod_low map k i h =
    let d = k - (i + 1) in
    let e : k ≡ (d + 1) + i = omega arith in
    let f : map % 2 ^ k / 2 ^ i ≡ map / 2 ^ i % 2 ^ (d + 1) = ap (λ (x : ℕ). map % 2 ^ x / 2 ^ i) e ∙ field_of map (d + 1) i in
    let u : map % 2 ^ k / 2 ^ i % 2 ≡ map / 2 ^ i % 2 = ap (λ (x : ℕ). x % 2) f ∙ mod-mod-pow (map / 2 ^ i) d 1 in
    ap (λ (x : ℕ). eqb x 1) u

pub bit_mod_in : (map k i : ℕ) → bit (map % 2 ^ k) i ≡ true → i < k
bit_mod_in map k i b =
    elim (cases_lt i k) [
      | inl l ↦ l
      | inr l ↦
          let m = mod_below map (2 ^ k) (pow_pos k) in
          let p : 2 ^ k ≤ 2 ^ i = pow_mono l in
          absurd (both_ways (bit (map % 2 ^ k) i) (bit_past (map % 2 ^ k) i (omega arith)) b)
    ]

mod_more : (map k : ℕ) → map % 2 ^ (k + 1) ≡ (map / 2 ^ k % 2) * 2 ^ k + map % 2 ^ k
mod_more map k = let e : k + 1 ≡ 1 + k = omega arith in ap (λ (x : ℕ). map % 2 ^ x) e ∙ mod-pow-add map 1 k

pub mod_stands : (map k : ℕ) → bit map k ≡ true → map % 2 ^ (k + 1) ≡ map % 2 ^ k + 2 ^ k
mod_stands map k b =
    let o = eqb-true (map / 2 ^ k % 2) 1 b in
    let e = mod_more map k in
    let z : (map / 2 ^ k % 2) * 2 ^ k ≡ 2 ^ k = rw o (one-mul (2 ^ k)) in
    omega arith

pub mod_skips : (map k : ℕ) → bit map k ≡ false → map % 2 ^ (k + 1) ≡ map % 2 ^ k
mod_skips map k b =
    let o : map / 2 ^ k % 2 ≡ 0 = let f = eqb-false (map / 2 ^ k % 2) 1 b in omega arith in
    let e = mod_more map k in
    let z : (map / 2 ^ k % 2) * 2 ^ k ≡ 0 = rw o (zero-mul (2 ^ k)) in
    omega arith
