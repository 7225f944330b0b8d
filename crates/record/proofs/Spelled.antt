-- Numbers and their bytes, at a place of a record. Assumes nothing.
use Rattle.std.proofs.Common.{◌≡◌, ℕ, zero, suc, ◌+◌, ◌-◌, ◌*◌, ◌/◌, ◌%◌, ◌^◌, ◌<◌, ◌≤◌, List, [], ◌∷◌, ◌++◌, length, get_or, drop, sym, refl, ap, ◌∙◌, add-zero, mod-eq_of_lt, mul_assoc, mul_comm, pow-suc, mul-add, add-one, arith}
use native.Mathlib.Nat.{pow-succ', mul-add-div, mul-add-mod_self_left, div-eq_of_lt, mod-one}
use lib.Arith.{mod-mul, digits_lt}
use Rattle.std.proofs.lemmas.List.{drop-drop, drop_at, length-drop, length-append, get_or-drop, drop_more}
use Rattle.record.specs.Fields.{Bytes, number, spelled}

-- what stands at a place, and after it
pub past : (bs e t : List ℕ) (at : ℕ) → drop at bs ≡ e ++ t → drop (at + length e) bs ≡ t
past bs e t at h = sym (drop-drop (length e) at bs) ∙ (ap (drop (length e)) h ∙ drop_at e t (length e) refl)

pub room : (bs e t : List ℕ) (at : ℕ) → drop at bs ≡ e ++ t → 0 < length e → at + length e ≤ length bs
room bs e t at h z = let l = ap length h in let m = length-drop at bs in let n = length-append e t in omega arith

pub first : (bs t : List ℕ) (x at : ℕ) → drop at bs ≡ x ∷ t → get_or bs at 0 ≡ x
first bs t x at h =
    let g = get_or-drop at bs 0 0 in
    let z : at + 0 ≡ at = omega arith in
    sym (ap (λ i. get_or bs i 0) z) ∙ (sym g ∙ ap (λ ys. get_or ys 0 0) h)

pub length-spelled : (w n : ℕ) → length (spelled w n) ≡ w
length-spelled zero n = refl
length-spelled (suc w) n = ap suc (length-spelled w n)

pow_pos : (w : ℕ) → 0 < 256 ^ w
pow_pos zero = omega arith
pow_pos (suc w) = let h = pow_pos w in let e = pow-suc 256 w in omega arith

pub number_read : (w n : ℕ) (bs t : List ℕ) (at : ℕ) → drop at bs ≡ spelled w n ++ t → number w bs at ≡ n % 256 ^ w
number_read zero n bs t at h = sym (mod-one n)
number_read (suc w) n bs t at h =
    let f = first bs (spelled w n ++ t) (n / 256 ^ w % 256) at h in
    let p = past bs (n / 256 ^ w % 256 ∷ []) (spelled w n ++ t) at h in
    let ih = number_read w n bs t (at + 1) p in
    let m = mod-mul n {m = 256} {c = 256 ^ w} (omega arith) (pow_pos w) in
    let e = pow-succ' 256 w in
    let c = mul_comm (256 ^ w) (n / 256 ^ w % 256) in
    let q : n % 256 ^ suc w ≡ n % (256 * 256 ^ w) = ap (λ k. n % k) e in
    let s : 256 ^ w * get_or bs at 0 ≡ 256 ^ w * (n / 256 ^ w % 256) = ap (λ k. 256 ^ w * k) f in
    omega arith

-- a number that is read back from the bytes it was written as
pub number_back : (w n : ℕ) (bs t : List ℕ) (at : ℕ) → n < 256 ^ w → drop at bs ≡ spelled w n ++ t → number w bs at ≡ n
number_back w n bs t at l h = number_read w n bs t at h ∙ mod-eq_of_lt l

pub number_lt : (w : ℕ) (bs : List ℕ) (at : ℕ) → Bytes bs → number w bs at < 256 ^ w
number_lt zero bs at b = omega arith
number_lt (suc w) bs at b =
    let ih = number_lt w bs (at + 1) b in
    let d = digits_lt {q = get_or bs at 0} {m = 256} {r = number w bs (at + 1)} {c = 256 ^ w} (b at) ih in
    let e = pow-succ' 256 w in
    let c = mul_comm (256 ^ w) (get_or bs at 0) in
    omega arith

spelled_more : (w m : ℕ) (bs : List ℕ) (at : ℕ) → Bytes bs → at + w ≤ length bs → drop at bs ≡ spelled w (256 ^ w * m + number w bs at) ++ drop (at + w) bs
spelled_more zero m bs at b h = ap (λ i. drop i bs) (sym (add-zero at))
spelled_more (suc w) m bs at b h =
    let P = 256 ^ w in
    let x = get_or bs at 0 in
    let r = number w bs (at + 1) in
    let ih = spelled_more w (256 * m + x) bs (at + 1) b (omega arith) in
    let e = pow-suc 256 w in
    let n = 256 ^ suc w * m + (P * x + r) in
    let a1 : 256 ^ suc w * m ≡ P * (256 * m) = ap (λ k. k * m) e ∙ mul_assoc P 256 m in
    let a2 = mul-add P (256 * m) x in
    let same : n ≡ P * (256 * m + x) + r = omega arith in
    let l = number_lt w bs (at + 1) b in
    let d1 = mul-add-div (pow_pos w) (256 * m + x) r in
    let d0 = div-eq_of_lt l in
    let q : n / P ≡ 256 * m + x = ap (λ k. k / P) same ∙ (d1 ∙ (ap (λ k. 256 * m + x + k) d0 ∙ add-zero (256 * m + x))) in
    let byte = b at in
    let top : n / P % 256 ≡ x = ap (λ k. k % 256) q ∙ (mul-add-mod_self_left 256 m x ∙ mod-eq_of_lt byte) in
    let z : at + 1 + w ≡ at + suc w = omega arith in
    let more = drop_more bs at 0 (omega arith) in
    more ∙ (ap (λ k. x ∷ k) ih ∙ (ap (λ k. x ∷ (spelled w k ++ drop (at + 1 + w) bs)) (sym same) ∙ (ap (λ k. x ∷ (spelled w n ++ drop k bs)) z ∙ ap (λ k. k ∷ (spelled w n ++ drop (at + suc w) bs)) (sym top))))

-- the bytes of a number that was read are those it was read from
pub spelled_back : (w : ℕ) (bs : List ℕ) (at : ℕ) → Bytes bs → at + w ≤ length bs → drop at bs ≡ spelled w (number w bs at) ++ drop (at + w) bs
spelled_back w bs at b h =
    let e : 256 ^ w * 0 + number w bs at ≡ number w bs at = omega arith in
    spelled_more w 0 bs at b h ∙ ap (λ k. spelled w k ++ drop (at + w) bs) e

-- A number read byte by byte: `n` is what the first i bytes gave.
pub number_more : (w i n : ℕ) (bs : List ℕ) (at : ℕ) → i < w →
    256 ^ (w - i) * n + number (w - i) bs (at + i) ≡ 256 ^ (w - (i + 1)) * (256 * n + get_or bs (at + i) 0) + number (w - (i + 1)) bs (at + (i + 1))
number_more w i n bs at h =
    let k = w - (i + 1) in
    let x = get_or bs (at + i) 0 in
    let r = number k bs (at + i + 1) in
    let e : w - i ≡ suc k = omega arith in
    let f = ap (λ j. 256 ^ j * n + number j bs (at + i)) e in
    let p : 256 ^ suc k * n ≡ 256 ^ k * (256 * n) = ap (λ j. j * n) (pow-suc 256 k) ∙ mul_assoc (256 ^ k) 256 n in
    let d = mul-add (256 ^ k) (256 * n) x in
    let z : at + i + 1 ≡ at + (i + 1) = omega arith in
    let s : 256 ^ suc k * n + (256 ^ k * x + r) ≡ 256 ^ k * (256 * n + x) + r = omega arith in
    f ∙ (s ∙ ap (λ j. 256 ^ k * (256 * n + x) + number k bs j) z)

pub number_small : (i n : ℕ) → i < 4 → n < 256 ^ i → 256 * n + 255 < 2 ^ 32
number_small zero n h l = omega arith
number_small (suc zero) n h l = omega arith
number_small (suc (suc zero)) n h l = omega arith
number_small (suc (suc (suc zero))) n h l = omega arith
number_small (suc (suc (suc (suc i)))) n h l = absurd (omega arith)

pub number_grows : (i n x : ℕ) → n < 256 ^ i → x < 256 → 256 * n + x < 256 ^ (i + 1)
number_grows i n x l b = let e = pow-succ' 256 i in let z : 256 ^ (i + 1) ≡ 256 ^ suc i = ap (λ k. 256 ^ k) (add-one i) in omega arith
