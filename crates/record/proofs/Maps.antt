-- Map bytes, by tests that are computed over each of them. Assumes nothing.
use Rattle.std.proofs.Common.{◌≡◌, ℕ, ◌+◌, ◌<◌, Bool, true, false, cond, not, ◌&&◌, ◌||◌, eqb, ltb, refl, ap, ◌∙◌, arith}
use Rattle.std.proofs.lemmas.Bool.{and_parts, ltb-true, eqb-true}
use Rattle.std.proofs.lemmas.Bool.Decides.{nat_tests}
use Rattle.netlist.specs.Slots.{bit}
use Rattle.netlist.proofs.Tests.{up_to, at_each, or_second, same, same_true}
use Rattle.record.specs.Blocks.{head_map, net_map}

-- the test passes at both truth values
abbrev both : (Bool → Bool) → Bool
both f = f true && f false

at_both : (f : Bool → Bool) → both f ≡ true → (b : Bool) → f b ≡ true
at_both f h true = (and_parts (f true) (f false) h).0
at_both f h false = (and_parts (f true) (f false) h).1

twice_not : (a b : Bool) → a ≡ not b → not a ≡ b
twice_not a true h = ap not h
twice_not a false h = ap not h

-- the map of a head whose optional fields are absent where told
abbrev pub head_weights : Bool → Bool → Bool → Bool → ℕ
head_weights a b c d = 1 + cond a 0 2 + cond b 0 4 + cond c 0 8 + cond d 0 16

pub record HeadMap (map : ℕ) (a b c d : Bool) : Type 0 where
  pub lawful : head_map map ≡ true
  pub bit1 : bit map 1 ≡ not a
  pub bit2 : bit map 2 ≡ not b
  pub bit3 : bit map 3 ≡ not c
  pub bit4 : bit map 4 ≡ not d

abbrev head_test : Bool → Bool → Bool → Bool → Bool
head_test a b c d =
    let m = head_weights a b c d in
    head_map m && (same (bit m 1) (not a) && (same (bit m 2) (not b) && (same (bit m 3) (not c) && same (bit m 4) (not d))))

head_all : both (λ a. both (λ b. both (λ c. both (λ d. head_test a b c d)))) ≡ true
head_all = refl

pub head_map_of : (a b c d : Bool) → HeadMap (head_weights a b c d) a b c d
head_map_of a b c d =
    let m = head_weights a b c d in
    let t : head_test a b c d ≡ true = at_both (head_test a b c) (at_both (λ x. both (λ w. head_test a b x w)) (at_both (λ x. both (λ z. both (λ w. head_test a x z w))) (at_both (λ x. both (λ y. both (λ z. both (λ w. head_test x y z w)))) head_all a) b) c) d in
    let t0 = and_parts (head_map m) _ t in
    let t1 = and_parts (same (bit m 1) (not a)) _ t0.1 in
    let t2 = and_parts (same (bit m 2) (not b)) _ t1.1 in
    let t3 = and_parts (same (bit m 3) (not c)) _ t2.1 in
    record {
      lawful = t0.0;
      bit1 = same_true _ _ t1.0;
      bit2 = same_true _ _ t2.0;
      bit3 = same_true _ _ t3.0;
      bit4 = same_true _ _ t3.1;
    }

abbrev head_from_bits : ℕ → ℕ
head_from_bits m = head_weights (not (bit m 1)) (not (bit m 2)) (not (bit m 3)) (not (bit m 4))

head_bits_all : up_to (λ m. not (head_map m) || eqb m (head_from_bits m)) 32 ≡ true
head_bits_all = refl

pub head_map_is : (m : ℕ) (a b c d : Bool) → HeadMap m a b c d → m ≡ head_weights a b c d
head_map_is m a b c d h =
    let l = ltb-true m 32 (and_parts (bit m 0) (ltb m 32) h.lawful).1 in
    let t = or_second (head_map m) _ h.lawful (at_each (λ k. not (head_map k) || eqb k (head_from_bits k)) 32 head_bits_all m l) in
    eqb-true m (head_from_bits m) t
    ∙ (ap (λ x. head_weights x (not (bit m 2)) (not (bit m 3)) (not (bit m 4))) (twice_not _ a h.bit1)
    ∙ (ap (λ x. head_weights a x (not (bit m 3)) (not (bit m 4))) (twice_not _ b h.bit2)
    ∙ (ap (λ x. head_weights a b x (not (bit m 4))) (twice_not _ c h.bit3)
    ∙ ap (λ x. head_weights a b c x) (twice_not _ d h.bit4))))

-- the map of a net whose wire delay is absent where told
abbrev pub net_weights : Bool → ℕ
net_weights a = 3 + cond a 0 4

pub net_map_of : (a : Bool) → (net_map (net_weights a) ≡ true) × (bit (net_weights a) 2 ≡ not a)
net_map_of true = (refl, refl)
net_map_of false = (refl, refl)

net_bits_all : up_to (λ m. not (net_map m) || eqb m (net_weights (not (bit m 2)))) 8 ≡ true
net_bits_all = refl

pub net_map_is : (m : ℕ) (a : Bool) → net_map m ≡ true → bit m 2 ≡ not a → m ≡ net_weights a
net_map_is m a h e =
    let l : m < 8 = grind (arith, nat_tests) in
    let t = or_second (net_map m) _ h (at_each (λ k. not (net_map k) || eqb k (net_weights (not (bit k 2)))) 8 net_bits_all m l) in
    eqb-true m (net_weights (not (bit m 2))) t ∙ ap net_weights (twice_not _ a e)
