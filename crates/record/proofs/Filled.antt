-- Loops that fill a table of eight places, or a list of blocks, as they read. Assumes nothing.
use Rattle.std.proofs.Common.{◌≡◌, ℕ, zero, suc, ◌+◌, ◌-◌, ◌%◌, ◌<◌, ◌≤◌, true, false, cond, eqb, List, [], ◌∷◌, ◌++◌, length, get_or, take, set, replicate, Some, None, Ok, Err, Option, Result, sym, refl, ap, ◌∙◌, subst, inl, inr, append_assoc, arith, pow_pos}
use native.Mathlib.Nat.{div-eq_of_lt}
use lib.Bits.{bit_and}
use lib.Count.{ones, count_trailing_zeros}
use Rattle.std.proofs.lemmas.List.{take_more, take_more_set, take_all, append-nil, length-set, get_or-replicate, get_or_past, get_or-set_other, length-replicate}
use Rattle.std.proofs.lemmas.Bool.{cases_lt, both_ways}
use Rattle.netlist.specs.Slots.{bit}
use Rattle.faults.specs.declared.FieldFault.{FieldFault}
use Rattle.record.specs.Steps.{Read, then_read, ahead}
use Rattle.record.specs.Blocks.{slots}
use Rattle.netlist.proofs.Lowest.{Lowest, lowest, none_below, cleared_to, same_above, some_ones, no_ones}

-- what was read before, in front of what is still to be read
abbrev pub onto : {T E : Type 0} → List T → Read (List T) E → Read (List T) E
onto xs (Ok r) = Ok (xs ++ r.0, r.1)
onto xs (Err e) = Err e

pub onto_none : {T E : Type 0} (r : Read (List T) E) → onto [] r ≡ r
onto_none (Ok r) = refl
onto_none (Err e) = refl

pub onto_ahead : {T E : Type 0} (xs : List T) (x : T) (r : Read (List T) E) → onto xs (ahead x r) ≡ onto (xs ++ x ∷ []) r
onto_ahead xs x (Ok r) = ap (λ k. Ok (k, r.1)) (sym (append_assoc xs (x ∷ []) r.0))
onto_ahead xs x (Err e) = refl

-- nothing stands from place i on
abbrev pub EmptyFrom : {T : Type 0} → T → ℕ → List T → Type 0
EmptyFrom none i xs = (k : ℕ) → i ≤ k → get_or xs k none ≡ none

empty_at_first : {T : Type 0} (none : T) (n i : ℕ) → EmptyFrom none i (replicate n none)
empty_at_first none n i k l =
    elim (cases_lt k n) [ inl h ↦ get_or-replicate n k none none h | inr h ↦ get_or_past (replicate n none) k none (subst (λ j. j ≤ k) (sym (length-replicate n none)) h) ]

empty_after : {T : Type 0} (none : T) (i : ℕ) (xs : List T) (x : T) → EmptyFrom none i xs → EmptyFrom none (i + 1) (set xs i x)
empty_after none i xs x h k l = get_or-set_other xs i k x none (λ e. omega arith) ∙ h k (omega arith)

empty_later : {T : Type 0} (none : T) (i : ℕ) (xs : List T) → EmptyFrom none i xs → EmptyFrom none (i + 1) xs
empty_later none i xs h k l = h k (omega arith)

no_bit : (q : ℕ) → bit 0 q ≡ false
no_bit q = let p = pow_pos q in ap (λ k. eqb (k % 2) 1) (div-eq_of_lt p)

module _ {T : Type 0} (none : T) (width : ℕ) (entry : Option T → ℕ → Result T FieldFault) where
  slots_more : (k map i : ℕ) (last : Option T) (at : ℕ) → slots none width entry (suc k) map i last at ≡
      cond (bit map i) (then_read (entry last at) (λ x. ahead x (slots none width entry k map (i + 1) (Some x) (at + width)))) (ahead none (slots none width entry k map (i + 1) last at))
  unfolding slots
  slots_more k map i last at = refl

  -- a field was read at place i
  slots_read : (map i : ℕ) (last : Option T) (at : ℕ) (xs : List T) (x : T) → i < 8 → length xs ≡ 8 → bit map i ≡ true → entry last at ≡ Ok x →
      onto (take i xs) (slots none width entry (8 - i) map i last at) ≡ onto (take (i + 1) (set xs i x)) (slots none width entry (8 - (i + 1)) map (i + 1) (Some x) (at + width))
  slots_read map i last at xs x l n b e =
      let k = 8 - (i + 1) in
      let s : 8 - i ≡ suc k = omega arith in
      let R = slots none width entry k map (i + 1) (Some x) (at + width) in
      let one : slots none width entry (suc k) map i last at ≡ ahead x R = slots_more k map i last at ∙ rw (b, e) in
      ap (λ j. onto (take i xs) (slots none width entry j map i last at)) s
      ∙ (ap (onto (take i xs)) one ∙ (onto_ahead (take i xs) x R ∙ ap (λ ys. onto ys R) (sym (take_more_set xs i x (omega arith)))))

  -- no bit stands for place i, where there is nothing yet
  slots_skipped : (map i : ℕ) (last : Option T) (at : ℕ) (xs : List T) → i < 8 → length xs ≡ 8 → bit map i ≡ false → get_or xs i none ≡ none →
      onto (take i xs) (slots none width entry (8 - i) map i last at) ≡ onto (take (i + 1) xs) (slots none width entry (8 - (i + 1)) map (i + 1) last at)
  slots_skipped map i last at xs l n b e =
      let k = 8 - (i + 1) in
      let s : 8 - i ≡ suc k = omega arith in
      let R = slots none width entry k map (i + 1) last at in
      let one : slots none width entry (suc k) map i last at ≡ ahead none R = slots_more k map i last at ∙ rw b in
      ap (λ j. onto (take i xs) (slots none width entry j map i last at)) s
      ∙ (ap (onto (take i xs)) one ∙ (onto_ahead (take i xs) none R ∙ ap (λ ys. onto ys R) (ap (λ y. take i xs ++ y ∷ []) (sym e) ∙ sym (take_more xs i none (omega arith)))))

  slots_refused : (map i : ℕ) (last : Option T) (at : ℕ) (xs : List T) (f : FieldFault) → i < 8 → bit map i ≡ true → entry last at ≡ Err f →
      onto (take i xs) (slots none width entry (8 - i) map i last at) ≡ Err f
  slots_refused map i last at xs f l b e =
      let k = 8 - (i + 1) in
      let s : 8 - i ≡ suc k = omega arith in
      let one : slots none width entry (suc k) map i last at ≡ Err f = slots_more k map i last at ∙ rw (b, e) in
      ap (λ j. onto (take i xs) (slots none width entry j map i last at)) s ∙ ap (onto (take i xs)) one

  slots_done : (map i j : ℕ) (last : Option T) (at : ℕ) (xs : List T) → 8 ≤ i → length xs ≡ 8 → onto (take i xs) (slots none width entry (8 - i) map j last at) ≡ Ok (xs, at)
  unfolding slots
  slots_done map i j last at xs l n =
      let s : 8 - i ≡ 0 = omega arith in
      let t = take_all i xs (omega arith) in
      ap (λ k. onto (take i xs) (slots none width entry k map j last at)) s ∙ ap (λ ys. Ok (ys, at)) (append-nil (take i xs) ∙ t)

  -- What a loop keeps that fills a table from `start` on: it is at place i, and what is left to read completes the table.
  pub record Filling (map start i : ℕ) (xs : List T) (last : Option T) (at : ℕ) : Type 0 where
    pub eight : length xs ≡ 8
    pub empty : EmptyFrom none i xs
    pub whole : onto (take i xs) (slots none width entry (8 - i) map i last at) ≡ slots none width entry 8 map 0 None start

  filling_starts : (map start : ℕ) → Filling map start 0 (replicate 8 none) None start
  filling_starts map start = record { eight = refl; empty = empty_at_first none 8 0; whole = onto_none (slots none width entry 8 map 0 None start) }

  filling_reads : (map start i : ℕ) (xs : List T) (last : Option T) (at : ℕ) (x : T) → Filling map start i xs last at → i < 8 → bit map i ≡ true → entry last at ≡ Ok x →
      Filling map start (i + 1) (set xs i x) (Some x) (at + width)
  filling_reads map start i xs last at x f l b e = record {
    eight = length-set xs i x ∙ f.eight;
    empty = empty_after none i xs x f.empty;
    whole = sym (slots_read map i last at xs x l f.eight b e) ∙ f.whole;
  }

  filling_skips : (map start i : ℕ) (xs : List T) (last : Option T) (at : ℕ) → Filling map start i xs last at → i < 8 → bit map i ≡ false → Filling map start (i + 1) xs last at
  filling_skips map start i xs last at f l b = record {
    eight = f.eight;
    empty = empty_later none i xs f.empty;
    whole = sym (slots_skipped map i last at xs l f.eight b (f.empty i (omega arith))) ∙ f.whole;
  }

  -- on to place j, where no bit stands between
  filling_to : (d map start i j : ℕ) (xs : List T) (last : Option T) (at : ℕ) → i + d ≡ j → j ≤ 8 → ((q : ℕ) → i ≤ q → q < j → bit map q ≡ false) → Filling map start i xs last at → Filling map start j xs last at
  filling_to zero map start i j xs last at e l h f = let g : i ≡ j = omega arith in subst (λ k. Filling map start k xs last at) g f
  filling_to (suc d) map start i j xs last at e l h f =
      filling_to d map start (i + 1) j xs last at (omega arith) l (λ q a b. h q (omega arith) b) (filling_skips map start i xs last at f (omega arith) (h i (omega arith) (omega arith)))

  -- What a loop over the fields of a map keeps: k fields were read, `left` has the bits of those to come.
  pub record Reading (map start k left : ℕ) (xs : List T) (last : Option T) (at : ℕ) : Type 0 where
    pub place : ℕ
    pub in_table : place ≤ 8
    pub byte : left < 256
    pub counted : ones left + k ≡ ones map
    pub none_before : (j : ℕ) → j < place → bit left j ≡ false
    pub same_after : (j : ℕ) → place ≤ j → j < 8 → bit left j ≡ bit map j
    pub filling : Filling map start place xs last at

  pub reading_starts : (map start : ℕ) → map < 256 → Reading map start 0 map (replicate 8 none) None start
  reading_starts map start b = record {
    place = 0;
    in_table = omega arith;
    byte = b;
    counted = omega arith;
    none_before = λ j h. absurd (omega arith);
    same_after = λ j a h. refl;
    filling = filling_starts map start;
  }

  -- where a field is still to come, its place is the lowest bit left
  pub record Next (map start left : ℕ) (xs : List T) (last : Option T) (at : ℕ) : Type 0 where
    pub low : Lowest left
    pub stands : bit map (count_trailing_zeros 8 left) ≡ true
    pub here : Filling map start (count_trailing_zeros 8 left) xs last at

  pub reading_next : {map start k left : ℕ} {xs : List T} {last : Option T} {at : ℕ} → Reading map start k left xs last at → k < ones map → Next map start left xs last at
  reading_next {map} {start} {k} {left} {xs} {last} {at} r l =
      let c = r.counted in
      let z = some_ones left (omega arith) in
      let w = lowest left r.byte z in
      let t = count_trailing_zeros 8 left in
      let p = r.place in
      let ahead_of : p ≤ t = elim (cases_lt t p) [ inl h ↦ absurd (both_ways (bit left t) (r.none_before t h) w.stands) | inr h ↦ h ] in
      let lt = w.in_byte in
      record {
        low = w;
        stands = sym (r.same_after t ahead_of lt) ∙ w.stands;
        here = filling_to (t - p) map start p t xs last at (omega arith) (omega arith) (λ q a b. sym (r.same_after q a (omega arith)) ∙ none_below left w q b) r.filling;
      }

  pub reading_reads : {map start k left : ℕ} {xs : List T} {last : Option T} {at : ℕ} {x : T} → Reading map start k left xs last at → k < ones map → entry last at ≡ Ok x →
      Reading map start (k + 1) (bit_and left (left - 1)) (set xs (count_trailing_zeros 8 left) x) (Some x) (at + width)
  reading_reads {map} {start} {k} {left} {xs} {last} {at} {x} r l e =
      let n = reading_next r l in
      let t = count_trailing_zeros 8 left in
      let w = n.low in
      let c = r.counted in
      let d = w.fewer in
      let lt = w.in_byte in
      let p = r.place in
      let ahead_of : p ≤ t = elim (cases_lt t p) [ inl h ↦ absurd (both_ways (bit left t) (r.none_before t h) w.stands) | inr h ↦ h ] in
      record {
        place = t + 1;
        in_table = omega arith;
        byte = w.byte;
        counted = omega arith;
        none_before = λ j h. cleared_to left w j (omega arith);
        same_after = λ j a h. same_above left w j (omega arith) h ∙ r.same_after j (omega arith) h;
        filling = filling_reads map start t xs last at x n.here lt n.stands e;
      }

  pub reading_refused : {map start k left : ℕ} {xs : List T} {last : Option T} {at : ℕ} {e : FieldFault} → Reading map start k left xs last at → k < ones map → entry last at ≡ Err e →
      slots none width entry 8 map 0 None start ≡ Err e
  reading_refused {map} {start} {k} {left} {xs} {last} {at} {e} r l h =
      let n = reading_next r l in
      let t = count_trailing_zeros 8 left in
      sym n.here.whole ∙ slots_refused map t last at xs e n.low.in_byte n.stands h

  pub reading_done : {map start k left : ℕ} {xs : List T} {last : Option T} {at : ℕ} → Reading map start k left xs last at → ones map ≤ k → slots none width entry 8 map 0 None start ≡ Ok (xs, at)
  reading_done {map} {start} {k} {left} {xs} {last} {at} r l =
      let c = r.counted in
      let z = no_ones left r.byte (omega arith) in
      let p = r.place in
      let i = r.in_table in
      let f = filling_to (8 - p) map start p 8 xs last at (omega arith) (omega arith) (λ q a b. sym (r.same_after q a b) ∙ ap (λ n. bit n q) z ∙ no_bit q) r.filling in
      sym f.whole ∙ slots_done map 8 8 last at xs (omega arith) f.eight
