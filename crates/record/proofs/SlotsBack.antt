-- Tables of eight places: what was written is read back, and what was read was written so. Assumes nothing.
use Rattle.std.proofs.Common.{◌≡◌, ℕ, zero, suc, ◌+◌, ◌≤◌, Bool, true, false, cond, List, [], ◌∷◌, ◌++◌, length, drop, Some, Ok, Option, Result, sym, refl, ap, ◌∙◌, subst, append_assoc}
use Rattle.std.specs.List.{list_all}
use Rattle.std.proofs.lemmas.Bool.{and_parts, and_from}
use Rattle.netlist.specs.Slots.{bit, standing, absent}
use Rattle.netlist.specs.Netlist.{in_order}
use Rattle.faults.specs.declared.FieldFault.{FieldFault}
use Rattle.record.specs.Steps.{Read, then_read, ahead}
use Rattle.record.specs.Blocks.{slots}
use Rattle.record.specs.Record.{slot_bytes}
use Rattle.record.proofs.Spelled.{past}
use Rattle.record.proofs.Readings.{then_ok, same_read, ahead_ok, Took, took_none, took_both, Gives, gives_ahead}

module _ {T : Type 0} (none : T) (width : ℕ) (fine : T → Bool) (follows : Option T → T → Bool) (blank : T → Bool) (spell : T → List ℕ) (bs : List ℕ) (entry : Option T → ℕ → Result T FieldFault) where
  -- what one entry owes: it is read back
  pub record EntryBack : Type 0 where
    pub wide : (x : T) → length (spell x) ≡ width
    pub nothing : (x : T) → blank x ≡ true → x ≡ none
    pub back : (last : Option T) (x : T) (at : ℕ) (t : List ℕ) → fine x ≡ true → follows last x ≡ true → drop at bs ≡ spell x ++ t → entry last at ≡ Ok x

  -- and what is read was written so
  pub record EntryTook : Type 0 where
    pub nothing_is : blank none ≡ true
    pub took : (last : Option T) (x : T) (at : ℕ) → entry last at ≡ Ok x → (fine x ≡ true) × (follows last x ≡ true) × Took bs at (spell x) (at + width)

  pub record Lawful (map i : ℕ) (last : Option T) (xs : List T) : Type 0 where
    pub limits : list_all fine (standing map i xs) ≡ true
    pub order : in_order follows last (standing map i xs) ≡ true
    pub clean : list_all blank (absent map i xs) ≡ true

  pub slots_back : EntryBack → (xs : List T) (map i : ℕ) (last : Option T) (at : ℕ) (t : List ℕ) → Lawful map i last xs → drop at bs ≡ slot_bytes spell map i xs ++ t → Gives bs t (slots none width entry (length xs) map i last at) xs
  unfolding slots
  slots_back E [] map i last at t l h = (at, refl, h)
  slots_back E (x ∷ xs) map i last at t l h = go (bit map i) l.limits l.order l.clean h (slots_back E xs map (i + 1))
    where
      S : List T
      S = standing map (i + 1) xs

      A : List T
      A = absent map (i + 1) xs

      go : (b : Bool) → list_all fine (cond b (x ∷ S) S) ≡ true → in_order follows last (cond b (x ∷ S) S) ≡ true → list_all blank (cond b A (x ∷ A)) ≡ true →
          drop at bs ≡ (cond b (spell x) [] ++ slot_bytes spell map (i + 1) xs) ++ t →
          ((last : Option T) (at : ℕ) (t : List ℕ) → Lawful map (i + 1) last xs → drop at bs ≡ slot_bytes spell map (i + 1) xs ++ t → Gives bs t (slots none width entry (length xs) map (i + 1) last at) xs) →
          Gives bs t (cond b (then_read (entry last at) (λ y. ahead y (slots none width entry (length xs) map (i + 1) (Some y) (at + width)))) (ahead none (slots none width entry (length xs) map (i + 1) last at))) (x ∷ xs)
      go true hf ho hc hb ih =
          let f = and_parts (fine x) (list_all fine S) hf in
          let o = and_parts (follows last x) (in_order follows (Some x) S) ho in
          let hb2 = hb ∙ append_assoc (spell x) (slot_bytes spell map (i + 1) xs) t in
          let e = E.back last x at (slot_bytes spell map (i + 1) xs ++ t) f.0 o.0 hb2 in
          let p = past bs (spell x) (slot_bytes spell map (i + 1) xs ++ t) at hb2 in
          let q = subst (λ k. drop (at + k) bs ≡ slot_bytes spell map (i + 1) xs ++ t) (E.wide x) p in
          let g = ih (Some x) (at + width) t (record { limits = f.1; order = o.1; clean = hc }) q in
          let a = gives_ahead bs t x (slots none width entry (length xs) map (i + 1) (Some x) (at + width)) xs g in
          (a.0, rw e a.1, a.2)
      go false hf ho hc hb ih =
          let c = and_parts (blank x) (list_all blank A) hc in
          let n = E.nothing x c.0 in
          let g = ih last at t (record { limits = hf; order = ho; clean = c.1 }) hb in
          let a = gives_ahead bs t none (slots none width entry (length xs) map (i + 1) last at) xs g in
          (a.0, (a.1 ∙ ap (λ k. Ok (k ∷ xs, a.0)) (sym n)), a.2)

  pub record SlotsTook (map i : ℕ) (last : Option T) (at k : ℕ) (xs : List T) (to : ℕ) : Type 0 where
    pub long : length xs ≡ k
    pub lawful : Lawful map i last xs
    pub took : Took bs at (slot_bytes spell map i xs) to

  pub slots_took : EntryTook → (k map i : ℕ) (last : Option T) (at : ℕ) (xs : List T) (to : ℕ) → at ≤ length bs → slots none width entry k map i last at ≡ Ok (xs, to) → SlotsTook map i last at k xs to
  unfolding slots
  slots_took E zero map i last at xs to l h =
      let p = same_read [] xs at to h in
      subst (λ ys. SlotsTook map i last at zero ys to) p.0 (subst (λ z. SlotsTook map i last at zero [] z) p.1
      (record { long = refl; lawful = record { limits = refl; order = refl; clean = refl }; took = took_none bs at l }))
  slots_took E (suc k) map i last at xs to l h = go (bit map i) refl h (slots_took E k map (i + 1))
    where
      R : Option T → ℕ → Read (List T) FieldFault
      R a p = slots none width entry k map (i + 1) a p

      go : (b : Bool) → bit map i ≡ b → cond b (then_read (entry last at) (λ y. ahead y (R (Some y) (at + width)))) (ahead none (R last at)) ≡ Ok (xs, to) →
          ((last : Option T) (at : ℕ) (xs : List T) (to : ℕ) → at ≤ length bs → R last at ≡ Ok (xs, to) → SlotsTook map (i + 1) last at k xs to) →
          SlotsTook map i last at (suc k) xs to
      go true eb hb hyp =
          let p = then_ok (entry last at) (λ y. ahead y (R (Some y) (at + width))) (xs, to) hb in
          let x = p.0 in
          let q = ahead_ok x (R (Some x) (at + width)) xs to p.2 in
          let ys = q.0 in
          let e = E.took last x at p.1 in
          let ih = hyp (Some x) (at + width) ys to e.2.inside_it q.1 in
          subst (λ zs. SlotsTook map i last at (suc k) zs to) (sym q.2) (record {
            long = ap suc ih.long;
            lawful = record {
              limits = rw eb (and_from (fine x) (list_all fine (standing map (i + 1) ys)) e.0 ih.lawful.limits);
              order = rw eb (and_from (follows last x) (in_order follows (Some x) (standing map (i + 1) ys)) e.1 ih.lawful.order);
              clean = rw eb ih.lawful.clean;
            };
            took = subst (λ b. Took bs at (cond b (spell x) [] ++ slot_bytes spell map (i + 1) ys) to) (sym eb) (took_both bs (spell x) (slot_bytes spell map (i + 1) ys) at (at + width) to e.2 ih.took);
          })
      go false eb hb hyp =
          let q = ahead_ok none (R last at) xs to hb in
          let ys = q.0 in
          let ih = hyp last at ys to l q.1 in
          subst (λ zs. SlotsTook map i last at (suc k) zs to) (sym q.2) (record {
            long = ap suc ih.long;
            lawful = record {
              limits = rw eb ih.lawful.limits;
              order = rw eb ih.lawful.order;
              clean = rw eb (and_from (blank none) (list_all blank (absent map (i + 1) ys)) E.nothing_is ih.lawful.clean);
            };
            took = subst (λ b. Took bs at (cond b (spell none) [] ++ slot_bytes spell map (i + 1) ys) to) (sym eb) ih.took;
          })
