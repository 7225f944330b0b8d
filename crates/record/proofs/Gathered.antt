-- A loop that reads blocks of one kind into places that its caller lent. Assumes nothing.
use Rattle.std.proofs.Common.{◌≡◌, ℕ, suc, ◌+◌, ◌-◌, ◌<◌, ◌≤◌, List, [], ◌∷◌, length, get_or, take, set, None, Ok, Err, sym, refl, ap, ◌∙◌, arith}
use Rattle.std.proofs.lemmas.List.{take_more_set, take_all, append-nil, length-set}
use Rattle.netlist.specs.declared.parts.Choice.{Choice}
use Rattle.netlist.specs.Netlist.{no_choice}
use Rattle.faults.specs.declared.FieldFault.{FieldFault}
use Rattle.faults.specs.declared.BlockFault.{BlockFault}
use Rattle.faults.specs.declared.BlockFault.TheVariants.{Field}
use Rattle.faults.specs.declared.RecordFault.TheVariants.{Block}
use Rattle.record.specs.Steps.{Read, then_read, inside, ahead}
use Rattle.record.specs.Blocks.{slots, choice_entry, menu_map, menu_block}
use Rattle.record.specs.Record.{blocks}
use Rattle.record.proofs.Readings.{same_read}
use Rattle.record.proofs.Filled.{onto, onto_ahead}

-- one block alone
abbrev pub alone : {T E : Type 0} → Read T E → Read (List T) E
alone (Ok x) = Ok (x.0 ∷ [], x.1)
alone (Err e) = Err e

alone_read : {T E : Type 0} (r : Read T E) → then_read r (λ x. ahead x.0 (Ok ([], x.1))) ≡ alone r
alone_read (Ok x) = refl
alone_read (Err e) = refl

pub alone_ok : {T E : Type 0} (r : Read T E) (xs : List T) (d : T) (to : ℕ) → Ok (xs, to) ≡ alone r → r ≡ Ok (get_or xs 0 d, to)
alone_ok (Ok x) xs d to h =
    let p = same_read xs (x.0 ∷ []) to x.1 h in
    rw (ap (λ ys. get_or ys 0 d) p.0, p.1) refl
alone_ok (Err e) xs d to h = cc

pub alone_err : {T E : Type 0} (r : Read T E) (f : E) → Err f ≡ alone r → r ≡ Err f
alone_err (Ok x) f h = cc
alone_err (Err e) f h = let g : f ≡ e = cc in ap Err (sym g)

module _ {T : Type 0} (one : ℕ → Read T BlockFault) where
  pub blocks_more : (k b at : ℕ) → blocks one (suc k) b at ≡ then_read (inside (Block b) (one at)) (λ x. ahead x.0 (blocks one k (b + 1) x.1))
  unfolding blocks
  blocks_more k b at = refl

  pub blocks_none : (b at : ℕ) → blocks one 0 b at ≡ Ok ([], at)
  unfolding blocks
  blocks_none b at = refl

  pub one_block : (b at : ℕ) → blocks one 1 b at ≡ alone (inside (Block b) (one at))
  unfolding blocks
  one_block b at = alone_read (inside (Block b) (one at))

  -- What the loop keeps: m blocks are in their places, and what is left to read completes them.
  pub record Gathering (count first start m : ℕ) (xs : List T) (at : ℕ) : Type 0 where
    pub long : length xs ≡ count
    pub whole : onto (take m xs) (blocks one (count - m) (first + m) at) ≡ blocks one count first start

  at_next : {count first start m : ℕ} {xs : List T} {at : ℕ} → Gathering count first start m xs at → m < count →
      onto (take m xs) (then_read (inside (Block (first + m)) (one at)) (λ x. ahead x.0 (blocks one (count - (m + 1)) (first + m + 1) x.1))) ≡ blocks one count first start
  at_next {count} {first} {start} {m} {xs} {at} g l =
      let s : suc (count - (m + 1)) ≡ count - m = omega arith in
      ap (onto (take m xs)) (sym (blocks_more (count - (m + 1)) (first + m) at)) ∙ (ap (λ k. onto (take m xs) (blocks one k (first + m) at)) s ∙ g.whole)

  pub gathering_reads : {count first start m : ℕ} {xs : List T} {at : ℕ} {x : T} {to : ℕ} → Gathering count first start m xs at → m < count → one at ≡ Ok (x, to) →
      Gathering count first start (m + 1) (set xs m x) to
  gathering_reads {count} {first} {start} {m} {xs} {at} {x} {to} g l e =
      let R = blocks one (count - (m + 1)) (first + m + 1) to in
      let z : first + (m + 1) ≡ first + m + 1 = omega arith in
      let n = g.long in
      let here = rw e at (at_next g l) in
      record {
        long = length-set xs m x ∙ g.long;
        whole =
            ap (λ b. onto (take (m + 1) (set xs m x)) (blocks one (count - (m + 1)) b to)) z
            ∙ (ap (λ ys. onto ys R) (take_more_set xs m x (omega arith)) ∙ (sym (onto_ahead (take m xs) x R) ∙ here));
      }

  pub gathering_refused : {count first start m : ℕ} {xs : List T} {at : ℕ} {f : BlockFault} → Gathering count first start m xs at → m < count → one at ≡ Err f → blocks one count first start ≡ Err (Block (first + m) f)
  gathering_refused g l e = sym (rw e at (at_next g l))

  pub gathering_done : {count first start m : ℕ} {xs : List T} {at : ℕ} → Gathering count first start m xs at → count ≤ m → blocks one count first start ≡ Ok (xs, at)
  gathering_done {count} {first} {start} {m} {xs} {at} g l =
      let s : count - m ≡ 0 = omega arith in
      let n = g.long in
      sym g.whole ∙ (ap (λ k. onto (take m xs) (blocks one k (first + m) at)) s ∙ (ap (onto (take m xs)) (blocks_none (first + m) at) ∙ ap (λ ys. Ok (ys, at)) (append-nil (take m xs) ∙ take_all m xs (omega arith))))

-- A menu, from its map and its table
pub menu_whole : (supplies : ℕ) (bs : List ℕ) (at map : ℕ) (cs : List Choice) (to : ℕ) → menu_map supplies bs at ≡ Ok map → slots no_choice 6 (choice_entry bs) 8 map 0 None (at + 1) ≡ Ok (cs, to) → menu_block supplies bs at ≡ Ok (record { map = map; values = cs }, to)
menu_whole supplies bs at map cs to e f = rw (e, f)

pub menu_unmapped : (supplies : ℕ) (bs : List ℕ) (at : ℕ) (f : BlockFault) → menu_map supplies bs at ≡ Err f → menu_block supplies bs at ≡ Err f
menu_unmapped supplies bs at f e = rw e

pub menu_refused : (supplies : ℕ) (bs : List ℕ) (at map : ℕ) (f : FieldFault) → menu_map supplies bs at ≡ Ok map → slots no_choice 6 (choice_entry bs) 8 map 0 None (at + 1) ≡ Err f → menu_block supplies bs at ≡ Err (Field f)
menu_refused supplies bs at map f e g = rw (e, g)
