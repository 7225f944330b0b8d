-- What the calls of a reader hand out. Assumes nothing.
use Rattle.std.proofs.Common.{◌≡◌, ℕ, zero, suc, ◌+◌, ◌<◌, ◌≤◌, Bool, true, false, cond, ltb, ◌⊎◌, List, [], length, get_or, is_ok, Ok, Err, Result, sym, refl, ap, ◌∙◌, subst, inl, inr, arith}
use Rattle.std.proofs.lemmas.Bool.{lt-ltb, le-ltb}
use Rattle.netlist.specs.declared.parts.Net.{Net}
use Rattle.netlist.specs.Netlist.{Netlist, netlist, modules}
use Rattle.netlist.specs.Rules.{no_menu, no_net}
use Rattle.faults.specs.declared.BlockFault.{BlockFault}
use Rattle.faults.specs.declared.RecordFault.{RecordFault}
use Rattle.faults.specs.declared.RecordFault.TheVariants as fault
use Rattle.record.specs.declared.head.Head.{Head}
use Rattle.record.specs.declared.reader.Block.{Block}
use Rattle.record.specs.declared.reader.Kind.{Kind}
use Rattle.record.specs.declared.reader.Kind.TheVariants as kind
use Rattle.record.specs.declared.reader.State.TheVariants as state
use Rattle.record.specs.declared.reader.Stand.{Stand}
use Rattle.record.specs.Steps.{Read, then_read, inside, ahead}
use Rattle.record.specs.Blocks.{head_block, supplies_block, menu_block, net_block}
use Rattle.record.specs.Record.{blocks, ended, reads_as}
use Rattle.record.specs.Reader.{Step, step, at_start, stand_at, handed, failed, handing, from_net, from_module, with_head, with_supplies, with_menu, with_net}
use Rattle.faults.specs.Faults.{block_of}
use Rattle.record.specs.HandsOut.{call, head_of, AllHanded, FaultTold, HandsOut}
use Rattle.record.proofs.Readings.{then_ok, ahead_ok, same_read}
use Rattle.record.proofs.Gathered.{blocks_more, blocks_none}
use Rattle.record.proofs.Whole.{PartsRead, parts_of}
use Rattle.netlist.specs.Slots.{Supplies, Menu}

call_first : (bytes : List ℕ) (s : Stand) (p : Block) → call 0 bytes s p ≡ step bytes s p
unfolding call
call_first bytes s p = refl

call_later : (k : ℕ) (bytes : List ℕ) (s : Stand) (p : Block) → call (suc k) bytes s p ≡ call k bytes (step bytes s p).stand (step bytes s p).block
unfolding call
call_later k bytes s p = refl

-- Taking a refused reading apart
then_err : {S T E : Type 0} (r : Result S E) (next : S → Result T E) (e : E) → then_read r next ≡ Err e → (r ≡ Err e) ⊎ ((y : S) × (r ≡ Ok y) × (next y ≡ Err e))
then_err (Ok y) next e h = inr (y, refl, h)
then_err (Err d) next e h = let q : d ≡ e = cc in inl (ap Err q)

ahead_err : {T E : Type 0} (x : T) (r : Read (List T) E) (e : E) → ahead x r ≡ Err e → r ≡ Err e
ahead_err x (Ok g) e h = cc
ahead_err x (Err d) e h = let q : d ≡ e = cc in ap Err q

-- a block's fault names the block
named : {T : Type 0} (b : ℕ) (r : Result T BlockFault) (f : RecordFault) → inside (fault.Block b) r ≡ Err f → block_of f ≡ b
named b (Ok y) f h = cc
named b (Err d) f h = let q : fault.Block b d ≡ f = cc in sym (ap block_of q)

-- what is read of blocks of one kind
blocks_long : {T : Type 0} (one : ℕ → Read T BlockFault) (k b at : ℕ) (xs : List T) (to : ℕ) → blocks one k b at ≡ Ok (xs, to) → length xs ≡ k
blocks_long one zero b at xs to e = sym (ap length (same_read [] xs at to (sym (blocks_none one b at) ∙ e)).0)
blocks_long one (suc k) b at xs to e =
    let p = then_ok (inside (fault.Block b) (one at)) _ (xs, to) (sym (blocks_more one k b at) ∙ e) in
    let q = ahead_ok p.0.0 (blocks one k (b + 1) p.0.1) xs to p.2 in
    ap length q.2 ∙ ap suc (blocks_long one k (b + 1) p.0.1 q.0 to q.1)

blocks_named : {T : Type 0} (one : ℕ → Read T BlockFault) (k b at : ℕ) (f : RecordFault) → blocks one k b at ≡ Err f → b ≤ block_of f
blocks_named one zero b at f e = let h = sym (blocks_none one b at) ∙ e in cc
blocks_named one (suc k) b at f e =
    elim (then_err (inside (fault.Block b) (one at)) _ f (sym (blocks_more one k b at) ∙ e)) [
      | inl h ↦ (let q = named b (one at) f h in omega arith)
      | inr p ↦ (let q = blocks_named one k (b + 1) p.0.1 f (ahead_err p.0.0 (blocks one k (b + 1) p.0.1) f p.2) in omega arith)
    ]

module _ (bytes : List ℕ) (P : ℕ → Step → Type 0) where
  -- The calls from a stand, the first of which is call b
  abbrev From : ℕ → Stand → Block → Type 0
  From b s p = (j : ℕ) → P (b + j) (call j bytes s p)

  from_step : (b : ℕ) (s : Stand) (p : Block) (x : Step) → step bytes s p ≡ x → P b x → From (b + 1) x.stand x.block → From b s p
  from_step b s p x e h l zero =
      let z : b ≡ b + 0 = omega arith in
      subst (λ k. P k (call 0 bytes s p)) z (subst (P b) (sym (call_first bytes s p ∙ e)) h)
  from_step b s p x e h l (suc j) =
      let z : b + 1 + j ≡ b + suc j = omega arith in
      subst (λ k. P k (call (suc j) bytes s p)) z (subst (P (b + 1 + j)) (sym (call_later j bytes s p ∙ ap (λ (y : Step). call j bytes y.stand y.block) e)) (l j))

  -- a step that is made again and again
  from_again : (x : Step) → step bytes x.stand x.block ≡ x → (b : ℕ) → ((k : ℕ) → b ≤ k → P k x) → From b x.stand x.block
  from_again x e b h j = subst (P (b + j)) (sym (again j)) (h (b + j) (omega arith))
    where
      again : (k : ℕ) → call k bytes x.stand x.block ≡ x
      again zero = call_first bytes x.stand x.block ∙ e
      again (suc k) = call_later k bytes x.stand x.block ∙ (ap (λ (y : Step). call k bytes y.stand y.block) e ∙ again k)

  from_failed : (b : ℕ) (s : Stand) (p : Block) (f : RecordFault) → step bytes s p ≡ failed s p f → ((k : ℕ) → b ≤ k → P k (failed s p f)) → From b s p
  from_failed b s p f e h = from_step b s p (failed s p f) e (h b (omega arith)) (from_again (failed s p f) refl (b + 1) (λ k l. h k (omega arith)))

-- A section of blocks of one kind: where the reader stands before block i of it, and what it does there
record Section (bytes : List ℕ) {T : Type 0} (one : ℕ → Read T BlockFault) (o : Kind) (put : Block → T → Block) (count b : ℕ) (S : ℕ → ℕ → Stand) : Type 0 where
  steps : (i at : ℕ) (p : Block) → i < count → step bytes (S i at) p ≡ handing (inside (fault.Block (b + i)) (one at)) (S i at) p (λ x. handed o (S (i + 1) x.1) (put p x.0))

module _ (bytes : List ℕ) {T : Type 0} (one : ℕ → Read T BlockFault) (o : Kind) (put : Block → T → Block) (count b : ℕ) (S : ℕ → ℕ → Stand) (sec : Section bytes one o put count b S) where
  section_reads : (i at : ℕ) (p : Block) (x : T × ℕ) → i < count → inside (fault.Block (b + i)) (one at) ≡ Ok x → step bytes (S i at) p ≡ handed o (S (i + 1) x.1) (put p x.0)
  section_reads i at p x l e = sec.steps i at p l ∙ ap (λ (r : Read T RecordFault). handing r (S i at) p (λ y. handed o (S (i + 1) y.1) (put p y.0))) e

  section_fails : (i at : ℕ) (p : Block) (f : RecordFault) → i < count → inside (fault.Block (b + i)) (one at) ≡ Err f → step bytes (S i at) p ≡ failed (S i at) p f
  section_fails i at p f l e = sec.steps i at p l ∙ ap (λ (r : Read T RecordFault). handing r (S i at) p (λ y. handed o (S (i + 1) y.1) (put p y.0))) e

  module _ (P : ℕ → Step → Type 0) (d : T) where
    section_taken : (k i at : ℕ) (p : Block) (xs : List T) (to : ℕ) → i + k ≡ count → blocks one k (b + i) at ≡ Ok (xs, to) →
        ((j : ℕ) (t : Stand) (q : Block) → j < k → P (b + i + j) (handed o t (put q (get_or xs j d)))) →
        ((q : Block) → From bytes P (b + count) (S count to) q) → From bytes P (b + i) (S i at) p
    section_taken zero i at p xs to n e h last =
        let m : count ≡ i = omega arith in
        let g = same_read [] xs at to (sym (blocks_none one (b + i) at) ∙ e) in
        let l1 = subst (λ c. From bytes P (b + c) (S c to) p) m (last p) in
        subst (λ c. From bytes P (b + i) (S i c) p) (sym g.1) l1
    section_taken (suc k) i at p xs to n e h last =
        let r = then_ok (inside (fault.Block (b + i)) (one at)) _ (xs, to) (sym (blocks_more one k (b + i) at) ∙ e) in
        let y = r.0.0 in
        let a = r.0.1 in
        let q = ahead_ok y (blocks one k (b + i + 1) a) xs to r.2 in
        let ys = q.0 in
        let z : b + i + 1 ≡ b + (i + 1) = omega arith in
        let w : b + i + 0 ≡ b + i = omega arith in
        let m : i + 1 + k ≡ count = omega arith in
        let l0 : 0 < suc k = omega arith in
        let h0 = subst (λ (v : List T). P (b + i + 0) (handed o (S (i + 1) a) (put p (get_or v 0 d)))) q.2 (h 0 (S (i + 1) a) p l0) in
        from_step bytes P (b + i) (S i at) p (handed o (S (i + 1) a) (put p y)) (section_reads i at p (y, a) (omega arith) r.1)
        (subst (λ c. P c (handed o (S (i + 1) a) (put p y))) w h0)
        (subst (λ c. From bytes P c (S (i + 1) a) (put p y)) (sym z)
        (section_taken k (i + 1) a (put p y) ys to m (ap (λ c. blocks one k c a) (sym z) ∙ q.1) (λ j t g l.
        let v : b + i + suc j ≡ b + (i + 1) + j = omega arith in
        let l1 : suc j < suc k = omega arith in
        subst (λ c. P c (handed o t (put g (get_or ys j d)))) v (subst (λ (u : List T). P (b + i + suc j) (handed o t (put g (get_or u (suc j) d)))) q.2 (h (suc j) t g l1))) last))

    all_taken : (at : ℕ) (p : Block) (xs : List T) (to : ℕ) → blocks one count b at ≡ Ok (xs, to) →
        ((j : ℕ) (t : Stand) (q : Block) → j < count → P (b + j) (handed o t (put q (get_or xs j d)))) →
        ((q : Block) → From bytes P (b + count) (S count to) q) → From bytes P b (S 0 at) p
    all_taken at p xs to e h last =
        let z : b + 0 ≡ b = omega arith in
        subst (λ c. From bytes P c (S 0 at) p) z (section_taken count 0 at p xs to (omega arith) (ap (λ c. blocks one count c at) z ∙ e) (λ j t q l. subst (λ c. P (c + j) (handed o t (put q (get_or xs j d)))) (sym z) (h j t q l)) last)

-- A refused record: what a call says of its fault
record Told (f : RecordFault) (k : ℕ) (x : Step) : Type 0 where
  before : k < block_of f → is_ok x.answer ≡ true
  after : block_of f ≤ k → x.answer ≡ Err f

told_failed : (f : RecordFault) (k : ℕ) (s : Stand) (p : Block) → block_of f ≤ k → Told f k (failed s p f)
told_failed f k s p l = record { before = λ h. absurd (omega arith); after = λ h. refl }

told_handed : (f : RecordFault) (k : ℕ) (o : Kind) (s : Stand) (p : Block) → k < block_of f → Told f k (handed o s p)
told_handed f k o s p l = record { before = λ h. refl; after = λ h. absurd (omega arith) }

from_fault : (bytes : List ℕ) (f : RecordFault) (s : Stand) (p : Block) (b : ℕ) → block_of f ≡ b → step bytes s p ≡ failed s p f → From bytes (Told f) b s p
from_fault bytes f s p b n e = from_failed bytes (Told f) b s p f e (λ k l. told_failed f k s p (omega arith))

module _ (bytes : List ℕ) {T : Type 0} (one : ℕ → Read T BlockFault) (o : Kind) (put : Block → T → Block) (count b : ℕ) (S : ℕ → ℕ → Stand) (sec : Section bytes one o put count b S) (f : RecordFault) where
  section_refused : (k i at : ℕ) (p : Block) → i + k ≡ count → blocks one k (b + i) at ≡ Err f → From bytes (Told f) (b + i) (S i at) p
  section_refused zero i at p n e = let h = sym (blocks_none one (b + i) at) ∙ e in cc
  section_refused (suc k) i at p n e =
      elim (then_err (inside (fault.Block (b + i)) (one at)) _ f (sym (blocks_more one k (b + i) at) ∙ e)) [
        | inl h ↦ from_fault bytes f (S i at) p (b + i) (named (b + i) (one at) f h) (section_fails bytes one o put count b S sec i at p f (omega arith) h)
        | inr r ↦ (let y = r.0.0 in
            let a = r.0.1 in
            let z : b + i + 1 ≡ b + (i + 1) = omega arith in
            let m : i + 1 + k ≡ count = omega arith in
            let g = ahead_err y (blocks one k (b + i + 1) a) f r.2 in
            let w = blocks_named one k (b + i + 1) a f g in
            from_step bytes (Told f) (b + i) (S i at) p (handed o (S (i + 1) a) (put p y)) (section_reads bytes one o put count b S sec i at p (y, a) (omega arith) r.1)
            (told_handed f (b + i) o (S (i + 1) a) (put p y) (omega arith))
            (subst (λ c. From bytes (Told f) c (S (i + 1) a) (put p y)) (sym z) (section_refused k (i + 1) a (put p y) m (ap (λ c. blocks one k c a) (sym z) ∙ g))))
      ]

  all_refused : (at : ℕ) (p : Block) → blocks one count b at ≡ Err f → From bytes (Told f) b (S 0 at) p
  all_refused at p e =
      let z : b + 0 ≡ b = omega arith in
      subst (λ c. From bytes (Told f) c (S 0 at) p) z (section_refused count 0 at p (omega arith) (ap (λ c. blocks one count c at) z ∙ e))

-- The two sections of a record
abbrev module_stand : Head → ℕ → ℕ → ℕ → Stand
module_stand h supplies i at = stand_at (from_module h i) at h supplies

abbrev net_stand : Head → ℕ → ℕ → ℕ → Stand
net_stand h supplies i at = stand_at (from_net h i) at h supplies

module_steps : (bytes : List ℕ) (h : Head) (supplies i at : ℕ) (p : Block) → i < h.modules →
    step bytes (module_stand h supplies i at) p ≡ handing (inside (fault.Block (2 + i)) (menu_block supplies bytes at)) (module_stand h supplies i at) p (λ x. handed kind.Module (module_stand h supplies (i + 1) x.1) (with_menu p x.0))
module_steps bytes h supplies i at p l = rw (lt-ltb i h.modules l)

net_steps : (bytes : List ℕ) (h : Head) (supplies i at : ℕ) (p : Block) → i < h.nets →
    step bytes (net_stand h supplies i at) p ≡ handing (inside (fault.Block (2 + h.modules + i)) (net_block h.modules bytes at)) (net_stand h supplies i at) p (λ x. handed kind.Net (net_stand h supplies (i + 1) x.1) (with_net p x.0))
net_steps bytes h supplies i at p l = rw (lt-ltb i h.nets l)

module_section : (bytes : List ℕ) (h : Head) (supplies : ℕ) → Section bytes (menu_block supplies bytes) kind.Module with_menu h.modules 2 (module_stand h supplies)
module_section bytes h supplies = record { steps = module_steps bytes h supplies }

net_section : (bytes : List ℕ) (h : Head) (supplies : ℕ) → Section bytes (net_block h.modules bytes) kind.Net with_net h.nets (2 + h.modules) (net_stand h supplies)
net_section bytes h supplies = record { steps = net_steps bytes h supplies }

modules_over : (h : Head) (supplies at : ℕ) → module_stand h supplies h.modules at ≡ net_stand h supplies 0 at
modules_over h supplies at = let l : h.modules ≤ h.modules = omega arith in rw (le-ltb h.modules h.modules l)

nets_over : (h : Head) (supplies at : ℕ) → net_stand h supplies h.nets at ≡ stand_at state.End at h supplies
nets_over h supplies at = let l : h.nets ≤ h.nets = omega arith in rw (le-ltb h.nets h.nets l)

-- The first two calls and the last one
head_read : (bytes : List ℕ) (p : Block) (h : Head) (a : ℕ) → inside (fault.Block 0) (head_block bytes 0) ≡ Ok (h, a) → step bytes at_start p ≡ handed kind.Head (stand_at state.Supplies a h 0) (with_head p h)
head_read bytes p h a e =
    ap (λ (r : Read Head RecordFault). handing r at_start p (λ x. handed kind.Head (stand_at state.Supplies x.1 x.0 0) (with_head p x.0))) e

supplies_read : (bytes : List ℕ) (p : Block) (h : Head) (a : ℕ) (s : Supplies) (b : ℕ) → inside (fault.Block 1) (supplies_block bytes a) ≡ Ok (s, b) → step bytes (stand_at state.Supplies a h 0) p ≡ handed kind.Supplies (module_stand h s.map 0 b) (with_supplies p s)
supplies_read bytes p h a s b e =
    ap (λ (r : Read Supplies RecordFault). handing r (stand_at state.Supplies a h 0) p (λ x. handed kind.Supplies (module_stand h x.0.map 0 x.1) (with_supplies p x.0))) e

end_reached : (bytes : List ℕ) (p : Block) (h : Head) (supplies at : ℕ) → ltb at (length bytes) ≡ false → step bytes (stand_at state.End at h supplies) p ≡ handed kind.End (stand_at state.End at h supplies) p
end_reached bytes p h supplies at e = rw e

bytes_follow : (bytes : List ℕ) (p : Block) (h : Head) (supplies at : ℕ) → ltb at (length bytes) ≡ true → step bytes (stand_at state.End at h supplies) p ≡ failed (stand_at state.End at h supplies) p (fault.BytesFollow (2 + h.modules + h.nets) at)
bytes_follow bytes p h supplies at e = rw e

-- An accepted record: what call k hands out
record Right (n : Netlist) (k : ℕ) (x : Step) : Type 0 where
  first : k ≡ 0 → (x.answer ≡ Ok kind.Head) × (x.block.head ≡ head_of n)
  second : k ≡ 1 → (x.answer ≡ Ok kind.Supplies) × (x.block.supplies ≡ n.supplies)
  of_module : (m : ℕ) → m < modules n → k ≡ 2 + m → (x.answer ≡ Ok kind.Module) × (x.block.menu ≡ get_or n.menus m no_menu)
  of_net : (i : ℕ) → i < length n.nets → k ≡ 2 + modules n + i → (x.answer ≡ Ok kind.Net) × (x.block.net ≡ get_or n.nets i no_net)
  of_end : 2 + modules n + length n.nets ≤ k → x.answer ≡ Ok kind.End

right_head : (n : Netlist) (s : Stand) (p : Block) → p.head ≡ head_of n → Right n 0 (handed kind.Head s p)
right_head n s p e =
    record { first = λ z. (refl, e); second = λ z. absurd (omega arith); of_module = λ m l z. absurd (omega arith); of_net = λ i l z. absurd (omega arith); of_end = λ z. absurd (omega arith) }

right_supplies : (n : Netlist) (s : Stand) (p : Block) → p.supplies ≡ n.supplies → Right n 1 (handed kind.Supplies s p)
right_supplies n s p e =
    record { first = λ z. absurd (omega arith); second = λ z. (refl, e); of_module = λ m l z. absurd (omega arith); of_net = λ i l z. absurd (omega arith); of_end = λ z. absurd (omega arith) }

right_module : (n : Netlist) (j : ℕ) (s : Stand) (p : Block) → j < modules n → p.menu ≡ get_or n.menus j no_menu → Right n (2 + j) (handed kind.Module s p)
right_module n j s p h e = record {
  first = λ z. absurd (omega arith);
  second = λ z. absurd (omega arith);
  of_module = λ m l z. (let q : j ≡ m = omega arith in (refl, e ∙ ap (λ k. get_or n.menus k no_menu) q));
  of_net = λ i l z. absurd (omega arith);
  of_end = λ z. absurd (omega arith);
}

right_net : (n : Netlist) (j : ℕ) (s : Stand) (p : Block) → j < length n.nets → p.net ≡ get_or n.nets j no_net → Right n (2 + modules n + j) (handed kind.Net s p)
right_net n j s p h e = record {
  first = λ z. absurd (omega arith);
  second = λ z. absurd (omega arith);
  of_module = λ m l z. absurd (omega arith);
  of_net = λ i l z. (let q : j ≡ i = omega arith in (refl, e ∙ ap (λ k. get_or n.nets k no_net) q));
  of_end = λ z. absurd (omega arith);
}

right_end : (n : Netlist) (k : ℕ) (s : Stand) (p : Block) → 2 + modules n + length n.nets ≤ k → Right n k (handed kind.End s p)
right_end n k s p h = record {
  first = λ z. absurd (omega arith);
  second = λ z. absurd (omega arith);
  of_module = λ m l z. absurd (omega arith);
  of_net = λ i l z. absurd (omega arith);
  of_end = λ z. refl;
}

all_right : (n : Netlist) (nth : ℕ → Step) → ((k : ℕ) → Right n k (nth k)) → AllHanded nth n
all_right n nth r = record {
  first = (r 0).first refl;
  second = (r 1).second refl;
  each_module = λ m l. (r (2 + m)).of_module m l refl;
  each_net = λ i l. (r (2 + modules n + i)).of_net i l refl;
  ever_after = λ k l. (r k).of_end l;
}

-- From the last block of an accepted record back to its first
module _ (bytes : List ℕ) (h : Head) (s : Supplies) (ms : List Menu) (ns : List Net) (to : ℕ) (r : PartsRead bytes h s ms ns to) (over : ltb to (length bytes) ≡ false) where
  abbrev n : Netlist
  n = netlist h.terms s ms ns

  menus_long : length ms ≡ h.modules
  menus_long = blocks_long (menu_block s.map bytes) h.modules 2 r.b ms r.c r.menus

  nets_long : length ns ≡ h.nets
  nets_long = blocks_long (net_block h.modules bytes) h.nets (2 + h.modules) r.c ns to r.nets

  same_head : h ≡ head_of n
  same_head = ap (λ k. record { terms = h.terms; modules = k; nets = h.nets }) (sym menus_long) ∙ ap (λ k. record { terms = h.terms; modules = length ms; nets = k }) (sym nets_long)

  at_end : (q : Block) → From bytes (Right n) (2 + h.modules + h.nets) (net_stand h s.map h.nets to) q
  at_end q =
      let m = menus_long in
      let k = nets_long in
      let e = stand_at state.End to h s.map in
      subst (λ t. From bytes (Right n) (2 + h.modules + h.nets) t q) (sym (nets_over h s.map to))
      (from_again bytes (Right n) (handed kind.End e q) (end_reached bytes q h s.map to over) (2 + h.modules + h.nets) (λ j l. right_end n j e q (omega arith)))

  at_nets : (q : Block) → From bytes (Right n) (2 + h.modules) (module_stand h s.map h.modules r.c) q
  at_nets q =
      let m = menus_long in
      let k = nets_long in
      subst (λ t. From bytes (Right n) (2 + h.modules) t q) (sym (modules_over h s.map r.c))
      (all_taken bytes (net_block h.modules bytes) kind.Net with_net h.nets (2 + h.modules) (net_stand h s.map) (net_section bytes h s.map) (Right n) no_net r.c q ns to r.nets
      (λ j t g l. subst (λ c. Right n (2 + c + j) (handed kind.Net t (with_net g (get_or ns j no_net)))) m (right_net n j t (with_net g (get_or ns j no_net)) (omega arith) refl)) at_end)

  at_modules : (q : Block) → From bytes (Right n) 2 (module_stand h s.map 0 r.b) q
  at_modules q =
      let m = menus_long in
      all_taken bytes (menu_block s.map bytes) kind.Module with_menu h.modules 2 (module_stand h s.map) (module_section bytes h s.map) (Right n) no_menu r.b q ms r.c r.menus
      (λ j t g l. right_module n j t (with_menu g (get_or ms j no_menu)) (omega arith) refl) at_nets

  at_supplies : (q : Block) → From bytes (Right n) 1 (stand_at state.Supplies r.a h 0) q
  at_supplies q =
      from_step bytes (Right n) 1 (stand_at state.Supplies r.a h 0) q (handed kind.Supplies (module_stand h s.map 0 r.b) (with_supplies q s))
      (supplies_read bytes q h r.a s r.b (ap (inside (fault.Block 1)) r.supplies))
      (right_supplies n (module_stand h s.map 0 r.b) (with_supplies q s) refl) (at_modules (with_supplies q s))

  at_head : (q : Block) → From bytes (Right n) 0 at_start q
  at_head q =
      from_step bytes (Right n) 0 at_start q (handed kind.Head (stand_at state.Supplies r.a h 0) (with_head q h))
      (head_read bytes q h r.a (ap (inside (fault.Block 0)) r.head))
      (right_head n (stand_at state.Supplies r.a h 0) (with_head q h) same_head) (at_supplies (with_head q h))

  all_handed : (q : Block) → AllHanded (λ k. call k bytes at_start q) n
  all_handed q = all_right n (λ k. call k bytes at_start q) (λ k. let z : 0 + k ≡ k = omega arith in subst (λ c. Right n c (call k bytes at_start q)) z (at_head q k))

-- From the last block of a refused record back to its first: the fault comes at a later call, or at this one
record ToldFrom (bytes : List ℕ) (f : RecordFault) (b : ℕ) (s : Stand) : Type 0 where
  low : b ≤ block_of f
  from : (q : Block) → From bytes (Told f) b s q

followed : {T E : Type 0} (b : Bool) (x : T) (e f : E) → cond b (Err e) (Ok x) ≡ Err f → (b ≡ true) × (e ≡ f)
followed true x e f h = (refl, cc)
followed false x e f h = cc

module _ (bytes : List ℕ) (f : RecordFault) where
  end_told : (h : Head) (supplies at : ℕ) (n : Netlist) → ended bytes (2 + h.modules + h.nets) at n ≡ Err f → ToldFrom bytes f (2 + h.modules + h.nets) (net_stand h supplies h.nets at)
  end_told h supplies at n e =
      let b = 2 + h.modules + h.nets in
      let t = stand_at state.End at h supplies in
      let g = followed (ltb at (length bytes)) n (fault.BytesFollow b at) f e in
      let k : block_of f ≡ b = sym (ap block_of g.1) in
      record {
        low = omega arith;
        from =
            λ q.
            subst (λ u. From bytes (Told f) b u q) (sym (nets_over h supplies at))
            (from_fault bytes f t q b k (bytes_follow bytes q h supplies at g.0 ∙ ap (failed t q) g.1));
      }

  -- a section that is read, and what comes after it
  section_told : {T : Type 0} (one : ℕ → Read T BlockFault) (o : Kind) (put : Block → T → Block) (count b : ℕ) (S : ℕ → ℕ → Stand) → Section bytes one o put count b S → (d : T) {U : Type 0} (next : List T × ℕ → Result U RecordFault) (at : ℕ) →
      ((x : List T × ℕ) → next x ≡ Err f → ToldFrom bytes f (b + count) (S count x.1)) →
      then_read (blocks one count b at) next ≡ Err f → ToldFrom bytes f b (S 0 at)
  section_told one o put count b S sec d next at later e =
      elim (then_err (blocks one count b at) next f e) [
        | inl h ↦ record { low = blocks_named one count b at f h; from = λ q. all_refused bytes one o put count b S sec f at q h }
        | inr r ↦ (let l = later r.0 r.2 in
            let k = l.low in
            record {
              low = omega arith;
              from = λ q. all_taken bytes one o put count b S sec (Told f) d at q r.0.0 r.0.1 r.1 (λ j t g i. told_handed f (b + j) o t (put g (get_or r.0.0 j d)) (omega arith)) l.from;
            })
      ]

  -- one block that is read, and what comes after it
  block_told : {T : Type 0} (one : Read T BlockFault) (b : ℕ) (s : Stand) (x : T × ℕ → Block → Step) {U : Type 0} (next : T × ℕ → Result U RecordFault) →
      ((q : Block) → step bytes s q ≡ handing (inside (fault.Block b) one) s q (λ y. x y q)) →
      ((y : T × ℕ) (q : Block) → is_ok (x y q).answer ≡ true) →
      ((y : T × ℕ) → next y ≡ Err f → (b < block_of f) × ((q : Block) → From bytes (Told f) (b + 1) (x y q).stand (x y q).block)) →
      then_read (inside (fault.Block b) one) next ≡ Err f → ToldFrom bytes f b s
  block_told {T} one b s x next steps fine later e =
      elim (then_err (inside (fault.Block b) one) next f e) [
        | inl h ↦ (let k = named b one f h in
            record {
              low = omega arith;
              from = λ q. from_fault bytes f s q b k (steps q ∙ ap (λ (r : Read T RecordFault). handing r s q (λ y. x y q)) h);
            })
        | inr r ↦ (let y = r.0 in
            let l = later y r.2 in
            let k = l.0 in
            record {
              low = omega arith;
              from =
                  λ q.
                  from_step bytes (Told f) b s q (x y q) (steps q ∙ ap (λ (z : Read T RecordFault). handing z s q (λ v. x v q)) r.1)
                  (record { before = λ z. fine y q; after = λ z. absurd (omega arith) }) (l.1 q);
            })
      ]

  nets_told : (h : Head) (s : Supplies) (ms : List Menu) (at : ℕ) →
      then_read (blocks (net_block h.modules bytes) h.nets (2 + h.modules) at) (λ ns. ended bytes (2 + h.modules + h.nets) ns.1 (netlist h.terms s ms ns.0)) ≡ Err f →
      ToldFrom bytes f (2 + h.modules) (module_stand h s.map h.modules at)
  nets_told h s ms at e =
      subst (ToldFrom bytes f (2 + h.modules)) (sym (modules_over h s.map at))
      (section_told (net_block h.modules bytes) kind.Net with_net h.nets (2 + h.modules) (net_stand h s.map) (net_section bytes h s.map) no_net _ at (λ ns. end_told h s.map ns.1 (netlist h.terms s ms ns.0)) e)

  abbrev after_supplies : Head → Supplies × ℕ → Result Netlist RecordFault
  after_supplies h s =
      then_read (blocks (menu_block s.0.map bytes) h.modules 2 s.1) (λ ms.
      then_read (blocks (net_block h.modules bytes) h.nets (2 + h.modules) ms.1) (λ ns.
      ended bytes (2 + h.modules + h.nets) ns.1 (netlist h.terms s.0 ms.0 ns.0)))

  modules_told : (h : Head) (s : Supplies × ℕ) → after_supplies h s ≡ Err f → ToldFrom bytes f 2 (module_stand h s.0.map 0 s.1)
  modules_told h s e =
      section_told (menu_block s.0.map bytes) kind.Module with_menu h.modules 2 (module_stand h s.0.map) (module_section bytes h s.0.map) no_menu _ s.1 (λ ms. nets_told h s.0 ms.0 ms.1) e

  supplies_told : (h : Head) (a : ℕ) → then_read (inside (fault.Block 1) (supplies_block bytes a)) (after_supplies h) ≡ Err f → ToldFrom bytes f 1 (stand_at state.Supplies a h 0)
  supplies_told h a e =
      block_told (supplies_block bytes a) 1 (stand_at state.Supplies a h 0) (λ x q. handed kind.Supplies (module_stand h x.0.map 0 x.1) (with_supplies q x.0)) (after_supplies h)
      (λ q. refl) (λ y q. refl) (λ y g. (let t = modules_told h y g in let k = t.low in (omega arith, λ q. t.from (with_supplies q y.0)))) e

  head_told : reads_as bytes ≡ Err f → ToldFrom bytes f 0 at_start
  head_told e =
      block_told (head_block bytes 0) 0 at_start (λ x q. handed kind.Head (stand_at state.Supplies x.1 x.0 0) (with_head q x.0)) (λ x. then_read (inside (fault.Block 1) (supplies_block bytes x.1)) (after_supplies x.0))
      (λ q. refl) (λ y q. refl) (λ y g. (let t = supplies_told y.0 y.1 g in let k = t.low in (omega arith, λ q. t.from (with_head q y.0)))) e

  fault_told : reads_as bytes ≡ Err f → (q : Block) → FaultTold (λ k. call k bytes at_start q) f
  fault_told e q = record { not_before = λ k. (told k).before; ever_after = λ k. (told k).after }
    where
      told : (k : ℕ) → Told f k (call k bytes at_start q)
      told k = let z : 0 + k ≡ k = omega arith in subst (λ c. Told f c (call k bytes at_start q)) z ((head_told e).from q k)

pub hands_out : (bytes : List ℕ) (p : Block) → HandsOut bytes p
hands_out bytes p = record {
  accepted = λ n e. (let r = parts_of bytes n e in subst (AllHanded (λ k. call k bytes at_start p)) r.same (all_handed bytes r.h r.s r.ms r.ns r.to r.read r.over p));
  refused = λ f e. fault_told bytes f e p;
}
