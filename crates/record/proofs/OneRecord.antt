-- One record: what is written reads back as the design, and what is read is written back byte for byte. Assumes nothing.
use Rattle.std.proofs.Common.{◌≡◌, ℕ, ◌+◌, ◌^◌, ◌<◌, ◌≤◌, true, false, ltb, leb, List, [], ◌∷◌, ◌++◌, length, get_or, drop, Ok, sym, refl, ap, ◌∙◌, subst, append_assoc, arith}
use Rattle.std.specs.List.{list_all}
use Rattle.std.proofs.lemmas.List.{append-nil, length-drop, drop_all}
use Rattle.std.proofs.lemmas.Bool.{le-ltb, ltb-false, le-leb, leb-true}
use Rattle.std.proofs.lemmas.Bool.Decides.{nat_tests}
use Rattle.netlist.specs.declared.parts.Terms.{Terms}
use Rattle.netlist.specs.declared.refusal.Refusal.TheVariants.{WrongMap}
use Rattle.netlist.specs.Slots.{bit}
use Rattle.netlist.specs.Netlist.{Netlist, netlist, modules, within, is_zero, terms_lawful, supplies_lawful, menu_lawful, net_lawful, lawful}
use Rattle.netlist.specs.Calls.{terms_of}
use Rattle.netlist.proofs.Kept.{Kept, kept, lawful_from}
use Rattle.faults.specs.declared.RecordFault.TheVariants.{Block}
use Rattle.record.specs.declared.head.Head.{Head}
use Rattle.record.specs.Steps.{inside}
use Rattle.record.specs.Fields.{Bytes, spelled, required, optional}
use Rattle.record.specs.Blocks.{head_map, head_fields, head_block, supplies_block, menu_block, net_block}
use Rattle.record.specs.Record.{blocks, reads_as, record_of, head_bytes, supplies_bytes, menu_bytes, net_bytes, all_bytes, spelled_unless_zero}
use Rattle.record.proofs.Whole.{parts_of}
use Rattle.record.proofs.Readings.{then_ok, same_read, Took, took_both, Gives, gives_then, gives_inside}
use Rattle.record.proofs.FieldsBack.{required_back, required_took, optional_back, optional_took}
use Rattle.record.proofs.Maps.{head_weights, head_map_of, head_map_is}
use Rattle.record.proofs.BlocksBack.{block_back, block_took, supplies_back, supplies_took, menu_back, menu_took, net_back, net_took, blocks_back, BlocksTook, blocks_took}

-- Heads
abbrev head : ℕ → ℕ → ℕ → ℕ → ℕ → Head
head cycle delay power ms ns = record { terms = terms_of cycle delay power; modules = ms; nets = ns }

abbrev head_spelled : ℕ → ℕ → ℕ → ℕ → ℕ → List ℕ
head_spelled cycle delay power ms ns =
    head_weights (is_zero delay) (is_zero power) (is_zero ms) (is_zero ns)
    ∷ (spelled 4 cycle ++ (spelled_unless_zero 2 delay ++ (spelled_unless_zero 2 power ++ (spelled_unless_zero 1 ms ++ spelled_unless_zero 2 ns))))

record HeadLawful (cycle delay power ms ns : ℕ) : Type 0 where
  cycle_ok : within 1 2000000 cycle ≡ true
  delay_ok : leb delay 10000 ≡ true
  power_ok : leb power 10000 ≡ true
  modules_ok : leb ms 64 ≡ true
  nets_ok : leb ns 256 ≡ true

record Small (cycle delay power ms ns : ℕ) : Type 0 where
  cycle_fits : cycle < 256 ^ 4
  delay_fits : delay < 256 ^ 2
  power_fits : power < 256 ^ 2
  modules_fit : ms < 256 ^ 1
  nets_fit : ns < 256 ^ 2

small : (cycle delay power ms ns : ℕ) → HeadLawful cycle delay power ms ns → Small cycle delay power ms ns
small cycle delay power ms ns h = record {
  cycle_fits = grind (arith, nat_tests, h.cycle_ok);
  delay_fits = grind (arith, nat_tests, h.delay_ok);
  power_fits = grind (arith, nat_tests, h.power_ok);
  modules_fit = grind (arith, nat_tests, h.modules_ok);
  nets_fit = grind (arith, nat_tests, h.nets_ok);
}

head_back : (cycle delay power ms ns : ℕ) (bs t : List ℕ) (at : ℕ) → HeadLawful cycle delay power ms ns → drop at bs ≡ head_spelled cycle delay power ms ns ++ t → Gives bs t (head_block bs at) (head cycle delay power ms ns)
head_back cycle delay power ms ns bs t at l h =
    let s = small cycle delay power ms ns l in
    let a = is_zero delay in
    let b = is_zero power in
    let c = is_zero ms in
    let d = is_zero ns in
    let m = head_weights a b c d in
    let hm = head_map_of a b c d in
    let od = spelled_unless_zero 2 delay in
    let op = spelled_unless_zero 2 power in
    let om = spelled_unless_zero 1 ms in
    let on = spelled_unless_zero 2 ns in
    let flat : (spelled 4 cycle ++ (od ++ (op ++ (om ++ on)))) ++ t ≡ spelled 4 cycle ++ (od ++ (op ++ (om ++ (on ++ t)))) = simp append_assoc in
    block_back head_map WrongMap (head_fields bs) bs (spelled 4 cycle ++ (od ++ (op ++ (om ++ (on ++ t))))) t m at (head cycle delay power ms ns) hm.lawful (h ∙ ap (λ k. m ∷ k) flat) (λ q.
    gives_then bs (od ++ (op ++ (om ++ (on ++ t)))) t (required 4 1 2000000 bs (at + 1)) _ cycle (head cycle delay power ms ns) (required_back 4 1 2000000 cycle bs (od ++ (op ++ (om ++ (on ++ t)))) (at + 1) (omega arith) s.cycle_fits l.cycle_ok q) (λ a1 at1.
    gives_then bs (op ++ (om ++ (on ++ t))) t (optional (bit m 1) 2 10000 bs a1) _ delay (head cycle delay power ms ns) (optional_back (bit m 1) 2 10000 delay bs (op ++ (om ++ (on ++ t))) a1 (omega arith) s.delay_fits l.delay_ok hm.bit1 at1) (λ a2 at2.
    gives_then bs (om ++ (on ++ t)) t (optional (bit m 2) 2 10000 bs a2) _ power (head cycle delay power ms ns) (optional_back (bit m 2) 2 10000 power bs (om ++ (on ++ t)) a2 (omega arith) s.power_fits l.power_ok hm.bit2 at2) (λ a3 at3.
    gives_then bs (on ++ t) t (optional (bit m 3) 1 64 bs a3) _ ms (head cycle delay power ms ns) (optional_back (bit m 3) 1 64 ms bs (on ++ t) a3 (omega arith) s.modules_fit l.modules_ok hm.bit3 at3) (λ a4 at4.
    gives_then bs t t (optional (bit m 4) 2 256 bs a4) _ ns (head cycle delay power ms ns) (optional_back (bit m 4) 2 256 ns bs t a4 (omega arith) s.nets_fit l.nets_ok hm.bit4 at4) (λ a5 at5.
    (a5, refl, at5)))))))

record HeadTook (bs : List ℕ) (at : ℕ) (h : Head) (to : ℕ) : Type 0 where
  rules : HeadLawful h.terms.cycle h.terms.shifter.delay h.terms.shifter.power h.modules h.nets
  took : Took bs at (head_spelled h.terms.cycle h.terms.shifter.delay h.terms.shifter.power h.modules h.nets) to

head_took : (bs : List ℕ) (at : ℕ) (h : Head) (to : ℕ) → Bytes bs → head_block bs at ≡ Ok (h, to) → HeadTook bs at h to
head_took bs at h to b e =
    let m = get_or bs at 0 in
    let p = block_took head_map WrongMap (head_fields bs) bs at h to e in
    let p1 = then_ok (required 4 1 2000000 bs (at + 1)) _ (h, to) p.fields_read in
    let c = p1.0 in
    let p2 = then_ok (optional (bit m 1) 2 10000 bs c.1) _ (h, to) p1.2 in
    let d = p2.0 in
    let p3 = then_ok (optional (bit m 2) 2 10000 bs d.1) _ (h, to) p2.2 in
    let w = p3.0 in
    let p4 = then_ok (optional (bit m 3) 1 64 bs w.1) _ (h, to) p3.2 in
    let ms = p4.0 in
    let p5 = then_ok (optional (bit m 4) 2 256 bs ms.1) _ (h, to) p4.2 in
    let ns = p5.0 in
    let same = same_read (head c.0 d.0 w.0 ms.0 ns.0) h ns.1 to p5.2 in
    let t1 = required_took 4 1 2000000 c.0 c.1 bs (at + 1) b p1.1 in
    let t2 = optional_took (bit m 1) 2 10000 d.0 d.1 bs c.1 b t1.1.inside_it p2.1 in
    let t3 = optional_took (bit m 2) 2 10000 w.0 w.1 bs d.1 b t2.2.inside_it p3.1 in
    let t4 = optional_took (bit m 3) 1 64 ms.0 ms.1 bs w.1 b t3.2.inside_it p4.1 in
    let t5 = optional_took (bit m 4) 2 256 ns.0 ns.1 bs ms.1 b t4.2.inside_it p5.1 in
    let mi = head_map_is m (is_zero d.0) (is_zero w.0) (is_zero ms.0) (is_zero ns.0) (record { lawful = p.map_fine; bit1 = t2.0; bit2 = t3.0; bit3 = t4.0; bit4 = t5.0 }) in
    let od = spelled_unless_zero 2 d.0 in
    let op = spelled_unless_zero 2 w.0 in
    let om = spelled_unless_zero 1 ms.0 in
    let on = spelled_unless_zero 2 ns.0 in
    let w4 = took_both bs om on w.1 ms.1 ns.1 t4.2 t5.2 in
    let w3 = took_both bs op (om ++ on) d.1 w.1 ns.1 t3.2 w4 in
    let w2 = took_both bs od (op ++ (om ++ on)) c.1 d.1 ns.1 t2.2 w3 in
    let w1 = took_both bs (spelled 4 c.0) (od ++ (op ++ (om ++ on))) (at + 1) c.1 ns.1 t1.1 w2 in
    let w0 = took_both bs (m ∷ []) (spelled 4 c.0 ++ (od ++ (op ++ (om ++ on)))) at (at + 1) ns.1 p.map_took w1 in
    let v0 = subst (λ k. Took bs at (k ∷ (spelled 4 c.0 ++ (od ++ (op ++ (om ++ on))))) ns.1) mi w0 in
    let v1 = subst (λ k. Took bs at (head_spelled c.0 d.0 w.0 ms.0 ns.0) k) same.1 v0 in
    subst (λ k. HeadTook bs at k to) same.0 (record {
      rules = record { cycle_ok = t1.0; delay_ok = t2.1; power_ok = t3.1; modules_ok = t4.1; nets_ok = t5.1 };
      took = v1;
    })

-- the head of a lawful design
head_lawful : (n : Netlist) → Kept n → HeadLawful n.terms.cycle n.terms.shifter.delay n.terms.shifter.power (modules n) (length n.nets)
head_lawful n k = record {
  cycle_ok = grind (arith, nat_tests, k.terms);
  delay_ok = grind (arith, nat_tests, k.terms);
  power_ok = grind (arith, nat_tests, k.terms);
  modules_ok = le-leb (modules n) 64 k.few_modules;
  nets_ok = le-leb (length n.nets) 256 k.few_nets;
}

lawful_terms : (n : Netlist) → HeadLawful n.terms.cycle n.terms.shifter.delay n.terms.shifter.power (modules n) (length n.nets) → terms_lawful n.terms ≡ true
lawful_terms n h = grind (arith, nat_tests, h.cycle_ok, h.delay_ok, h.power_ok)

-- what a lawful design's record is made of
abbrev rest_spelled : Netlist → List ℕ
rest_spelled n = supplies_bytes n.supplies ++ (all_bytes menu_bytes n.menus ++ all_bytes net_bytes n.nets)

pub writes_back : (n : Netlist) → lawful n ≡ true → reads_as (record_of n) ≡ Ok n
writes_back n l = result
  where
    bs : List ℕ
    bs = record_of n

    k : Kept n
    k = kept n l

    h : Head
    h = head n.terms.cycle n.terms.shifter.delay n.terms.shifter.power (modules n) (length n.nets)

    g1 : Gives bs (rest_spelled n) (inside (Block 0) (head_block bs 0)) h
    g1 = gives_inside (Block 0) bs (rest_spelled n) (head_block bs 0) h (head_back n.terms.cycle n.terms.shifter.delay n.terms.shifter.power (modules n) (length n.nets) bs (rest_spelled n) 0 (head_lawful n k) refl)

    g2 : Gives bs (all_bytes menu_bytes n.menus ++ all_bytes net_bytes n.nets) (inside (Block 1) (supplies_block bs g1.0)) n.supplies
    g2 = gives_inside (Block 1) bs _ (supplies_block bs g1.0) n.supplies (supplies_back n.supplies bs _ g1.0 k.supplies g1.2)

    g3 : Gives bs (all_bytes net_bytes n.nets) (blocks (menu_block n.supplies.map bs) (modules n) 2 g2.0) n.menus
    g3 = blocks_back (menu_lawful n.supplies.map) menu_bytes (menu_block n.supplies.map bs) bs (λ m at t k e. menu_back n.supplies.map m bs t at k e) n.menus 2 g2.0 (all_bytes net_bytes n.nets) k.menus g2.2

    g4 : Gives bs [] (blocks (net_block (modules n) bs) (length n.nets) (2 + modules n) g3.0) n.nets
    g4 = blocks_back (net_lawful (modules n)) net_bytes (net_block (modules n) bs) bs (λ m at t k e. net_back (modules n) m bs t at (kept n l).few_modules k e) n.nets (2 + modules n) g3.0 [] k.nets (g3.2 ∙ sym (append-nil (all_bytes net_bytes n.nets)))

    over : ltb g4.0 (length bs) ≡ false
    over = let e = ap length g4.2 in let d = length-drop g4.0 bs in le-ltb g4.0 (length bs) (omega arith)

    result : reads_as bs ≡ Ok n
    result = rw (g1.1, g2.1, g3.1, g4.1, over)

-- what an accepted record says of its parts
whole : (bs : List ℕ) (h : Head) (n : Netlist) (a b c to : ℕ) → n.terms ≡ h.terms → HeadTook bs 0 h a →
    supplies_lawful n.supplies ≡ true → Took bs a (supplies_bytes n.supplies) b →
    BlocksTook (menu_lawful n.supplies.map) menu_bytes bs h.modules b n.menus c →
    BlocksTook (net_lawful h.modules) net_bytes bs h.nets c n.nets to →
    length bs ≤ to → (record_of n ≡ bs) × (lawful n ≡ true)
whole bs h n a b c to et ht sl st mt nt over =
    let m = mt.long in
    let k = nt.long in
    let r = ht.rules in
    let head1 = subst (λ (t : Terms). Took bs 0 (head_spelled t.cycle t.shifter.delay t.shifter.power h.modules h.nets) a) (sym et) ht.took in
    let head2 = subst (λ x. Took bs 0 (head_spelled n.terms.cycle n.terms.shifter.delay n.terms.shifter.power x h.nets) a) (sym m) head1 in
    let head3 = subst (λ x. Took bs 0 (head_spelled n.terms.cycle n.terms.shifter.delay n.terms.shifter.power (modules n) x) a) (sym k) head2 in
    let t2 = took_both bs (all_bytes menu_bytes n.menus) (all_bytes net_bytes n.nets) b c to mt.took nt.took in
    let t1 = took_both bs (supplies_bytes n.supplies) _ a b to st t2 in
    let t0 = took_both bs (head_bytes n) (rest_spelled n) 0 a to head3 t1 in
    let none = drop_all to bs over in
    let same : bs ≡ record_of n = t0.these ∙ (ap (λ z. record_of n ++ z) none ∙ append-nil (record_of n)) in
    let r1 = subst (λ (t : Terms). HeadLawful t.cycle t.shifter.delay t.shifter.power h.modules h.nets) (sym et) r in
    let r2 = subst (λ x. HeadLawful n.terms.cycle n.terms.shifter.delay n.terms.shifter.power x h.nets) (sym m) r1 in
    let r3 = subst (λ x. HeadLawful n.terms.cycle n.terms.shifter.delay n.terms.shifter.power (modules n) x) (sym k) r2 in
    (sym same, lawful_from n (record { terms = lawful_terms n r3; supplies = sl; few_modules = leb-true (modules n) 64 r3.modules_ok; menus = mt.lawful; few_nets = leb-true (length n.nets) 256 r3.nets_ok; nets = subst (λ x. list_all (net_lawful x) n.nets ≡ true) (sym m) nt.lawful }))

pub reads_back : (bs : List ℕ) (n : Netlist) → Bytes bs → reads_as bs ≡ Ok n → (record_of n ≡ bs) × (lawful n ≡ true)
reads_back bs n y e =
    let p = parts_of bs n e in
    let r = p.read in
    let h = p.h in
    let s = p.s in
    let ht = head_took bs 0 h r.a y r.head in
    let st = supplies_took s bs r.a r.b y r.supplies in
    let mt = blocks_took (menu_lawful s.map) menu_bytes (menu_block s.map bs) bs (λ m at t k. menu_took s.map m bs at t y k) h.modules 2 r.b p.ms r.c st.1.inside_it r.menus in
    let nt = blocks_took (net_lawful h.modules) net_bytes (net_block h.modules bs) bs (λ m at t k. net_took h.modules m bs at t y k) h.nets (2 + h.modules) r.c p.ns p.to mt.took.inside_it r.nets in
    subst (λ (k : Netlist). (record_of k ≡ bs) × (lawful k ≡ true)) p.same
    (whole bs h (netlist h.terms s p.ms p.ns) r.a r.b r.c p.to refl ht st.0 st.1 mt nt (ltb-false p.to (length bs) p.over))
