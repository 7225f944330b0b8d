-- Blocks: what was written is read back, and what was read was written so. Assumes nothing.
use Rattle.std.proofs.Common.{◌≡◌, ℕ, zero, suc, ◌+◌, ◌^◌, ◌<◌, ◌≤◌, Bool, true, cond, ltb, leb, List, [], ◌∷◌, ◌++◌, length, get_or, drop, None, Ok, Err, Option, Result, sym, refl, ap, ◌∙◌, subst, append_assoc, arith}
use Rattle.std.specs.List.{list_all}
use Rattle.std.proofs.lemmas.List.{drop_more}
use Rattle.std.proofs.lemmas.Bool.{and_parts, and_from, leb-false, lt-leb, lt-ltb, ltb-true, le-ltb, ltb-false, eqb-true}
use Rattle.std.proofs.lemmas.Bool.Decides.{nat_tests}
use Rattle.netlist.specs.declared.parts.Choice.{Choice}
use Rattle.netlist.specs.declared.parts.Net.{Net}
use Rattle.netlist.specs.declared.refusal.Refusal.{Refusal}
use Rattle.netlist.specs.declared.refusal.Refusal.TheVariants.{EndsEarly, WrongMap, Limit, Order, WrongMenu, WrongEnds}
use Rattle.netlist.specs.Slots.{bit, Supplies, Menu}
use Rattle.netlist.specs.Netlist.{is_zero, supplies_lawful, voltage_in_limits, voltage_follows, choice_in_limits, choice_follows, no_choice, is_no_choice, names_supplies, menu_lawful, joins, net_lawful}
use Rattle.netlist.specs.Calls.{net_of}
use Rattle.netlist.proofs.Kept.{kept_supplies, supplies_lawful_from, kept_menu, menu_lawful_from}
use Rattle.faults.specs.declared.FieldFault.{FieldFault}
use Rattle.faults.specs.declared.BlockFault.{BlockFault}
use Rattle.faults.specs.declared.BlockFault.TheVariants.{Map, Field}
use Rattle.faults.specs.declared.RecordFault.TheVariants.{Block}
use Rattle.record.specs.Steps.{Read, inside, ahead}
use Rattle.record.specs.Fields.{Bytes, field_fault, field, number, spelled, optional}
use Rattle.record.specs.Blocks.{map_byte, fine_map, block, slots, checked, any_map, voltage_entry, supplies_read, supplies_fields, supplies_block, choice_at, choice_entry, menu_read, menu_fields, menu_block, net_map, net_fields, net_block}
use Rattle.record.specs.Record.{blocks, slot_bytes, supplies_bytes, choice_bytes, menu_bytes, net_bytes, all_bytes, spelled_unless_zero}
use Rattle.record.proofs.Spelled.{past, room, first, length-spelled, number_back, spelled_back}
use Rattle.record.proofs.Readings.{then_ok, same_read, inside_ok, ahead_ok, cond_ok, else_ok, Took, took_none, took_both, Gives, gives_inside, gives_ahead}
use Rattle.record.proofs.FieldsBack.{field_back, field_took, past_spelled, optional_back, optional_took}
use Rattle.record.proofs.SlotsBack.{EntryBack, EntryTook, Lawful, slots_back, slots_took}
use Rattle.record.proofs.Maps.{net_weights, net_map_of, net_map_is}

-- Any block
pub block_back : {T : Type 0} (fine : ℕ → Bool) (why : Refusal) (fields : ℕ → ℕ → Read T FieldFault) (bs u t : List ℕ) (map at : ℕ) (v : T) →
    fine map ≡ true → drop at bs ≡ map ∷ u → (drop (at + 1) bs ≡ u → Gives bs t (fields map (at + 1)) v) → Gives bs t (block fine why fields bs at) v
block_back fine why fields bs u t map at v f h k =
    let m = first bs u map at h in
    let r = room bs (map ∷ []) u at h (omega arith) in
    let l = lt-leb (length bs) at (omega arith) in
    let g = gives_inside Field bs t (fields map (at + 1)) v (k (past bs (map ∷ []) u at h)) in
    (g.0, rw (l, m, f) g.1, g.2)

pub record BlockTook {T : Type 0} (fine : ℕ → Bool) (fields : ℕ → ℕ → Read T FieldFault) (bs : List ℕ) (at : ℕ) (v : T) (to : ℕ) : Type 0 where
  pub map_fine : fine (get_or bs at 0) ≡ true
  pub fields_read : fields (get_or bs at 0) (at + 1) ≡ Ok (v, to)
  pub map_took : Took bs at (get_or bs at 0 ∷ []) (at + 1)

pub block_took : {T : Type 0} (fine : ℕ → Bool) (why : Refusal) (fields : ℕ → ℕ → Read T FieldFault) (bs : List ℕ) (at : ℕ) (v : T) (to : ℕ) →
    block fine why fields bs at ≡ Ok (v, to) → BlockTook fine fields bs at v to
block_took fine why fields bs at v to h =
    let m = get_or bs at 0 in
    let u = then_ok (fine_map fine why bs at) (λ map. inside Field (fields map (at + 1))) (v, to) h in
    let t = then_ok (map_byte bs at) (λ map. cond (fine map) (Ok map) (Err (Map why at))) u.0 u.1 in
    let p = else_ok (leb (length bs) at) (Ok m) (Map EndsEarly at) t.0 t.1 in
    let w = cond_ok (fine t.0) (Ok t.0) (Map why at) u.0 t.2 in
    let e : m ≡ t.0 = (let x = p.1 in cc) in
    let g : t.0 ≡ u.0 = (let x = w.1 in cc) in
    let l = leb-false (length bs) at p.0 in
    record {
      map_fine = subst (λ k. fine k ≡ true) (sym e) w.0;
      fields_read = inside_ok Field (fields m (at + 1)) (v, to) (subst (λ k. inside Field (fields k (at + 1)) ≡ Ok (v, to)) (sym (e ∙ g)) u.2);
      map_took = record { these = drop_more bs at 0 l; inside_it = omega arith };
    }

-- A value that is checked against its limits and its order
checked_back : {T : Type 0} (fine : T → Bool) (follows : Option T → T → Bool) (last : Option T) (at : ℕ) (x : T) → fine x ≡ true → follows last x ≡ true → checked fine follows last at x ≡ Ok x
checked_back fine follows last at x f o = rw (f, o)

checked_took : {T : Type 0} (fine : T → Bool) (follows : Option T → T → Bool) (last : Option T) (at : ℕ) (x y : T) → checked fine follows last at x ≡ Ok y → (fine x ≡ true) × (follows last x ≡ true) × (x ≡ y)
checked_took fine follows last at x y h =
    let p = cond_ok (fine x) (cond (follows last x) (Ok x) (Err (field_fault Order at))) (field_fault Limit at) y h in
    let q = cond_ok (follows last x) (Ok x) (field_fault Order at) y p.1 in
    let e = q.1 in
    (p.0, q.0, cc)

-- Supplies
voltages_back : (bs : List ℕ) → EntryBack 0 2 voltage_in_limits voltage_follows is_zero (spelled 2) bs (voltage_entry bs)
voltages_back bs = record {
  wide = λ x. length-spelled 2 x;
  nothing = λ x h. eqb-true x 0 h;
  back = λ last x at t f o h.
      let l : x < 256 ^ 2 = grind (arith, nat_tests) in
      let e = field_back 2 x bs t at (omega arith) l h in
      let c = checked_back voltage_in_limits voltage_follows last at x f o in
      rw e c;
}

voltages_took : (bs : List ℕ) → Bytes bs → EntryTook 0 2 voltage_in_limits voltage_follows is_zero (spelled 2) bs (voltage_entry bs)
voltages_took bs b = record {
  nothing_is = refl;
  took = λ last x at h.
      let p = then_ok (field 2 bs at) (checked voltage_in_limits voltage_follows last at) x h in
      let q = checked_took voltage_in_limits voltage_follows last at p.0 x p.2 in
      let f = field_took 2 p.0 bs at b p.1 in
      (subst (λ k. voltage_in_limits k ≡ true) q.2 q.0, subst (λ k. voltage_follows last k ≡ true) q.2 q.1, subst (λ k. Took bs at (spelled 2 k) (at + 2)) q.2 f.1);
}

-- a whole table of eight, read back
table_back : {T : Type 0} (none : T) (width : ℕ) (fine : T → Bool) (follows : Option T → T → Bool) (blank : T → Bool) (spell : T → List ℕ) (bs : List ℕ) (entry : Option T → ℕ → Result T FieldFault) →
    EntryBack none width fine follows blank spell bs entry → (map : ℕ) (xs : List T) (at : ℕ) (t : List ℕ) → length xs ≡ 8 → Lawful none width fine follows blank spell bs entry map 0 None xs →
    drop at bs ≡ slot_bytes spell map 0 xs ++ t → Gives bs t (slots none width entry 8 map 0 None at) xs
table_back none width fine follows blank spell bs entry E map xs at t n l h =
    let g = slots_back none width fine follows blank spell bs entry E xs map 0 None at t l h in
    (g.0, subst (λ k. slots none width entry k map 0 None at ≡ Ok (xs, g.0)) n g.1, g.2)

pub supplies_read_back : (map : ℕ) (r : Read (List ℕ) FieldFault) (vs : List ℕ) (to : ℕ) → r ≡ Ok (vs, to) → supplies_read map r ≡ Ok (record { map = map; values = vs }, to)
supplies_read_back map r vs to e = rw e

pub menu_read_back : (map : ℕ) (r : Read (List Choice) FieldFault) (cs : List Choice) (to : ℕ) → r ≡ Ok (cs, to) → menu_read map r ≡ Ok (record { map = map; values = cs }, to)
menu_read_back map r cs to e = rw e

pub supplies_back : (s : Supplies) (bs t : List ℕ) (at : ℕ) → supplies_lawful s ≡ true → drop at bs ≡ supplies_bytes s ++ t → Gives bs t (supplies_block bs at) s
supplies_back s bs t at l h =
    let k = kept_supplies s l in
    block_back any_map WrongMap (supplies_fields bs) bs (slot_bytes (spelled 2) s.map 0 s.values ++ t) t s.map at s (lt-ltb s.map 256 k.byte) h (λ q.
    let g = table_back 0 2 voltage_in_limits voltage_follows is_zero (spelled 2) bs (voltage_entry bs) (voltages_back bs) s.map s.values (at + 1) t k.eight (record { limits = k.limits; order = k.order; clean = k.zeros }) q in
    (g.0, supplies_read_back s.map (slots 0 2 (voltage_entry bs) 8 s.map 0 None (at + 1)) s.values g.0 g.1, g.2))

pub supplies_took : (s : Supplies) (bs : List ℕ) (at to : ℕ) → Bytes bs → supplies_block bs at ≡ Ok (s, to) → (supplies_lawful s ≡ true) × Took bs at (supplies_bytes s) to
supplies_took s bs at to b h =
    let m = get_or bs at 0 in
    let p = block_took any_map WrongMap (supplies_fields bs) bs at s to h in
    let q = supplies_read_took m (slots 0 2 (voltage_entry bs) 8 m 0 None (at + 1)) s to p.fields_read in
    let r = slots_took 0 2 voltage_in_limits voltage_follows is_zero (spelled 2) bs (voltage_entry bs) (voltages_took bs b) 8 m 0 None (at + 1) s.values to p.map_took.inside_it q.1 in
    let w = took_both bs (m ∷ []) (slot_bytes (spelled 2) m 0 s.values) at (at + 1) to p.map_took r.took in
    let good = supplies_lawful_from (record { map = m; values = s.values }) (record { byte = ltb-true m 256 p.map_fine; eight = r.long; limits = r.lawful.limits; order = r.lawful.order; zeros = r.lawful.clean }) in
    (subst (λ k. supplies_lawful (record { map = k; values = s.values }) ≡ true) (sym q.0) good, subst (λ k. Took bs at (k ∷ slot_bytes (spelled 2) k 0 s.values) to) (sym q.0) w)
  where
    supplies_read_took : (m : ℕ) (r : Read (List ℕ) FieldFault) (s : Supplies) (to : ℕ) → supplies_read m r ≡ Ok (s, to) → (s.map ≡ m) × (r ≡ Ok (s.values, to))
    supplies_read_took m (Ok g) s to h = let e = same_read (record { map = m; values = g.0 }) s g.1 to h in (sym (ap (λ (k : Supplies). k.map) e.0), ap (λ (k : Supplies). Ok (k.values, g.1)) e.0 ∙ ap (λ k. Ok (s.values, k)) e.1)
    supplies_read_took m (Err e) s to h = cc

-- Modules
all_zero : (c : Choice) → c.delay ≡ 0 → c.power ≡ 0 → c ≡ no_choice
all_zero c d p = ap (λ k. record { delay = k; power = c.power }) d ∙ ap (λ k. record { delay = 0; power = k }) p

choice_is : (bs : List ℕ) (at : ℕ) (c : Choice) → number 2 bs at ≡ c.delay → number 4 bs (at + 2) ≡ c.power → choice_at bs at ≡ c
choice_is bs at c d p = ap (λ k. record { delay = k; power = number 4 bs (at + 2) }) d ∙ ap (λ k. record { delay = c.delay; power = k }) p

choices_back : (bs : List ℕ) → EntryBack no_choice 6 choice_in_limits choice_follows is_no_choice choice_bytes bs (choice_entry bs)
choices_back bs = record {
  wide = λ c. refl;
  nothing = λ c h. all_zero c (grind (arith, nat_tests)) (grind (arith, nat_tests));
  back = λ last c at t f o h.
      let ld : c.delay < 256 ^ 2 = grind (arith, nat_tests) in
      let lp : c.power < 256 ^ 4 = grind (arith, nat_tests) in
      let r = room bs (choice_bytes c) t at h (omega arith) in
      let e = le-ltb (length bs) (at + 6) r in
      let d = number_back 2 c.delay bs (spelled 4 c.power ++ t) at ld h in
      let q = past_spelled 2 c.delay bs (spelled 4 c.power ++ t) at h in
      let p = number_back 4 c.power bs t (at + 2) lp q in
      let same = choice_is bs at c d p in
      rw e (ap (checked choice_in_limits choice_follows last at) same ∙ checked_back choice_in_limits choice_follows last at c f o);
}

choices_took : (bs : List ℕ) → Bytes bs → EntryTook no_choice 6 choice_in_limits choice_follows is_no_choice choice_bytes bs (choice_entry bs)
choices_took bs b = record {
  nothing_is = refl;
  took = λ last c at h.
      let p = else_ok (ltb (length bs) (at + 6)) (checked choice_in_limits choice_follows last at (choice_at bs at)) (field_fault EndsEarly at) c h in
      let l = ltb-false (length bs) (at + 6) p.0 in
      let q = checked_took choice_in_limits choice_follows last at (choice_at bs at) c p.1 in
      let d = spelled_back 2 bs at b (omega arith) in
      let g = spelled_back 4 bs (at + 2) b (omega arith) in
      let z : at + 2 + 4 ≡ at + 6 = omega arith in
      let w : Took bs at (choice_bytes (choice_at bs at)) (at + 6) = record { these = d ∙ ap (λ k. spelled 2 (number 2 bs at) ++ k) (g ∙ ap (λ k. spelled 4 (number 4 bs (at + 2)) ++ drop k bs) z); inside_it = l } in
      (subst (λ k. choice_in_limits k ≡ true) q.2 q.0, subst (λ k. choice_follows last k ≡ true) q.2 q.1, subst (λ k. Took bs at (choice_bytes k) (at + 6)) q.2 w);
}

pub menu_back : (supplies : ℕ) (m : Menu) (bs t : List ℕ) (at : ℕ) → menu_lawful supplies m ≡ true → drop at bs ≡ menu_bytes m ++ t → Gives bs t (menu_block supplies bs at) m
menu_back supplies m bs t at l h =
    let k = kept_menu supplies m l in
    block_back (names_supplies supplies) WrongMenu (menu_fields bs) bs (slot_bytes choice_bytes m.map 0 m.values ++ t) t m.map at m k.named h (λ q.
    let g = table_back no_choice 6 choice_in_limits choice_follows is_no_choice choice_bytes bs (choice_entry bs) (choices_back bs) m.map m.values (at + 1) t k.eight (record { limits = k.limits; order = k.order; clean = k.zeros }) q in
    (g.0, menu_read_back m.map (slots no_choice 6 (choice_entry bs) 8 m.map 0 None (at + 1)) m.values g.0 g.1, g.2))

pub menu_took : (supplies : ℕ) (m : Menu) (bs : List ℕ) (at to : ℕ) → Bytes bs → menu_block supplies bs at ≡ Ok (m, to) → (menu_lawful supplies m ≡ true) × Took bs at (menu_bytes m) to
menu_took supplies m bs at to b h =
    let map = get_or bs at 0 in
    let p = block_took (names_supplies supplies) WrongMenu (menu_fields bs) bs at m to h in
    let q = menu_read_took map (slots no_choice 6 (choice_entry bs) 8 map 0 None (at + 1)) m to p.fields_read in
    let r = slots_took no_choice 6 choice_in_limits choice_follows is_no_choice choice_bytes bs (choice_entry bs) (choices_took bs b) 8 map 0 None (at + 1) m.values to p.map_took.inside_it q.1 in
    let w = took_both bs (map ∷ []) (slot_bytes choice_bytes map 0 m.values) at (at + 1) to p.map_took r.took in
    let good = menu_lawful_from supplies (record { map = map; values = m.values }) (record { named = p.map_fine; eight = r.long; limits = r.lawful.limits; order = r.lawful.order; zeros = r.lawful.clean }) in
    (subst (λ k. menu_lawful supplies (record { map = k; values = m.values }) ≡ true) (sym q.0) good, subst (λ k. Took bs at (k ∷ slot_bytes choice_bytes k 0 m.values) to) (sym q.0) w)
  where
    menu_read_took : (map : ℕ) (r : Read (List Choice) FieldFault) (m : Menu) (to : ℕ) → menu_read map r ≡ Ok (m, to) → (m.map ≡ map) × (r ≡ Ok (m.values, to))
    menu_read_took map (Ok g) m to h = let e = same_read (record { map = map; values = g.0 }) m g.1 to h in (sym (ap (λ (k : Menu). k.map) e.0), ap (λ (k : Menu). Ok (k.values, g.1)) e.0 ∙ ap (λ k. Ok (m.values, k)) e.1)
    menu_read_took map (Err e) m to h = cc

-- Nets
pub net_back : (modules : ℕ) (n : Net) (bs t : List ℕ) (at : ℕ) → modules ≤ 64 → net_lawful modules n ≡ true → drop at bs ≡ net_bytes n ++ t → Gives bs t (net_block modules bs at) n
net_back modules n bs t at few l h =
    let j : joins modules n.driver n.receiver ≡ true = grind (arith, nat_tests) in
    let w : leb n.wire 10000 ≡ true = grind (arith, nat_tests) in
    let d1 : n.driver < 256 ^ 1 = grind (arith, nat_tests) in
    let r1 : n.receiver < 256 ^ 1 = grind (arith, nat_tests) in
    let w1 : n.wire < 256 ^ 2 = grind (arith, nat_tests) in
    let mp = net_map_of (is_zero n.wire) in
    let m = net_weights (is_zero n.wire) in
    let ow = spelled_unless_zero 2 n.wire in
    block_back net_map WrongMap (net_fields modules bs) bs (spelled 1 n.driver ++ (spelled 1 n.receiver ++ (ow ++ t))) t m at n mp.0 h (λ q.
    let fd = field_back 1 n.driver bs (spelled 1 n.receiver ++ (ow ++ t)) (at + 1) (omega arith) d1 q in
    let at2 = past_spelled 1 n.driver bs (spelled 1 n.receiver ++ (ow ++ t)) (at + 1) q in
    let fr = field_back 1 n.receiver bs (ow ++ t) (at + 1 + 1) (omega arith) r1 at2 in
    let at3 = past_spelled 1 n.receiver bs (ow ++ t) (at + 1 + 1) at2 in
    let z : at + 1 + 1 + 1 ≡ at + 1 + 2 = omega arith in
    let at4 = subst (λ k. drop k bs ≡ ow ++ t) z at3 in
    let g = optional_back (bit m 2) 2 10000 n.wire bs t (at + 1 + 2) (omega arith) w1 w mp.1 at4 in
    (g.0, rw (fd, fr, j, g.1), g.2))

pub net_took : (modules : ℕ) (n : Net) (bs : List ℕ) (at to : ℕ) → Bytes bs → net_block modules bs at ≡ Ok (n, to) → (net_lawful modules n ≡ true) × Took bs at (net_bytes n) to
net_took modules n bs at to b h =
    let map = get_or bs at 0 in
    let p = block_took net_map WrongMap (net_fields modules bs) bs at n to h in
    let p1 = then_ok (field 1 bs (at + 1)) _ (n, to) p.fields_read in
    let d = p1.0 in
    let p2 = then_ok (field 1 bs (at + 1 + 1)) _ (n, to) p1.2 in
    let r = p2.0 in
    let p3 = cond_ok (joins modules d r) _ (field_fault WrongEnds (at + 1 + 1)) (n, to) p2.2 in
    let p4 = then_ok (optional (bit map 2) 2 10000 bs (at + 1 + 2)) _ (n, to) p3.1 in
    let w = p4.0.0 in
    let same = same_read (net_of d r w) n p4.0.1 to p4.2 in
    let fd = field_took 1 d bs (at + 1) b p1.1 in
    let fr = field_took 1 r bs (at + 1 + 1) b p2.1 in
    let z : at + 1 + 1 + 1 ≡ at + 1 + 2 = omega arith in
    let fr2 = subst (λ k. Took bs (at + 1 + 1) (spelled 1 r) k) z fr.1 in
    let fw = optional_took (bit map 2) 2 10000 w p4.0.1 bs (at + 1 + 2) b fr2.inside_it p4.1 in
    let fw2 = subst (λ k. Took bs (at + 1 + 2) (spelled_unless_zero 2 w) k) same.1 fw.2 in
    let mp = net_map_is map (is_zero w) p.map_fine fw.0 in
    let tail = took_both bs (spelled 1 d) (spelled 1 r ++ spelled_unless_zero 2 w) (at + 1) (at + 1 + 1) to fd.1 (took_both bs (spelled 1 r) (spelled_unless_zero 2 w) (at + 1 + 1) (at + 1 + 2) to fr2 fw2) in
    let whole = took_both bs (map ∷ []) (spelled 1 d ++ (spelled 1 r ++ spelled_unless_zero 2 w)) at (at + 1) to p.map_took tail in
    let whole2 = subst (λ k. Took bs at (k ∷ (spelled 1 d ++ (spelled 1 r ++ spelled_unless_zero 2 w))) to) mp whole in
    let j = p3.0 in
    let l = fw.1 in
    let good : net_lawful modules (net_of d r w) ≡ true = grind (arith, nat_tests) in
    (subst (λ k. net_lawful modules k ≡ true) same.0 good, subst (λ k. Took bs at (net_bytes k) to) same.0 whole2)

-- Any number of blocks of one kind
pub blocks_back : {T : Type 0} (good : T → Bool) (spell : T → List ℕ) (one : ℕ → Read T BlockFault) (bs : List ℕ) →
    ((x : T) (at : ℕ) (t : List ℕ) → good x ≡ true → drop at bs ≡ spell x ++ t → Gives bs t (one at) x) →
    (xs : List T) (b at : ℕ) (t : List ℕ) → list_all good xs ≡ true → drop at bs ≡ all_bytes spell xs ++ t → Gives bs t (blocks one (length xs) b at) xs
unfolding blocks
blocks_back good spell one bs each [] b at t h e = (at, refl, e)
blocks_back good spell one bs each (x ∷ xs) b at t h e =
    let p = and_parts (good x) (list_all good xs) h in
    let e2 = e ∙ append_assoc (spell x) (all_bytes spell xs) t in
    let g = gives_inside (Block b) bs (all_bytes spell xs ++ t) (one at) x (each x at (all_bytes spell xs ++ t) p.0 e2) in
    let r = blocks_back good spell one bs each xs (b + 1) g.0 t p.1 g.2 in
    let a = gives_ahead bs t x (blocks one (length xs) (b + 1) g.0) xs r in
    (a.0, rw g.1 a.1, a.2)

pub record BlocksTook {T : Type 0} (good : T → Bool) (spell : T → List ℕ) (bs : List ℕ) (k at : ℕ) (xs : List T) (to : ℕ) : Type 0 where
  pub long : length xs ≡ k
  pub lawful : list_all good xs ≡ true
  pub took : Took bs at (all_bytes spell xs) to

pub blocks_took : {T : Type 0} (good : T → Bool) (spell : T → List ℕ) (one : ℕ → Read T BlockFault) (bs : List ℕ) →
    ((x : T) (at to : ℕ) → one at ≡ Ok (x, to) → (good x ≡ true) × Took bs at (spell x) to) →
    (k b at : ℕ) (xs : List T) (to : ℕ) → at ≤ length bs → blocks one k b at ≡ Ok (xs, to) → BlocksTook good spell bs k at xs to
unfolding blocks
blocks_took good spell one bs each zero b at xs to l h =
    let p = same_read [] xs at to h in
    subst (λ ys. BlocksTook good spell bs zero at ys to) p.0 (subst (λ z. BlocksTook good spell bs zero at [] z) p.1
    (record { long = refl; lawful = refl; took = took_none bs at l }))
blocks_took good spell one bs each (suc k) b at xs to l h =
    let p = then_ok (inside (Block b) (one at)) (λ x. ahead x.0 (blocks one k (b + 1) x.1)) (xs, to) h in
    let x = p.0.0 in
    let mid = p.0.1 in
    let i = inside_ok (Block b) (one at) (x, mid) p.1 in
    let e = each x at mid i in
    let q = ahead_ok x (blocks one k (b + 1) mid) xs to p.2 in
    let ih = blocks_took good spell one bs each k (b + 1) mid q.0 to e.1.inside_it q.1 in
    subst (λ ys. BlocksTook good spell bs (suc k) at ys to) (sym q.2) (record {
      long = ap suc ih.long;
      lawful = and_from (good x) (list_all good q.0) e.0 ih.lawful;
      took = took_both bs (spell x) (all_bytes spell q.0) at mid to e.1 ih.took;
    })
