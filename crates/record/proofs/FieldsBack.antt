-- Fields: what was written is read back, and what was read was written so. Assumes nothing.
use Rattle.std.proofs.Common.{◌≡◌, ℕ, ◌+◌, ◌^◌, ◌<◌, ◌≤◌, Bool, true, false, cond, not, eqb, ltb, leb, List, [], ◌++◌, length, drop, Ok, Err, sym, ap, ◌∙◌, subst, arith}
use Rattle.std.proofs.lemmas.Bool.{and_parts, ltb-false, le-ltb, eqb-true}
use Rattle.std.proofs.lemmas.Bool.Decides.{nat_tests}
use Rattle.netlist.specs.declared.refusal.Refusal.TheVariants.{EndsEarly, AbsentValue, Limit}
use Rattle.netlist.specs.Netlist.{within, is_zero}
use Rattle.record.specs.Fields.{Bytes, field_fault, field, number, spelled, in_limits, required, optional}
use Rattle.record.specs.Record.{spelled_unless_zero}
use Rattle.record.proofs.Spelled.{past, room, length-spelled, number_back, spelled_back}
use Rattle.record.proofs.Readings.{then_ok, same_read, cond_ok, else_ok, Took, took_none, Gives}

pub field_back : (w n : ℕ) (bs t : List ℕ) (at : ℕ) → 0 < w → n < 256 ^ w → drop at bs ≡ spelled w n ++ t → field w bs at ≡ Ok n
field_back w n bs t at z l h =
    let e = length-spelled w n in
    let r = room bs (spelled w n) t at h (omega arith) in
    let b = le-ltb (length bs) (at + w) (omega arith) in
    let v = number_back w n bs t at l h in
    rw b (ap Ok v)

pub field_took : (w n : ℕ) (bs : List ℕ) (at : ℕ) → Bytes bs → field w bs at ≡ Ok n → (n ≡ number w bs at) × Took bs at (spelled w n) (at + w)
field_took w n bs at b h =
    let p = else_ok (ltb (length bs) (at + w)) (Ok (number w bs at)) (field_fault EndsEarly at) n h in
    let l = ltb-false (length bs) (at + w) p.0 in
    let e : n ≡ number w bs at = cc in
    (e, record { these = spelled_back w bs at b l ∙ ap (λ k. spelled w k ++ drop (at + w) bs) (sym e); inside_it = l })

-- past a number that was written
pub past_spelled : (w n : ℕ) (bs t : List ℕ) (at : ℕ) → drop at bs ≡ spelled w n ++ t → drop (at + w) bs ≡ t
past_spelled w n bs t at h = subst (λ k. drop (at + k) bs ≡ t) (length-spelled w n) (past bs (spelled w n) t at h)

pub limits_back : (low high width at n : ℕ) → within low high n ≡ true → in_limits low high width at n ≡ Ok (n, at + width)
limits_back low high width at n h = rw h

pub limits_took : (low high width at n m to : ℕ) → in_limits low high width at n ≡ Ok (m, to) → (within low high n ≡ true) × (m ≡ n) × (to ≡ at + width)
limits_took low high width at n m to h =
    let p = cond_ok (within low high n) (Ok (n, at + width)) (field_fault Limit at) (m, to) h in
    let q = same_read n m (at + width) to p.1 in
    (p.0, sym q.0, sym q.1)

pub required_back : (w low high n : ℕ) (bs t : List ℕ) (at : ℕ) → 0 < w → n < 256 ^ w → within low high n ≡ true → drop at bs ≡ spelled w n ++ t → Gives bs t (required w low high bs at) n
required_back w low high n bs t at z l k h =
    (at + w, rw (field_back w n bs t at z l h) (limits_back low high w at n k), past_spelled w n bs t at h)

pub required_took : (w low high n to : ℕ) (bs : List ℕ) (at : ℕ) → Bytes bs → required w low high bs at ≡ Ok (n, to) → (within low high n ≡ true) × Took bs at (spelled w n) to
required_took w low high n to bs at b h =
    let p = then_ok (field w bs at) (in_limits low high w at) (n, to) h in
    let q = limits_took low high w at p.0 n to p.2 in
    let f = field_took w p.0 bs at b p.1 in
    let e : p.0 ≡ n = sym q.1 in
    let g : at + w ≡ to = sym q.2 in
    (subst (λ k. within low high k ≡ true) e q.0, subst (λ k. Took bs at (spelled w k) to) e (subst (λ k. Took bs at (spelled w p.0) k) g f.1))

pub optional_back : (present : Bool) (w high n : ℕ) (bs t : List ℕ) (at : ℕ) → 0 < w → n < 256 ^ w → leb n high ≡ true → present ≡ not (is_zero n) → drop at bs ≡ spelled_unless_zero w n ++ t → Gives bs t (optional present w high bs at) n
optional_back true w high n bs t at z l k e h =
    let nz : is_zero n ≡ false = grind (arith, nat_tests) in
    let h2 = subst (λ b. drop at bs ≡ cond b [] (spelled w n) ++ t) nz h in
    let lim : within 1 high n ≡ true = grind (arith, nat_tests) in
    (at + w, rw (field_back w n bs t at z l h2) (rw nz (limits_back 1 high w at n lim)), past_spelled w n bs t at h2)
optional_back false w high n bs t at z l k e h =
    let nz : is_zero n ≡ true = grind (arith, nat_tests) in
    let n0 = eqb-true n 0 nz in
    let h2 = subst (λ b. drop at bs ≡ cond b [] (spelled w n) ++ t) nz h in
    (at, ap (λ m. Ok (m, at)) (sym n0), h2)

pub optional_took : (present : Bool) (w high n to : ℕ) (bs : List ℕ) (at : ℕ) → Bytes bs → at ≤ length bs → optional present w high bs at ≡ Ok (n, to) → (present ≡ not (is_zero n)) × (leb n high ≡ true) × Took bs at (spelled_unless_zero w n) to
optional_took true w high n to bs at b l h =
    let p = then_ok (field w bs at) (λ k. cond (eqb k 0) (Err (field_fault AbsentValue at)) (in_limits 1 high w at k)) (n, to) h in
    let y = p.0 in
    let c = else_ok (eqb y 0) (in_limits 1 high w at y) (field_fault AbsentValue at) (n, to) p.2 in
    let q = limits_took 1 high w at y n to c.1 in
    let f = field_took w y bs at b p.1 in
    let e : y ≡ n = sym q.1 in
    let g : at + w ≡ to = sym q.2 in
    let nz : is_zero n ≡ false = subst (λ k. is_zero k ≡ false) e c.0 in
    let lim : leb y high ≡ true = (and_parts (leb 1 y) (leb y high) q.0).1 in
    let t = subst (λ k. Took bs at (spelled w k) to) e (subst (λ k. Took bs at (spelled w y) k) g f.1) in
    (rw nz, subst (λ k. leb k high ≡ true) e lim, subst (λ k. Took bs at (cond k [] (spelled w n)) to) (sym nz) t)
optional_took false w high n to bs at b l h =
    let s = same_read 0 n at to h in
    let z = sym s.0 in
    let e = sym s.1 in
    let nz : is_zero n ≡ true = rw z in
    (rw nz, grind (arith, nat_tests), subst (λ k. Took bs at (cond k [] (spelled w n)) to) (sym nz) (subst (λ k. Took bs at [] k) (sym e) (took_none bs at l)))
