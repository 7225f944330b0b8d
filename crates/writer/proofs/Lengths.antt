-- How long a record can be. Assumes nothing.
use Rattle.std.proofs.Common.{◌≡◌, ℕ, ◌+◌, ◌*◌, ◌≤◌, Bool, true, cond, List, [], ◌∷◌, length, mul-suc, arith}
use Rattle.std.specs.List.{list_all}
use Rattle.std.proofs.lemmas.List.{length-append}
use Rattle.std.proofs.lemmas.Bool.{and_parts}
use Rattle.std.proofs.lemmas.Bool.Decides.{nat_tests}
use Rattle.netlist.specs.declared.parts.Net.{Net}
use Rattle.netlist.specs.Netlist.{Netlist, lawful, modules, supplies_lawful, menu_lawful, net_lawful}
use Rattle.netlist.specs.Slots.{bit, Menu, Supplies}
use Rattle.netlist.proofs.Kept.{kept, kept_supplies, kept_menu}
use Rattle.record.specs.Fields.{spelled}
use Rattle.record.specs.Record.{spelled_unless_zero, head_bytes, slot_bytes, supplies_bytes, choice_bytes, menu_bytes, net_bytes, all_bytes, record_of}
use Rattle.record.proofs.Spelled.{length-spelled}

optional_most : (w n : ℕ) → length (spelled_unless_zero w n) ≤ w
optional_most w n = let l = length-spelled w n in grind (arith, nat_tests)

slot_most : (used : Bool) (bytes : List ℕ) → length (cond used bytes []) ≤ length bytes
slot_most used bytes = grind (arith, nat_tests)

module _ {T : Type 0} (spell : T → List ℕ) (w : ℕ) where
  slots_most : ((x : T) → length (spell x) ≤ w) → (map i : ℕ) (xs : List T) → length (slot_bytes spell map i xs) ≤ w * length xs
  slots_most h map i [] = omega arith
  slots_most h map i (x ∷ xs) =
      let l = slot_most (bit map i) (spell x) in
      let m = mul-suc w (length xs) in
      simp length-append (omega (arith, h x, slots_most h map (i + 1) xs))

  all_most : (test : T → Bool) → ((x : T) → test x ≡ true → length (spell x) ≤ w) → (xs : List T) → list_all test xs ≡ true → length (all_bytes spell xs) ≤ w * length xs
  all_most test h [] t = omega arith
  all_most test h (x ∷ xs) t =
      let p = and_parts (test x) (list_all test xs) t in
      let m = mul-suc w (length xs) in
      simp length-append (omega (arith, h x p.0, all_most test h xs p.1))

head_most : (n : Netlist) → length (head_bytes n) ≤ 12
head_most n = simp length-append (omega (arith, optional_most))

supplies_most : (s : Supplies) → supplies_lawful s ≡ true → length (supplies_bytes s) ≤ 17
supplies_most s h =
    let e = (kept_supplies s h).eight in
    let a = slots_most (spelled 2) 2 (λ v. omega arith) s.map 0 s.values in
    omega arith

menu_most : (supplies : ℕ) (m : Menu) → menu_lawful supplies m ≡ true → length (menu_bytes m) ≤ 49
menu_most supplies m h =
    let e = (kept_menu supplies m h).eight in
    let a = slots_most choice_bytes 6 (λ v. omega arith) m.map 0 m.values in
    omega arith

net_most : (t : Net) → length (net_bytes t) ≤ 5
net_most t = omega (arith, optional_most)

-- the longest: a head of 12 bytes, supplies of 17, 64 menus of 49 and 256 nets of 5
pub record_most : (n : Netlist) → lawful n ≡ true → length (record_of n) ≤ 4445
record_most n l =
    let k = kept n l in
    let t = supplies_most n.supplies k.supplies in
    let m = all_most menu_bytes 49 (menu_lawful n.supplies.map) (menu_most n.supplies.map) n.menus k.menus in
    let q = all_most net_bytes 5 (net_lawful (modules n)) (λ x _. net_most x) n.nets k.nets in
    simp length-append (omega (arith, optional_most))
