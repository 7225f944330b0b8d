-- A draft filled part by part with a lawful design: each call is accepted, and gives one part more. Assumes nothing.
use Rattle.std.proofs.Common.{◌≡◌, ℕ, ◌+◌, ◌<◌, ◌≤◌, true, List, [], ◌∷◌, zero, suc, inl, inr, length, get_or, take, drop, None, Option, sym, refl, ap, ◌∙◌, subst, arith}
use Rattle.std.specs.List.{list_all}
use Rattle.std.proofs.lemmas.List.{take_more, length-take-le}
use Rattle.netlist.specs.declared.parts.Net.{Net}
use Rattle.netlist.specs.declared.parts.Terms.{Terms}
use Rattle.netlist.specs.Calls.{supply_rules, with_supply, module_rules, with_module}
use Rattle.netlist.specs.Netlist.{Netlist, netlist, no_supplies, supplies_lawful, menu_lawful}
use Rattle.netlist.specs.Refusals.{first_broken, unless_refused}
use Rattle.netlist.specs.Slots.{bit, used, Menu, Supplies}
use Rattle.std.proofs.lemmas.Bool.{cases_Bool}
use Rattle.std.proofs.lemmas.List.{at_drop_all, at_drop_more}
use Rattle.netlist.proofs.Bools.{list_all_get}
use Rattle.netlist.proofs.Kept.{kept_supplies}
use Rattle.netlist.proofs.Rebuilt.{front, front_none, front_all, front_skips, supply_added, supply_accepted, module_accepted, module_added}

-- what is in force after a call that breaks no rule
pub in_force : {T : Type 0} (o p : Option ℕ) (x old new : T) → o ≡ p → p ≡ None → x ≡ unless_refused o old new → x ≡ new
in_force o p x old new e n h = rw (e ∙ n) at h

-- Supplies, one after another: that each is accepted, and what is there then
abbrev pub Accepts : Netlist → List (ℕ × ℕ) → Type 0
Accepts n [] = Unit {0}
Accepts n (p ∷ ps) = (first_broken (supply_rules n p.0 p.1) ≡ None) × Accepts (with_supply n p.0 p.1) ps

abbrev pub with_all : Netlist → List (ℕ × ℕ) → Netlist
with_all n [] = n
with_all n (p ∷ ps) = with_all (with_supply n p.0 p.1) ps

module _ (s : Supplies) (h : supplies_lawful s ≡ true) where
  module _ (t : Terms) (ms : List Menu) (ns : List Net) where
    abbrev upto : ℕ → Netlist
    upto k = netlist t (front s k) ms ns

    -- every supply is accepted where it is added after those before it, and then all are there
    filled_from : length ms ≡ 0 → (d k : ℕ) → d + k ≡ 8 → Accepts (upto k) (used s.map k (drop k s.values)) × (with_all (upto k) (used s.map k (drop k s.values)) ≡ upto 8)
    filled_from z zero k e =
        let l : length s.values ≤ k = let q = (kept_supplies s h).eight in omega arith in
        let a : used s.map k (drop k s.values) ≡ [] = at_drop_all (used s.map k) s.values k l in
        let w : k ≡ 8 = omega arith in rw a (tt, ap upto w)
    filled_from z (suc d) k e =
        let v = get_or s.values k 0 in
        let l : k < length s.values = let q = (kept_supplies s h).eight in omega arith in
        let a = at_drop_more (used s.map k) s.values k 0 l in
        let r = filled_from z d (k + 1) (omega arith) in
        elim (cases_Bool (bit s.map k)) [
          | inl b ↦
              let us = used s.map (k + 1) (drop (k + 1) s.values) in
              let F : Netlist → Type 0 = λ n. Accepts n us × (with_all n us ≡ upto 8) in
              let p : F (with_supply (upto k) k v) = subst F (sym (supply_added s h k (omega arith) (upto k) refl b)) r in
              rw (a, b) ((supply_accepted s h k (omega arith) (upto k) refl b z, p.0), p.1)
          | inr b ↦ rw (a, b, ← front_skips s h k (omega arith) b) r
        ]

    pub supplies_filled : length ms ≡ 0 → Accepts (netlist t no_supplies ms ns) (used s.map 0 s.values) × (with_all (netlist t no_supplies ms ns) (used s.map 0 s.values) ≡ netlist t s ms ns)
    supplies_filled z =
        let us = used s.map 0 s.values in
        let F : Supplies → Supplies → Type 0 = λ x y. Accepts (netlist t x ms ns) us × (with_all (netlist t x ms ns) us ≡ netlist t y ms ns) in
        let r : F (front s 0) (front s 8) = filled_from z 8 0 refl in
        subst (λ y. F no_supplies y) (front_all s h) (subst (λ x. F x (front s 8)) (front_none s) r)

-- Modules
module _ (t : Terms) (s : Supplies) (menus : List Menu) (few : length menus ≤ 64) (h : list_all (menu_lawful s.map) menus ≡ true) (ns : List Net) where
  abbrev some_menus : ℕ → Netlist
  some_menus m = netlist t s (take m menus) ns

  pub menus_put : (k : ℕ) → k < length menus → (d : Menu) (n r : Netlist) (o : Option ℕ) → n ≡ some_menus k →
      o ≡ first_broken (module_rules n (get_or menus k d).map (get_or menus k d).values) →
      r ≡ unless_refused o n (with_module n (get_or menus k d).map (get_or menus k d).values) → r ≡ some_menus (k + 1)
  menus_put k l d n r o e a f =
      let m = get_or menus k d in
      let q = list_all_get (menu_lawful s.map) menus h k d l in
      let c = length-take-le k menus (omega arith) in
      let ok : first_broken (module_rules n m.map m.values) ≡ None =
      ap (λ x. first_broken (module_rules x m.map m.values)) e ∙ module_accepted (some_menus k) m q (omega arith) in
      in_force o (first_broken (module_rules n m.map m.values)) r n (with_module n m.map m.values) a ok f
      ∙ (ap (λ x. with_module x m.map m.values) e
      ∙ (module_added (some_menus k) m q ∙ ap (λ x. netlist t s x ns) (sym (take_more menus k d l))))
