-- A lawful design holds nothing beyond its meaning. Assumes nothing.
use Rattle.std.proofs.Common.{◌≡◌, ℕ, zero, suc, ◌+◌, ◌%◌, ◌^◌, ◌<◌, Bool, true, List, length, get_or, sym, ap, ◌∙◌, ap₂, inl, inr, arith}
use Rattle.std.specs.List.{list_all}
use Rattle.std.proofs.lemmas.List.{ext_get_or}
use Rattle.std.proofs.lemmas.Bool.{cases_Bool, eqb-true}
use Rattle.netlist.specs.declared.parts.Choice.{Choice}
use Rattle.netlist.specs.declared.parts.Net.{Net}
use Rattle.netlist.specs.declared.parts.Terms.{Terms}
use Rattle.netlist.specs.Meaning.{SameMeaning}
use Rattle.netlist.specs.Netlist.{Netlist, netlist, lawful, modules, is_zero, no_choice, is_no_choice}
use Rattle.netlist.specs.Rules.{menu, no_menu, no_net}
use Rattle.netlist.specs.Slots.{bit, absent, Menu, Supplies}
use Rattle.netlist.proofs.Kept.{kept, kept_supplies}
use Rattle.netlist.proofs.Maps.{mod_stands, mod_skips}
use Rattle.netlist.proofs.Rebuilt.{is_none}
use Rattle.netlist.proofs.Places.{absent_at}
use Rattle.netlist.proofs.Words.{kept_at, menu_byte}

-- maps with the same bits below k are the same below 2 ^ k
mod_same : (k a b : ℕ) → ((i : ℕ) → i < k → bit a i ≡ bit b i) → a % 2 ^ k ≡ b % 2 ^ k
mod_same zero a b h = omega arith
mod_same (suc k) a b h =
    let r = mod_same k a b (λ i l. h i (omega arith)) in
    let s = h k (omega arith) in
    let e : suc k ≡ k + 1 = omega arith in
    let m : a % 2 ^ (k + 1) ≡ b % 2 ^ (k + 1) =
    elim (cases_Bool (bit a k)) [
      | inl t ↦ mod_stands a k t ∙ ap (λ (x : ℕ). x + 2 ^ k) r ∙ sym (mod_stands b k (sym s ∙ t))
      | inr t ↦ mod_skips a k t ∙ r ∙ sym (mod_skips b k (sym s ∙ t))
    ] in
    rw e m

maps_same : (a b : ℕ) → a < 256 → b < 256 → ((i : ℕ) → bit a i ≡ bit b i) → a ≡ b
maps_same a b p q h = let m : a % 256 ≡ b % 256 = mod_same 8 a b (λ i l. h i) in omega arith

-- tables with the same values under a map, and nothing at the other places
tables_same : {T : Type 0} (none : T) (test : T → Bool) → ((x : T) → test x ≡ true → x ≡ none) → (map : ℕ) (xs ys : List T) → length xs ≡ length ys → list_all test (absent map 0 xs) ≡ true → list_all test (absent map 0 ys) ≡ true → ((i : ℕ) → bit map i ≡ true → get_or xs i none ≡ get_or ys i none) → xs ≡ ys
tables_same none test t map xs ys e p q h =
    ext_get_or none xs ys e (λ i l.
    elim (cases_Bool (bit map i)) [
      | inl b ↦ h i b
      | inr b ↦ t (get_or xs i none) (absent_at map xs test p i none l b) ∙ sym (t (get_or ys i none) (absent_at map ys test q i none (omega arith) b))
    ])

module _ (a b : Netlist) (h : lawful a ≡ true) (g : lawful b ≡ true) (s : SameMeaning a b) where
  supplies_same : a.supplies ≡ b.supplies
  supplies_same =
      let p = kept_supplies a.supplies (kept a h).supplies in
      let q = kept_supplies b.supplies (kept b g).supplies in
      let e = maps_same a.supplies.map b.supplies.map p.byte q.byte s.same_supplies in
      let v = tables_same 0 is_zero (λ x. eqb-true x 0) a.supplies.map a.supplies.values b.supplies.values (p.eight ∙ sym q.eight) p.zeros (rw e q.zeros) s.same_voltages in
      ap₂ (λ (x : ℕ) (y : List ℕ). record { map = x; values = y }) e v

  menu_same : (m : ℕ) → m < modules a → menu a m ≡ menu b m
  menu_same m l =
      let w = s.as_many_modules in
      let k : m < modules b = omega arith in
      let p = kept_at a h m l in
      let q = kept_at b g m k in
      let e = maps_same (menu a m).map (menu b m).map (menu_byte a h m l) (menu_byte b g m k) (λ i. s.same_offers m i l) in
      let c = tables_same no_choice is_no_choice is_none (menu a m).map (menu a m).values (menu b m).values (p.eight ∙ sym q.eight) p.zeros (rw e q.zeros) (λ i o. s.same_choices m i l o) in
      ap₂ (λ (x : ℕ) (y : List Choice). record { map = x; values = y }) e c

  menus_same : a.menus ≡ b.menus
  menus_same = ext_get_or no_menu a.menus b.menus s.as_many_modules menu_same

  nets_same : a.nets ≡ b.nets
  nets_same = ext_get_or no_net a.nets b.nets s.as_many_nets s.same_nets

  pub same_meaning : a ≡ b
  same_meaning =
      ap₂ (λ (t : Terms) (u : Supplies). netlist t u a.menus a.nets) s.same_terms supplies_same
      ∙ ap₂ (λ (ms : List Menu) (ns : List Net). netlist b.terms b.supplies ms ns) menus_same nets_same
