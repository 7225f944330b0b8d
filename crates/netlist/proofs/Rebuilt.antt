-- The parts of a lawful design are accepted by a draft, one by one, and give the design again. Assumes nothing.
use Rattle.std.proofs.Common.{◌≡◌, ℕ, suc, ◌+◌, ◌-◌, ◌%◌, ◌^◌, ◌<◌, true, false, ltb, List, [], ◌∷◌, ◌++◌, length, get_or, take, set, replicate, None, sym, ap, ◌∙◌, ap₂, arith}
use Rattle.std.specs.List.{list_all}
use Rattle.std.proofs.lemmas.Nat.{pow_pos, mod_below}
use Rattle.std.proofs.lemmas.List.{append-nil, append_assoc, length-take-le, get_or_append_left, get_or-take, get_or_default, set_at, take_all, take_more}
use Rattle.std.proofs.lemmas.Bool.{eqb-true}
use Rattle.std.proofs.lemmas.Bool.Decides.{nat_tests}
use Rattle.netlist.specs.declared.parts.Terms.{Terms}
use Rattle.netlist.specs.declared.parts.Choice.{Choice}
use Rattle.netlist.specs.declared.parts.Net.{Net}
use Rattle.netlist.specs.Calls.{terms_rules, supply_rules, with_supply, module_rules, with_module, menu_of, net_rules}
use Rattle.netlist.specs.Netlist.{Netlist, netlist, modules, terms_lawful, supplies_lawful, menu_lawful, net_lawful, voltage_in_limits, voltage_follows, is_zero, no_choice, is_no_choice, no_supplies}
use Rattle.netlist.specs.Refusals.{first_broken}
use Rattle.netlist.specs.Slots.{bit, standing, Menu, Supplies}
use Rattle.netlist.proofs.Kept.{kept_menu, kept_supplies}
use Rattle.netlist.proofs.Maps.{shr_none, bit_mod_low, bit_mod_in, mod_stands, mod_skips}
use Rattle.netlist.proofs.Places.{standing_at, standing_from, absent_at, order_at, cleared_same}
use Rattle.netlist.proofs.Words.{voltages_chain}

-- terms
pub terms_accepted : (t : Terms) → terms_lawful t ≡ true → first_broken (terms_rules t.cycle t.shifter.delay t.shifter.power) ≡ None
terms_accepted t h = grind (arith, nat_tests)

-- modules
pub module_accepted : (n : Netlist) (m : Menu) → menu_lawful n.supplies.map m ≡ true → modules n < 64 → first_broken (module_rules n m.map m.values) ≡ None
module_accepted n m h l = grind (arith, nat_tests)

pub is_none : (c : Choice) → is_no_choice c ≡ true → c ≡ no_choice
is_none c h =
    let d : c.delay ≡ 0 = grind (arith, nat_tests) in
    let p : c.power ≡ 0 = grind (arith, nat_tests) in
    ap₂ (λ (x y : ℕ). record { delay = x; power = y }) d p

pub menu_same : (supplies : ℕ) (m : Menu) → menu_lawful supplies m ≡ true → menu_of m.map m.values ≡ m
menu_same supplies m h =
    let k = kept_menu supplies m h in
    ap (λ cs. record { map = m.map; values = cs }) (cleared_same no_choice m.map is_no_choice is_none 0 m.values k.zeros)

pub module_added : (n : Netlist) (m : Menu) → menu_lawful n.supplies.map m ≡ true → with_module n m.map m.values ≡ netlist n.terms n.supplies (n.menus ++ m ∷ []) n.nets
module_added n m h = ap (λ x. netlist n.terms n.supplies (n.menus ++ x ∷ []) n.nets) (menu_same n.supplies.map m h)

-- nets
pub net_accepted : (n : Netlist) (t : Net) → net_lawful (modules n) t ≡ true → length n.nets < 256 → first_broken (net_rules n t.driver t.receiver t.wire) ≡ None
net_accepted n t h l = grind (arith, nat_tests)

-- supplies: those numbered below k
abbrev pub filled : ℕ → List ℕ → List ℕ
filled k vs = take k vs ++ replicate (8 - k) 0

abbrev pub front : Supplies → ℕ → Supplies
front s k = record { map = s.map % 2 ^ k; values = filled k s.values }

module _ (vs : List ℕ) (e : length vs ≡ 8) (k : ℕ) (l : k < 8) where
  filled_here : filled k vs ≡ take k vs ++ 0 ∷ replicate (8 - (k + 1)) 0
  filled_here = let r : 8 - k ≡ suc (8 - (k + 1)) = omega arith in ap (λ (j : ℕ). take k vs ++ replicate j 0) r

  filled_more : filled (k + 1) vs ≡ take k vs ++ get_or vs k 0 ∷ replicate (8 - (k + 1)) 0
  filled_more =
      ap (λ xs. xs ++ replicate (8 - (k + 1)) 0) (take_more vs k 0 (omega arith)) ∙ append_assoc (take k vs) (get_or vs k 0 ∷ []) (replicate (8 - (k + 1)) 0)

  filled_set : set (filled k vs) k (get_or vs k 0) ≡ filled (k + 1) vs
  filled_set =
      ap (λ xs. set xs k (get_or vs k 0)) filled_here
      ∙ set_at (take k vs) 0 (replicate (8 - (k + 1)) 0) (get_or vs k 0) k (length-take-le k vs (omega arith))
      ∙ sym filled_more

  filled_at : (i d : ℕ) → i < k → get_or (filled k vs) i d ≡ get_or vs i 0
  filled_at i d h =
      let b = length-take-le k vs (omega arith) in
      get_or_append_left (take k vs) (replicate (8 - k) 0) d i (omega arith) ∙ get_or-take k vs i d h ∙ get_or_default vs i d 0 (omega arith)

pub front_none : (s : Supplies) → front s 0 ≡ no_supplies
front_none s = let e : s.map % 1 ≡ 0 = omega arith in ap (λ (x : ℕ). record { map = x; values = replicate 8 0 }) e

module _ (s : Supplies) (h : supplies_lawful s ≡ true) where
  pub front_all : front s 8 ≡ s
  front_all =
      let q = kept_supplies s h in
      let b = q.byte in
      let l = q.eight in
      let m : s.map % 256 ≡ s.map = omega arith in
      let v : filled 8 s.values ≡ s.values = append-nil (take 8 s.values) ∙ take_all 8 s.values (omega arith) in
      ap₂ (λ (x : ℕ) (y : List ℕ). record { map = x; values = y }) m v

  module _ (k : ℕ) (l : k < 8) where
    -- a number without a supply is passed over
    pub front_skips : bit s.map k ≡ false → front s (k + 1) ≡ front s k
    front_skips b =
        let q = kept_supplies s h in
        let e = q.eight in
        let z = eqb-true (get_or s.values k 0) 0 (absent_at s.map s.values is_zero q.zeros k 0 (omega arith) b) in
        let v : filled (k + 1) s.values ≡ filled k s.values =
        filled_more s.values e k l
        ∙ ap (λ (x : ℕ). take k s.values ++ x ∷ replicate (8 - (k + 1)) 0) z
        ∙ sym (filled_here s.values e k l) in
        ap₂ (λ (x : ℕ) (y : List ℕ). record { map = x; values = y }) (mod_skips s.map k b) v

    -- a supply is accepted after those below it, and gives the next front
    module _ (n : Netlist) (f : n.supplies ≡ front s k) (b : bit s.map k ≡ true) where
      pub supply_added : with_supply n k (get_or s.values k 0) ≡ netlist n.terms (front s (k + 1)) n.menus n.nets
      supply_added =
          let q = kept_supplies s h in
          let v = get_or s.values k 0 in
          let g : Supplies → Netlist = λ t. netlist n.terms (record { map = t.map + 2 ^ k; values = set t.values k v }) n.menus n.nets in
          ap g f
          ∙ ap₂ (λ (x : ℕ) (y : List ℕ). netlist n.terms (record { map = x; values = y }) n.menus n.nets) (sym (mod_stands s.map k b)) (filled_set s.values q.eight k l)

      below_front : list_all (ltb (get_or s.values k 0)) (standing (front s k).map 0 (front s k).values) ≡ true
      below_front =
          let q = kept_supplies s h in
          let vs = s.values in
          let e = q.eight in
          standing_from (s.map % 2 ^ k) (filled k vs) (ltb (get_or vs k 0)) (λ i d t a.
          let c = bit_mod_in s.map k i a in
          rw (filled_at vs e k l i d c) (order_at s.map vs voltage_follows voltages_chain q.order i k 0 c (omega arith) (sym (bit_mod_low s.map k i c) ∙ a) b))

      pub supply_accepted : modules n ≡ 0 → first_broken (supply_rules n k (get_or s.values k 0)) ≡ None
      supply_accepted m =
          let q = kept_supplies s h in
          let e = q.eight in
          let v = standing_at s.map s.values voltage_in_limits q.limits k 0 (omega arith) b in
          let a = below_front in
          let z = shr_none (s.map % 2 ^ k) k (mod_below s.map (2 ^ k) (pow_pos k)) in
          rw f (grind (arith, nat_tests))
