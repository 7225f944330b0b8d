-- The rules last over each call. Assumes nothing.
use Rattle.std.proofs.Common.{◌≡◌, ℕ, ◌+◌, ◌/◌, ◌^◌, ◌<◌, ◌≤◌, true, ltb, List, [], ◌∷◌, ◌++◌, length, None, refl, ◌∙◌, zero-add, arith, length-append, pow_mono}
use Rattle.std.specs.List.{list_all}
use Rattle.std.proofs.lemmas.Nat.{pow-add, pow_below}
use Rattle.std.proofs.lemmas.List.{length-set, nil_from_length}
use Rattle.std.proofs.lemmas.Bool.Decides.{nat_tests}
use Rattle.netlist.specs.Calls.{terms_of, with_terms, with_supply, menu_of, with_module, net_of, with_net}
use Rattle.netlist.specs.Netlist.{Netlist, lawful, in_order, modules, terms_lawful, supplies_lawful, menu_lawful, net_lawful, voltage_in_limits, voltage_follows, is_zero, choice_in_limits, choice_follows, no_choice, is_no_choice, names_supplies}
use Rattle.netlist.specs.Slots.{standing, absent, Menu, Supplies}
use Rattle.netlist.specs.declared.parts.Choice.{Choice}
use Rattle.netlist.proofs.Bools.{list_all_push, list_all_weaken, in_order_push}
use Rattle.netlist.proofs.Maps.{below_from_shr}
use Rattle.netlist.proofs.Places.{standing_add, absent_add, length_cleared, standing_cleared, absent_cleared}

pub record Kept (n : Netlist) : Type 0 where
  pub terms : terms_lawful n.terms ≡ true
  pub supplies : supplies_lawful n.supplies ≡ true
  pub few_modules : modules n ≤ 64
  pub menus : list_all (menu_lawful n.supplies.map) n.menus ≡ true
  pub few_nets : length n.nets ≤ 256
  pub nets : list_all (net_lawful (modules n)) n.nets ≡ true

pub kept : (n : Netlist) → lawful n ≡ true → Kept n
kept n h =
    record {
      terms = grind (arith, nat_tests);
      supplies = grind (arith, nat_tests);
      few_modules = grind (arith, nat_tests);
      menus = grind (arith, nat_tests);
      few_nets = grind (arith, nat_tests);
      nets = grind (arith, nat_tests);
    }

pub lawful_from : (n : Netlist) → Kept n → lawful n ≡ true
lawful_from n k = grind (arith, nat_tests, k.terms, k.supplies, k.few_modules, k.menus, k.few_nets, k.nets)

pub lawful_terms : (n : Netlist) (cycle delay power : ℕ) → lawful n ≡ true → terms_lawful (terms_of cycle delay power) ≡ true → lawful (with_terms n cycle delay power) ≡ true
lawful_terms n cycle delay power h t =
    let k = kept n h in
    lawful_from (with_terms n cycle delay power) (record {
      terms = t;
      supplies = k.supplies;
      few_modules = k.few_modules;
      menus = k.menus;
      few_nets = k.few_nets;
      nets = k.nets;
    })

pub record KeptSupplies (s : Supplies) : Type 0 where
  pub byte : s.map < 256
  pub eight : length s.values ≡ 8
  pub limits : list_all voltage_in_limits (standing s.map 0 s.values) ≡ true
  pub order : in_order voltage_follows None (standing s.map 0 s.values) ≡ true
  pub zeros : list_all is_zero (absent s.map 0 s.values) ≡ true

pub kept_supplies : (s : Supplies) → supplies_lawful s ≡ true → KeptSupplies s
kept_supplies s h =
    record {
      byte = grind (arith, nat_tests);
      eight = grind (arith, nat_tests);
      limits = grind (arith, nat_tests);
      order = grind (arith, nat_tests);
      zeros = grind (arith, nat_tests);
    }

pub supplies_lawful_from : (s : Supplies) → KeptSupplies s → supplies_lawful s ≡ true
supplies_lawful_from s k = grind (arith, nat_tests, k.byte, k.eight, k.limits, k.order, k.zeros)

pub lawful_supply : (n : Netlist) (number voltage : ℕ) → lawful n ≡ true → number ≤ 7 → voltage_in_limits voltage ≡ true → n.supplies.map / 2 ^ number ≡ 0 → list_all (ltb voltage) (standing n.supplies.map 0 n.supplies.values) ≡ true → modules n ≡ 0 → lawful (with_supply n number voltage) ≡ true
lawful_supply n number voltage h l v b a m =
    let k = kept n h in
    let s = n.supplies in
    let q = kept_supplies s k.supplies in
    let below = below_from_shr s.map number b in
    let t = (with_supply n number voltage).supplies in
    let e : standing t.map 0 t.values ≡ standing s.map 0 s.values ++ voltage ∷ [] =
    standing_add s.map number 0 number s.values voltage (zero-add number) below (omega arith) in
    let p = pow_below number 8 (omega arith) in
    let d = pow-add 2 number 1 in
    let g : number + 1 ≤ 8 = omega arith in
    let g2 : 2 ^ (number + 1) ≤ 2 ^ 8 = pow_mono g in
    lawful_from (with_supply n number voltage) (record {
      terms = k.terms;
      supplies = supplies_lawful_from t (record {
        byte = omega arith;
        eight = simp length-set q.eight;
        limits = rw e (list_all_push voltage_in_limits (standing s.map 0 s.values) voltage q.limits v);
        order = rw e (in_order_push voltage_follows None (standing s.map 0 s.values) voltage q.order a refl);
        zeros = absent_add is_zero s.map number s.values voltage below q.zeros;
      });
      few_modules = k.few_modules;
      menus = rw (nil_from_length n.menus m);
      few_nets = k.few_nets;
      nets = k.nets;
    })

pub record KeptMenu (supplies : ℕ) (m : Menu) : Type 0 where
  pub named : names_supplies supplies m.map ≡ true
  pub eight : length m.values ≡ 8
  pub limits : list_all choice_in_limits (standing m.map 0 m.values) ≡ true
  pub order : in_order choice_follows None (standing m.map 0 m.values) ≡ true
  pub zeros : list_all is_no_choice (absent m.map 0 m.values) ≡ true

pub kept_menu : (supplies : ℕ) (m : Menu) → menu_lawful supplies m ≡ true → KeptMenu supplies m
kept_menu supplies m h =
    record {
      named = grind (arith, nat_tests);
      eight = grind (arith, nat_tests);
      limits = grind (arith, nat_tests);
      order = grind (arith, nat_tests);
      zeros = grind (arith, nat_tests);
    }

pub menu_lawful_from : (supplies : ℕ) (m : Menu) → KeptMenu supplies m → menu_lawful supplies m ≡ true
menu_lawful_from supplies m k = grind (arith, nat_tests, k.named, k.eight, k.limits, k.order, k.zeros)

pub lawful_module : (n : Netlist) (map : ℕ) (choices : List Choice) → lawful n ≡ true → length choices ≡ 8 → list_all choice_in_limits (standing map 0 choices) ≡ true → in_order choice_follows None (standing map 0 choices) ≡ true → names_supplies n.supplies.map map ≡ true → modules n < 64 → lawful (with_module n map choices) ≡ true
lawful_module n map choices h e a b s l =
    let k = kept n h in
    let m = menu_of map choices in
    let f = standing_cleared no_choice map 0 choices in
    let g : menu_lawful n.supplies.map m ≡ true = menu_lawful_from n.supplies.map m (record {
      named = s;
      eight = length_cleared no_choice map 0 choices ∙ e;
      limits = rw f a;
      order = rw f b;
      zeros = absent_cleared no_choice map is_no_choice refl 0 choices;
    }) in
    let c : length (n.menus ++ m ∷ []) ≡ modules n + 1 = length-append n.menus (m ∷ []) in
    lawful_from (with_module n map choices) (record {
      terms = k.terms;
      supplies = k.supplies;
      few_modules = omega arith;
      menus = list_all_push (menu_lawful n.supplies.map) n.menus m k.menus g;
      few_nets = k.few_nets;
      nets = list_all_weaken (net_lawful (modules n)) (net_lawful (length (n.menus ++ m ∷ []))) n.nets (λ t j. grind (arith, nat_tests)) k.nets;
    })

pub lawful_net : (n : Netlist) (driver receiver wire : ℕ) → lawful n ≡ true → wire ≤ 10000 → driver < receiver → receiver < modules n → length n.nets < 256 → lawful (with_net n driver receiver wire) ≡ true
lawful_net n driver receiver wire h w d r l =
    let k = kept n h in
    let t = net_of driver receiver wire in
    let e : net_lawful (modules n) t ≡ true = grind (arith, nat_tests) in
    lawful_from (with_net n driver receiver wire) (record {
      terms = k.terms;
      supplies = k.supplies;
      few_modules = k.few_modules;
      menus = k.menus;
      few_nets = simp length-append (omega arith);
      nets = list_all_push (net_lawful (modules n)) n.nets t k.nets e;
    })
