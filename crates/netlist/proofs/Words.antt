-- A lawful design keeps the rules in plain words. Assumes nothing.
use Rattle.std.proofs.Common.{◌≡◌, ℕ, ◌<◌, true, length, Some, inl, inr, arith}
use lib.Bits.{bit_and}
use Rattle.std.proofs.lemmas.Nat.{pow_pos, and_le_r}
use Rattle.std.proofs.lemmas.List.{get_or_past}
use Rattle.std.proofs.lemmas.Bool.{cases_lt, both_ways}
use Rattle.std.proofs.lemmas.Bool.Decides.{nat_tests}
use Rattle.netlist.specs.declared.parts.Choice.{Choice}
use Rattle.netlist.specs.Netlist.{Netlist, lawful, modules, menu_lawful, net_lawful, voltage_in_limits, voltage_follows, choice_in_limits, choice_follows, no_choice}
use Rattle.netlist.specs.Rules.{Rules, Supply, Offered, voltage, menu, choice, net, no_menu, no_net}
use Rattle.netlist.specs.Slots.{bit}
use Rattle.netlist.proofs.Bools.{list_all_get}
use Rattle.netlist.proofs.Kept.{Kept, KeptSupplies, KeptMenu, kept, kept_supplies, kept_menu}
use Rattle.netlist.proofs.Maps.{bit_past, bit_in_byte, some_bit, bit_within}
use Rattle.netlist.proofs.Places.{standing_at, order_at}

pub voltages_chain : (x y z : ℕ) → voltage_follows (Some x) y ≡ true → voltage_follows (Some y) z ≡ true → voltage_follows (Some x) z ≡ true
voltages_chain x y z a b = grind (arith, nat_tests)

pub choices_chain : (x y z : Choice) → choice_follows (Some x) y ≡ true → choice_follows (Some y) z ≡ true → choice_follows (Some x) z ≡ true
choices_chain x y z a b = grind (arith, nat_tests)

module _ (n : Netlist) (h : lawful n ≡ true) where
  all : Kept n
  all = kept n h

  supplies : KeptSupplies n.supplies
  supplies = kept_supplies n.supplies all.supplies

  in_byte : (i : ℕ) → Supply n i → i < 8
  in_byte i b = bit_in_byte n.supplies.map i supplies.byte b

  -- past the last module nothing is offered
  offered : (m i : ℕ) → Offered n m i → m < modules n
  offered m i b =
      elim (cases_lt m (modules n)) [
        | inl l ↦ l
        | inr l ↦ let e = get_or_past n.menus m no_menu l in absurd (both_ways (bit 0 i) (bit_past 0 i (pow_pos i)) (rw e at b))
      ]

  pub kept_at : (m : ℕ) → m < modules n → KeptMenu n.supplies.map (menu n m)
  kept_at m l = kept_menu n.supplies.map (menu n m) (list_all_get (menu_lawful n.supplies.map) n.menus all.menus m no_menu l)

  within_design : (m : ℕ) → m < modules n → bit_and (menu n m).map n.supplies.map ≡ (menu n m).map
  within_design m l = let k = (kept_at m l).named in grind (arith, nat_tests)

  of_design : (m i : ℕ) → Offered n m i → Supply n i
  of_design m i b = bit_within (menu n m).map n.supplies.map i (within_design m (offered m i b)) b

  pub menu_byte : (m : ℕ) → m < modules n → (menu n m).map < 256
  menu_byte m l =
      let e = within_design m l in
      let w = and_le_r (menu n m).map n.supplies.map in
      let s = supplies.byte in
      omega arith

  offer : (m : ℕ) → m < modules n → (i : ℕ) × Offered n m i
  offer m l =
      let k = (kept_at m l).named in
      let z : 0 < (menu n m).map = grind (arith, nat_tests) in
      some_bit 8 (menu n m).map z (menu_byte m l)

  place : (m i : ℕ) → Offered n m i → i < length (menu n m).values
  place m i b = let e = (kept_at m (offered m i b)).eight in let l = in_byte i (of_design m i b) in omega arith

  limits_at : (m i : ℕ) → Offered n m i → choice_in_limits (choice n m i) ≡ true
  limits_at m i b = standing_at (menu n m).map (menu n m).values choice_in_limits (kept_at m (offered m i b)).limits i no_choice (place m i b) b

  follows_at : (m i j : ℕ) → i < j → Offered n m i → Offered n m j → choice_follows (Some (choice n m i)) (choice n m j) ≡ true
  follows_at m i j l a b =
      order_at (menu n m).map (menu n m).values choice_follows choices_chain (kept_at m (offered m i a)).order i j no_choice l (place m j b) a b

  voltage_place : (i : ℕ) → Supply n i → i < length n.supplies.values
  voltage_place i b = let e = supplies.eight in let l = in_byte i b in omega arith

  voltage_limits_at : (i : ℕ) → Supply n i → voltage_in_limits (voltage n i) ≡ true
  voltage_limits_at i b = standing_at n.supplies.map n.supplies.values voltage_in_limits supplies.limits i 0 (voltage_place i b) b

  voltage_follows_at : (i j : ℕ) → i < j → Supply n i → Supply n j → voltage_follows (Some (voltage n i)) (voltage n j) ≡ true
  voltage_follows_at i j l a b =
      order_at n.supplies.map n.supplies.values voltage_follows voltages_chain supplies.order i j 0 l (voltage_place j b) a b

  net_at : (i : ℕ) → i < length n.nets → net_lawful (modules n) (net n i) ≡ true
  net_at i l = list_all_get (net_lawful (modules n)) n.nets all.nets i no_net l

  pub keeps_rules : Rules n
  keeps_rules =
      let t = all.terms in
      record {
        cycle_time = (grind (arith, nat_tests), grind (arith, nat_tests));
        shifter_delay = grind (arith, nat_tests);
        shifter_power = grind (arith, nat_tests);
        supply_numbers = λ i b. let l = in_byte i b in omega arith;
        voltages = λ i b. let k = voltage_limits_at i b in (grind (arith, nat_tests), grind (arith, nat_tests));
        voltages_fall = λ i j l a b. let k = voltage_follows_at i j l a b in grind (arith, nat_tests);
        at_most_64 = all.few_modules;
        menus_offer = offer;
        of_the_design = of_design;
        delays = λ m i b. let k = limits_at m i b in (grind (arith, nat_tests), grind (arith, nat_tests));
        powers = λ m i b. let k = limits_at m i b in (grind (arith, nat_tests), grind (arith, nat_tests));
        delays_rise = λ m i j l a b. let k = follows_at m i j l a b in grind (arith, nat_tests);
        powers_fall = λ m i j l a b. let k = follows_at m i j l a b in grind (arith, nat_tests);
        at_most_256 = all.few_nets;
        ends = λ i l. let k = net_at i l in (grind (arith, nat_tests), grind (arith, nat_tests));
        wires = λ i l. let k = net_at i l in grind (arith, nat_tests);
      }
