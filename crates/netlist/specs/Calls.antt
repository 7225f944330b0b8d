-- The calls of a draft: the rules that each can break, in rising number, and what it does. Assumes nothing.
use Rattle.std.specs.Prelude.{ℕ, ◌+◌, ◌/◌, ◌^◌, not, ◌&&◌, List, [], ◌∷◌, ◌++◌, length, None, ◌==◌, nat_le, nat_lt, slice_set}
use Rattle.std.specs.List.{list_all}
use Rattle.netlist.specs.declared.parts.Terms.{Terms}
use Rattle.netlist.specs.declared.parts.Choice.{Choice}
use Rattle.netlist.specs.declared.parts.Net.{Net}
use Rattle.netlist.specs.Refusals.{Rule}
use Rattle.netlist.specs.Slots.{standing, cleared, Menu}
use Rattle.netlist.specs.Netlist.{Netlist, netlist, modules, in_order, terms_lawful, voltage_in_limits, choice_in_limits, choice_follows, no_choice, names_supplies, joins}

-- terms
abbrev pub terms_of : ℕ → ℕ → ℕ → Terms
terms_of cycle delay power = record { cycle = cycle; shifter = record { delay = delay; power = power } }

abbrev pub terms_rules : ℕ → ℕ → ℕ → List Rule
terms_rules cycle delay power = (5, not (terms_lawful (terms_of cycle delay power))) ∷ []

abbrev pub with_terms : Netlist → ℕ → ℕ → ℕ → Netlist
with_terms n cycle delay power = netlist (terms_of cycle delay power) n.supplies n.menus n.nets

-- supply: its number is above the others and its voltage below theirs
abbrev pub supply_rules : Netlist → ℕ → ℕ → List Rule
supply_rules n number voltage =
    (5, not (nat_le number 7 && voltage_in_limits voltage))
    ∷ (6, not (n.supplies.map / 2 ^ number == 0 && list_all (nat_lt voltage) (standing n.supplies.map 0 n.supplies.values)))
    ∷ (25, nat_lt 0 (modules n)) ∷ []

abbrev pub with_supply : Netlist → ℕ → ℕ → Netlist
with_supply n number voltage =
    netlist n.terms (record { map = n.supplies.map + 2 ^ number; values = slice_set n.supplies.values number voltage }) n.menus n.nets

-- module: the choices are read at the bits of the map
abbrev pub menu_of : ℕ → List Choice → Menu
menu_of map choices = record { map = map; values = cleared no_choice map 0 choices }

abbrev pub module_rules : Netlist → ℕ → List Choice → List Rule
module_rules n map choices =
    (5, not (list_all choice_in_limits (standing map 0 choices)))
    ∷ (6, not (in_order choice_follows None (standing map 0 choices)))
    ∷ (7, not (names_supplies n.supplies.map map))
    ∷ (21, nat_le 64 (modules n)) ∷ []

abbrev pub with_module : Netlist → ℕ → List Choice → Netlist
with_module n map choices = netlist n.terms n.supplies (n.menus ++ menu_of map choices ∷ []) n.nets

-- net
abbrev pub net_of : ℕ → ℕ → ℕ → Net
net_of driver receiver wire = record { driver = driver; receiver = receiver; wire = wire }

abbrev pub net_rules : Netlist → ℕ → ℕ → ℕ → List Rule
net_rules n driver receiver wire =
    (5, not (nat_le wire 10000)) ∷ (8, not (joins (modules n) driver receiver)) ∷ (21, nat_le 256 (length n.nets)) ∷ []

abbrev pub with_net : Netlist → ℕ → ℕ → ℕ → Netlist
with_net n driver receiver wire = netlist n.terms n.supplies n.menus (n.nets ++ net_of driver receiver wire ∷ [])
