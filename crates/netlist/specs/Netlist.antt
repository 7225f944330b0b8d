-- A design as a reader sees it, in lists and numbers, and the rules that it keeps, as a test. Assumes nothing.
use Rattle.std.specs.Prelude.{ℕ, Bool, true, ◌&&◌, List, [], ◌∷◌, length, replicate, Some, None, Option, ◌==◌, bit_and, nat_le, nat_lt}
use Rattle.std.specs.List.{list_all}
use Rattle.netlist.specs.declared.parts.Terms.{Terms}
use Rattle.netlist.specs.declared.parts.Choice.{Choice}
use Rattle.netlist.specs.declared.parts.Net.{Net}
use Rattle.netlist.specs.Slots.{standing, absent, Supplies, Menu}

-- modules and nets are numbered by their place
pub record Netlist : Type 0 where
  pub terms : Terms
  pub supplies : Supplies
  pub menus : List Menu
  pub nets : List Net

-- each value follows the one before it
abbrev pub in_order : {T : Type 0} → (Option T → T → Bool) → Option T → List T → Bool
in_order follows last [] = true
in_order follows last (x ∷ xs) = follows last x && in_order follows (Some x) xs

abbrev pub within : ℕ → ℕ → ℕ → Bool
within low high n = nat_le low n && nat_le n high

-- Terms
abbrev pub terms_lawful : Terms → Bool
terms_lawful t = within 1 2000000 t.cycle && nat_le t.shifter.delay 10000 && nat_le t.shifter.power 10000

-- Supplies
abbrev pub voltage_in_limits : ℕ → Bool
voltage_in_limits v = within 300 5000 v

abbrev pub voltage_follows : Option ℕ → ℕ → Bool
voltage_follows None v = true
voltage_follows (Some before) v = nat_lt v before

abbrev pub is_zero : ℕ → Bool
is_zero n = n == 0

abbrev pub supplies_lawful : Supplies → Bool
supplies_lawful s =
    nat_lt s.map 256 && length s.values == 8
    && list_all voltage_in_limits (standing s.map 0 s.values)
    && in_order voltage_follows None (standing s.map 0 s.values)
    && list_all is_zero (absent s.map 0 s.values)

-- Menus
abbrev pub choice_in_limits : Choice → Bool
choice_in_limits c = within 1 10000 c.delay && within 1 1000000 c.power

abbrev pub choice_follows : Option Choice → Choice → Bool
choice_follows None c = true
choice_follows (Some before) c = nat_lt before.delay c.delay && nat_lt c.power before.power

abbrev pub no_choice : Choice
no_choice = record { delay = 0; power = 0 }

abbrev pub is_no_choice : Choice → Bool
is_no_choice c = is_zero c.delay && is_zero c.power

-- a menu names at least one supply, and only supplies of the design
abbrev pub names_supplies : ℕ → ℕ → Bool
names_supplies supplies map = nat_lt 0 map && bit_and map supplies == map

abbrev pub menu_lawful : ℕ → Menu → Bool
menu_lawful supplies m =
    names_supplies supplies m.map && length m.values == 8
    && list_all choice_in_limits (standing m.map 0 m.values)
    && in_order choice_follows None (standing m.map 0 m.values)
    && list_all is_no_choice (absent m.map 0 m.values)

-- Nets
abbrev pub joins : ℕ → ℕ → ℕ → Bool
joins modules driver receiver = nat_lt driver receiver && nat_lt receiver modules

abbrev pub net_lawful : ℕ → Net → Bool
net_lawful modules t = joins modules t.driver t.receiver && nat_le t.wire 10000

abbrev pub modules : Netlist → ℕ
modules n = length n.menus

abbrev pub lawful : Netlist → Bool
lawful n =
    terms_lawful n.terms && supplies_lawful n.supplies
    && nat_le (modules n) 64 && list_all (menu_lawful n.supplies.map) n.menus
    && nat_le (length n.nets) 256 && list_all (net_lawful (modules n)) n.nets

abbrev pub netlist : Terms → Supplies → List Menu → List Net → Netlist
netlist t s ms ns = record { terms = t; supplies = s; menus = ms; nets = ns }

-- what a new draft holds
abbrev pub new_terms : Terms
new_terms = record { cycle = 2000000; shifter = record { delay = 0; power = 0 } }

abbrev pub no_supplies : Supplies
no_supplies = record { map = 0; values = replicate 8 0 }

abbrev pub blank : Netlist
blank = netlist new_terms no_supplies [] []
