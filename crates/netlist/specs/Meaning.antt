-- When two designs mean the same, in plain words over every supply, module and net. Assumes nothing.
use Rattle.std.specs.Prelude.{◌≡◌, ℕ, ◌<◌, length}
use Rattle.netlist.specs.Netlist.{Netlist, modules}
use Rattle.netlist.specs.Rules.{Supply, Offered, voltage, menu, choice, net}
use Rattle.netlist.specs.Slots.{bit}

-- a voltage counts only where there is a supply, and a choice only where it is offered
pub record SameMeaning (a b : Netlist) : Type 0 where
  pub same_terms : a.terms ≡ b.terms
  pub same_supplies : (i : ℕ) → bit a.supplies.map i ≡ bit b.supplies.map i
  pub same_voltages : (i : ℕ) → Supply a i → voltage a i ≡ voltage b i
  pub as_many_modules : modules a ≡ modules b
  pub same_offers : (m i : ℕ) → m < modules a → bit (menu a m).map i ≡ bit (menu b m).map i
  pub same_choices : (m i : ℕ) → m < modules a → Offered a m i → choice a m i ≡ choice b m i
  pub as_many_nets : length a.nets ≡ length b.nets
  pub same_nets : (i : ℕ) → i < length a.nets → net a i ≡ net b i
