-- The rules of a design in plain words, over every supply, module and net. Assumes nothing.
use Rattle.std.specs.Prelude.{◌≡◌, ℕ, ◌<◌, ◌≤◌, true, [], length, slice_index, slice_index_or}
use Rattle.netlist.specs.declared.parts.Choice.{Choice}
use Rattle.netlist.specs.declared.parts.Net.{Net}
use Rattle.netlist.specs.Slots.{bit, Menu}
use Rattle.netlist.specs.Netlist.{Netlist, modules, no_choice}

abbrev pub Between : ℕ → ℕ → ℕ → Type 0
Between low high n = (low ≤ n) × (n ≤ high)

abbrev pub no_menu : Menu
no_menu = record { map = 0; values = [] }

abbrev pub no_net : Net
no_net = record { driver = 0; receiver = 0; wire = 0 }

module _ (n : Netlist) where
  abbrev pub Supply : ℕ → Type 0
  Supply i = bit n.supplies.map i ≡ true

  abbrev pub voltage : ℕ → ℕ
  voltage i = slice_index n.supplies.values i

  abbrev pub menu : ℕ → Menu
  menu m = slice_index_or n.menus m no_menu

  -- supply i is on the menu of module m
  abbrev pub Offered : ℕ → ℕ → Type 0
  Offered m i = bit (menu m).map i ≡ true

  abbrev pub choice : ℕ → ℕ → Choice
  choice m i = slice_index_or (menu m).values i no_choice

  abbrev pub net : ℕ → Net
  net i = slice_index_or n.nets i no_net

  pub record Rules : Type 0 where
    pub cycle_time : Between 1 2000000 n.terms.cycle
    pub shifter_delay : n.terms.shifter.delay ≤ 10000
    pub shifter_power : n.terms.shifter.power ≤ 10000
    pub supply_numbers : (i : ℕ) → Supply i → i ≤ 7
    pub voltages : (i : ℕ) → Supply i → Between 300 5000 (voltage i)
    pub voltages_fall : (i j : ℕ) → i < j → Supply i → Supply j → voltage j < voltage i
    pub at_most_64 : modules n ≤ 64
    pub menus_offer : (m : ℕ) → m < modules n → (i : ℕ) × Offered m i
    pub of_the_design : (m i : ℕ) → Offered m i → Supply i
    pub delays : (m i : ℕ) → Offered m i → Between 1 10000 (choice m i).delay
    pub powers : (m i : ℕ) → Offered m i → Between 1 1000000 (choice m i).power
    pub delays_rise : (m i j : ℕ) → i < j → Offered m i → Offered m j → (choice m i).delay < (choice m j).delay
    pub powers_fall : (m i j : ℕ) → i < j → Offered m i → Offered m j → (choice m j).power < (choice m i).power
    pub at_most_256 : length n.nets ≤ 256
    pub ends : (i : ℕ) → i < length n.nets → ((net i).driver < (net i).receiver) × ((net i).receiver < modules n)
    pub wires : (i : ℕ) → i < length n.nets → (net i).wire ≤ 10000
