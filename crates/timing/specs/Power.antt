-- The power of an assignment. Assumes nothing.
use Rattle.std.specs.Prelude.{ℕ, ◌+◌, if◌then◌else◌, List, length}
use Rattle.netlist.specs.Netlist.{Netlist, modules}
use Rattle.netlist.specs.Rules.{choice}
use Rattle.timing.specs.Assignments.{supply}
use Rattle.timing.specs.Shifters.{needs_shifter}
use Rattle.timing.specs.Sums.{sum_below}

module _ (n : Netlist) (a : List ℕ) where
  abbrev pub module_power : ℕ → ℕ
  module_power m = (choice n m (supply a m)).power

  -- the shifter power where net i needs a shifter
  abbrev pub net_power : ℕ → ℕ
  net_power i = (if needs_shifter n a i then n.terms.shifter.power else 0)

  -- of all modules and all shifters
  abbrev pub power : ℕ
  power = sum_below (modules n) module_power + sum_below (length n.nets) net_power
