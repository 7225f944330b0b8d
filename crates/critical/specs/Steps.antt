-- The nets of a critical path. Assumes nothing.
use Rattle.std.specs.Prelude.{◌≡◌, ℕ, ◌+◌, List, take, slice_index}
use Rattle.netlist.specs.Netlist.{Netlist}
use Rattle.timing.specs.Arrivals.{Into, over_net}
use Rattle.timing.specs.Paths.{timed, module_delay}
use Rattle.critical.specs.declared.path.CriticalPath.{CriticalPath}

abbrev pub steps : CriticalPath → List ℕ
steps p = take p.count p.nets

-- the arrival at module m comes over net i
pub record ComesOver (n : Netlist) (a arrivals : List ℕ) (m i : ℕ) : Type 0 where
  pub into : Into n m i
  pub arrives : over_net (timed n a) arrivals i + module_delay n a m ≡ slice_index arrivals m
