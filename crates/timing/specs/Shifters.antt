-- Where a level shifter is needed. Assumes nothing.
use Rattle.std.specs.Prelude.{ℕ, Bool, List, nat_lt}
use Rattle.netlist.specs.Netlist.{Netlist}
use Rattle.netlist.specs.Rules.{voltage, net}
use Rattle.timing.specs.Assignments.{supply}

-- THE RULE, and the one place that tells it: a net from a driver at one supply to a receiver at another needs a
-- shifter exactly when the driver's voltage is below the receiver's
unfoldable pub climbs : Netlist → ℕ → ℕ → Bool
climbs n from to = nat_lt (voltage n from) (voltage n to)

-- whether net i needs one under an assignment
abbrev pub needs_shifter : Netlist → List ℕ → ℕ → Bool
needs_shifter n a i = climbs n (supply a (net n i).driver) (supply a (net n i).receiver)
