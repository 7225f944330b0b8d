-- What is known of the shifter rule; nothing else looks at its text. Assumes nothing.
use Rattle.std.proofs.Common.{◌≡◌, ℕ, false, ltb, refl, arith}
use Rattle.netlist.specs.Netlist.{Netlist}
use Rattle.netlist.specs.Rules.{voltage}
use Rattle.std.proofs.lemmas.Bool.{le-ltb}
use Rattle.timing.specs.Shifters.{climbs}

-- it is the published one: to a higher voltage
pub climbs_higher : (n : Netlist) (from to : ℕ) → climbs n from to ≡ ltb (voltage n from) (voltage n to)
unfolding climbs
climbs_higher n from to = refl

-- from a supply to itself nothing climbs
pub climbs_same : (n : Netlist) (s : ℕ) → climbs n s s ≡ false
unfolding climbs
climbs_same n s = le-ltb (voltage n s) (voltage n s) (omega arith)
