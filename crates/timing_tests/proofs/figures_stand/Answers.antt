use Rattle.std.proofs.Common.{refl}
use Rattle.timing.specs.Shifters.{climbs}
use Rattle.timing_tests.proofs.figures_stand.Goals as goal

pub returns : goal.returns
unfolding climbs
returns c = record { each = refl; no_assignments = refl; parallel_nets = refl; no_modules = refl; listed = refl }
