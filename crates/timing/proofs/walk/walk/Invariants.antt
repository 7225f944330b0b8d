use Rattle.std.proofs.Common.{◌≡◌, ◌-◌, ◌++◌, replicate}
use Rattle.netlist.specs.View.{view}
use Rattle.timing.specs.Arrivals.{arrivals}
use Rattle.timing.specs.Paths.{timed_by}
use Rattle.timing.proofs.walk.walk.Given as goal

abbrev pub invariant-loop : goal.invariant-loop
invariant-loop g l =
    record {
      design : l.walker.design.now ≡ l.design;
      delays : l.walker.delays.now ≡ l.delays;
      at : l.walker.at ≡ l.index;
      known : l.walker.known ≡ arrivals g.W.Way.keeps (timed_by (view l.design) (g.D.DelayModel.model l.delays)) l.index ++ replicate (64 - l.index) 0;
    }
