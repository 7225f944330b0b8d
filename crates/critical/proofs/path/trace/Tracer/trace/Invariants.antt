use Rattle.std.proofs.Common.{◌≡◌, ◌+◌, ◌<◌, ◌≤◌, length, take}
use Rattle.netlist.specs.Netlist.{modules}
use Rattle.timing.specs.View.{planned, named}
use Rattle.critical.proofs.Traced.{Traces}
use Rattle.critical.proofs.path.trace.Tracer.trace.Given as goal

abbrev pub invariant-loop-i : goal.invariant-loop-i
invariant-loop-i l =
    record {
      long : length l.nets ≡ 64;
      inside : l.at < modules (planned l.self.assignment.now);
      room : l.count + l.at ≤ l.end;
      leads : Traces (planned l.self.assignment.now) (named l.self.assignment.now) l.self.arrivals.now l.end (take l.count l.nets) l.at;
    }

abbrev pub decreases-loop-i : goal.decreases-loop-i
decreases-loop-i l = l.at
