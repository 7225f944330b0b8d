use Rattle.std.proofs.Common.{length, sym, ap, arith}
use Rattle.timing.specs.View.{planned, named}
use Rattle.timing.proofs.Figures.{no_shifter}
use Rattle.timing.proofs.assignment.Assignment.needs_shifter.Goals as goal

pub returns-in_default : goal.returns-in_default
returns-in_default c =
    let x = c.args.self.now in
    let nets = ap length c.nets.ensures in
    let past = c.in_default.ensures.lookup in
    sym (no_shifter (planned x) (named x) c.args.net (omega arith))
