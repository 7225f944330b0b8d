use Rattle.timing.specs.View.{planned}
use Rattle.timing.proofs.Reach.{into_ends}
use Rattle.critical.proofs.path.trace.Tracer.comes_over.Goals as goal

pub bounds-self-m : goal.bounds-self-m
bounds-self-m c =
    let x = c.args.self.now.assignment.now in
    (into_ends (planned x) x.design.now.ok c.args.m c.args.i c.requires).1
