use Rattle.timing.specs.View.{planned, named}
use Rattle.timing.proofs.Walked.{walked_latest}
use Rattle.timing.proofs.assignment.Assignment.arrivals.Goals as goal

pub returns-clause-paths : goal.returns-clause-paths
returns-clause-paths c =
    let x = c.args.self.now in
    walked_latest (planned x) x.design.now.ok (named x) c.walk.result _ c.walk.ensures.value
