use Rattle.std.proofs.Common.{ap, arith}
use Rattle.netlist.specs.declared.parts.Choice.{Choice}
use Rattle.timing.specs.View.{planned, named}
use Rattle.timing.proofs.Figures.{choice_bound}
use Rattle.timing.proofs.Offers.{assigns_means}
use Rattle.timing.proofs.assignment.delays.AssignmentDelayModel.at_module.Goals as goal

pub returns-clause-bound : goal.returns-clause-bound
returns-clause-bound c =
    let x = c.args.self.now in
    let e = ap (λ (o : Choice). o.delay) c.choice.ensures in
    let b = choice_bound (planned x) (named x) x.design.now.ok (assigns_means (planned x) (named x) x.ok) c.args.at in
    omega (arith, b.0)
