use Rattle.std.proofs.Common.{◌≡◌, ◌+◌, ◌∙◌, rules}
use Rattle.timing.specs.Power.{power}
use Rattle.timing.specs.View.{planned, named}
use Rattle.timing.proofs.Cycles.{same_power}
use Rattle.timing.proofs.Offers.{assigns_means}
use Rattle.timing.proofs.assignment.Assignment.power.Goals as goal

pub returns-clause-published : goal.returns-clause-published
returns-clause-published c =
    let x = c.args.self.now in
    let e : c.modules_power.result + c.shifters_power.result ≡ power (planned x) (named x) = search rules in
    e ∙ same_power (planned x) x.design.now.ok (named x) (assigns_means (planned x) (named x) x.ok)
