use Rattle.std.proofs.Common.{arith}
use Rattle.timing.specs.View.{planned, named}
use Rattle.timing.proofs.Offers.{assigns_means}
use Rattle.timing.proofs.Selected.{supply_below}
use Rattle.timing.proofs.assignment.Assignment.choice.Goals as goal

pub bounds-menu-supply : goal.bounds-menu-supply
bounds-menu-supply c =
    let x = c.args.self.now in
    let low = supply_below (planned x) x.design.now.ok (named x) (assigns_means (planned x) (named x) x.ok) c.args.module in
    omega arith
