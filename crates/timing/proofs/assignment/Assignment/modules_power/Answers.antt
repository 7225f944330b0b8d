use Rattle.std.proofs.Common.{◌^◌, rules, arith, length, ap}
use borrow.Author.Tests.{tests}
use Rattle.netlist.specs.Netlist.{modules}
use Rattle.timing.specs.Power.{module_power}
use Rattle.timing.specs.View.{planned, named}
use Rattle.timing.proofs.Figures.{modules_power_bound}
use Rattle.timing.proofs.Offers.{assigns_means}
use Rattle.timing.proofs.Sums.{sum_below_ran, sum_below_fits}
use Rattle.timing.proofs.assignment.Assignment.modules_power.Goals as goal

pub sum-requires-clause-fits : goal.sum-requires-clause-fits
sum-requires-clause-fits c =
    let x = c.args.self.now in
    let k = ap length c.menus.ensures in
    let b = modules_power_bound (planned x) (named x) x.design.now.ok (assigns_means (planned x) (named x) x.ok) in
    sum_below_fits c.map.result _ (modules (planned x)) (module_power (planned x) (named x)) (search rules) (λ x r q k. search (rules, tests)) (2 ^ 32) (omega arith)

pub returns : goal.returns
returns c =
    let x = c.args.self.now in
    let b = modules_power_bound (planned x) (named x) x.design.now.ok (assigns_means (planned x) (named x) x.ok) in
    let e = sum_below_ran c.map.result _ (modules (planned x)) (module_power (planned x) (named x)) (search rules) (λ x r q k. search (rules, tests)) c.sum.result c.sum.ensures.ran in
    record { value = e; bound = omega arith }
