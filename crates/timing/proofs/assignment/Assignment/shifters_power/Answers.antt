use Rattle.std.proofs.Common.{◌^◌, rules, arith, length}
use borrow.Author.Tests.{tests}
use Rattle.timing.specs.Power.{net_power}
use Rattle.timing.specs.View.{planned, named}
use Rattle.timing.proofs.Figures.{nets_power_bound}
use Rattle.timing.proofs.Sums.{sum_below_ran, sum_below_fits}
use Rattle.timing.proofs.assignment.Assignment.shifters_power.Goals as goal

pub sum-requires-clause-fits : goal.sum-requires-clause-fits
sum-requires-clause-fits c =
    let x = c.args.self.now in
    let b = nets_power_bound (planned x) (named x) x.design.now.ok in
    sum_below_fits c.map.result _ (length (planned x).nets) (net_power (planned x) (named x)) (search rules) (λ x r q k. search (rules, tests)) (2 ^ 32) (omega arith)

pub returns : goal.returns
returns c =
    let x = c.args.self.now in
    let b = nets_power_bound (planned x) (named x) x.design.now.ok in
    let e = sum_below_ran c.map.result _ (length (planned x).nets) (net_power (planned x) (named x)) (search rules) (λ x r q k. search (rules, tests)) c.sum.result c.sum.ensures.ran in
    record { value = e; bound = omega arith }
