use Rattle.std.proofs.Common.{sym, ◌∙◌, subst, arith}
use Rattle.netlist.specs.View.{view}
use Rattle.std.specs.List.{AllByRecursion as All}
use Rattle.timing.specs.Arrivals.{Into}
use Rattle.timing.proofs.Reach.{fan_in_into, head_and_rest}
use Rattle.timing.proofs.walk.Walker.ready.Goals as goal

pub keep_over-requires : goal.keep_over-requires
keep_over-requires g c =
    let x = c.args.self.now in
    let n = view x.design.now in
    subst (All (Into n x.at)) (sym c.fan_in.ensures ∙ head_and_rest c.fan_in.result.now (omega arith)) (fan_in_into n x.design.now.ok x.at)
