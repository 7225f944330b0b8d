use Rattle.std.proofs.Common.{rules}
use Rattle.netlist.specs.View.{view}
use Rattle.std.proofs.lemmas.Bool.{both_ways}
use Rattle.timing.specs.Assignments.{assigns}
use Rattle.timing.proofs.Offers.{assigns_means, assigns_from}
use Rattle.timing.proofs.assignment.Assignment.of.Goals as goal

pub returns-then-not-all_offered-clause-words : goal.returns-then-not-all_offered-clause-words
returns-then-not-all_offered-clause-words c =
    let n = view c.args.design.now in
    let a = c.args.supplies.now in
    λ h. both_ways (assigns n a) (search rules) (assigns_from n a h)

pub returns-clause-words : goal.returns-clause-words
returns-clause-words c = assigns_means (view c.args.design.now) c.args.supplies.now (search rules)
