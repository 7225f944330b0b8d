use Rattle.std.proofs.Common.{leb, IsTrue, ◌↔◌, rules}
use Rattle.std.proofs.lemmas.Bool.Decides.{Decides-like}
use Rattle.timing.specs.Paths.{Meets}
use Rattle.timing.specs.View.{planned, named}
use Rattle.timing.proofs.Cycles.{as_published}
use Rattle.timing.proofs.Offers.{assigns_means}
use Rattle.timing.proofs.assignment.Assignment.meets.Goals as goal

pub returns-clause-published : goal.returns-clause-published
returns-clause-published c =
    let x = c.args.self.now in
    let same = as_published (planned x) x.design.now.ok (named x) (assigns_means (planned x) (named x) x.ok) in
    let words : IsTrue (leb c.longest_delay.result c.terms.result.cycle) ↔ Meets (planned x) (named x) = search rules in
    Decides-like _ same.in_time same.meets words
