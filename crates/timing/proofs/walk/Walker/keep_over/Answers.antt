use Rattle.std.proofs.Common.{ℕ, ◌+◌, ◌*◌, ◌≤◌, rules, arith}
use Rattle.std.proofs.iter.Serving.{same_first}
use Rattle.std.proofs.lemmas.Fn.{fold_over, fronts, slice_gives}
use Rattle.netlist.specs.View.{view}
use Rattle.timing.specs.Arrivals.{Into}
use Rattle.timing.proofs.Reach.{keep_small}
use Rattle.timing.proofs.Served.{served}
use Rattle.timing.proofs.walk.Walker.keep_over.Goals as goal

pub fold-requires-clause-callable : goal.fold-requires-clause-callable
fold-requires-clause-callable g c =
    served (Into (view c.args.self.now.design.now) c.args.self.now.at) (λ p. p.0) same_first c.args.rest.now c.iter.result _ c.iter.ensures.rest c.requires.1 (λ p x q k. search rules) (λ q x e h. search rules)

pub returns-clause-bound : goal.returns-clause-bound
returns-clause-bound g c =
    let most : ℕ = 40000 * c.args.self.now.at + 20000 in
    let keep = g.W.Way.keeps in
    fold_over fronts (λ y. y.now) _ (λ _ a. a ≤ most) _ (λ ys a x b f' h k. (grind (arith, keep_small keep g.met.W.Way.one), search rules)) c.iter.result _ _ _ (slice_gives c.iter.result) c.over_net.ensures.bound c.fold.ensures.ran
