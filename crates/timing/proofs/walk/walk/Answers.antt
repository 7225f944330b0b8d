use Rattle.std.proofs.Common.{◌≡◌, ◌-◌, ◌++◌, set, length, replicate, refl, ap, ◌∙◌, subst, rules, arith}
use Rattle.netlist.specs.Netlist.{modules}
use Rattle.netlist.specs.View.{view}
use Rattle.netlist.proofs.Words.{keeps_rules}
use Rattle.timing.specs.Arrivals.{done, arrivals}
use Rattle.timing.specs.Paths.{timed_by}
use Rattle.timing.proofs.Reach.{arrivals_more}
use Rattle.timing.proofs.Walked.{walked}
use Rattle.timing.proofs.walk.walk.Goals as goal

pub loop-preserved : goal.loop-preserved
loop-preserved g c =
    let n = view c.args.design.now in
    let ok = c.args.design.now.ok in
    let keep = g.W.Way.keeps in
    let d = g.D.DelayModel.model c.args.delays.now in
    let m = c.loop.index in
    let few = (keeps_rules n ok).at_most_64 in
    let menus = ap length c.menus-items.ensures in
    let settled : c.settle.new.self.known ≡ set c.loop.walker.known m (done keep (timed_by n d) c.loop.walker.known m) = search rules in
    record { design = search rules; delays = search rules; at = search rules; known = settled ∙ arrivals_more n ok keep d c.loop.walker.known m c.loop.invariant.known _ (omega arith) refl }

pub returns-clause-paths : goal.returns-clause-paths
returns-clause-paths g c =
    let n = view c.args.design.now in
    let keep = g.W.Way.keeps in
    let d = g.D.DelayModel.model c.args.delays.now in
    let menus = ap length c.menus-items.ensures in
    let all : c.loop.index ≡ modules n = omega arith in
    walked n c.args.design.now.ok keep g.met.W.Way.one d c.loop.walker.known _ (subst (λ k. c.loop.walker.known ≡ arrivals keep (timed_by n d) k ++ replicate (64 - k) 0) all c.loop.invariant.known)
