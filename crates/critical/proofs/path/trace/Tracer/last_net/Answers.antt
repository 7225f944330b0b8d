use Rattle.std.proofs.Common.{◌≡◌, ◌+◌, get_or, sym, subst, rules}
use Rattle.netlist.specs.FanIn.{fan_in}
use Rattle.std.proofs.lemmas.Iterator.{YieldsList-from_slice, first_from_find}
use Rattle.std.proofs.lemmas.Iterator.Adapters.{serves_from_places}
use Rattle.std.proofs.lemmas.Iterator.Consumers.{YieldsList-from_copied}
use borrow.Author.Tests.{tests}
use Rattle.timing.specs.Arrivals.{Into, over_net}
use Rattle.timing.specs.Paths.{timed, module_delay}
use Rattle.timing.specs.View.{planned, named}
use Rattle.critical.proofs.Traced.{into_at, last_from}
use Rattle.critical.proofs.path.trace.Tracer.last_net.Goals as goal

pub find-requires-clause-callable : goal.find-requires-clause-callable
find-requires-clause-callable c =
    let x = c.args.self.now.assignment.now in
    let n = planned x in
    let m = c.args.m in
    let nets : c.copied.result.iter.rest.now ≡ fan_in n m = search rules in
    serves_from_places (YieldsList-from_copied (YieldsList-from_slice {s = c.copied.result.iter} (fan_in n m) nets)) (λ i q k. search rules)
    (λ i k h e. let into = subst (Into n m) (sym e) (into_at n x.design.now.ok m k i h) in search rules)

pub returns : goal.returns
returns c =
    let x = c.args.self.now.assignment.now in
    let n = planned x in
    let m = c.args.m in
    let known = c.args.self.now.arrivals.now in
    let nets : c.copied.result.iter.rest.now ≡ fan_in n m = search rules in
    let found = first_from_find c.find.new.self _ c.find.result
    (λ i. over_net (timed n (named x)) known i + module_delay n (named x) m ≡ get_or known m 0)
    (λ i. over_net (timed n (named x)) known i + module_delay n (named x) m ≡ get_or known m 0 → ⊥)
    c.find.ensures.ran (YieldsList-from_copied (YieldsList-from_slice {s = c.copied.result.iter} (fan_in n m) nets)) (λ i q k. search (rules, tests)) (λ i q k. search (rules, tests)) in
    last_from n x.design.now.ok (named x) known _ c.args.self.now.known m c.requires c.find.result found
