use Rattle.std.proofs.Common.{◌≡◌, ◌+◌, List, get_or, take, set, refl, ap, ◌∙◌, rules, arith}
use Rattle.netlist.specs.Rules.{no_net}
use Rattle.netlist.specs.declared.parts.Net.{Net}
use Rattle.netlist.proofs.Words.{keeps_rules}
use Rattle.std.proofs.lemmas.List.{length-set, take_more_set}
use Rattle.timing.specs.View.{planned, named}
use Rattle.timing.proofs.Reach.{into_ends}
use Rattle.critical.proofs.Traced.{Traces, traces_more, traces_whole}
use Rattle.critical.proofs.path.trace.Tracer.trace.Goals as goal

pub loop-i-smaller : goal.loop-i-smaller
loop-i-smaller c =
    let x = c.args.self.now.assignment.now in
    let i = c.in-Some.i in
    let ends = into_ends (planned x) x.design.now.ok c.loop-i.at i c.in-Some.ensures.into in
    let nets : c.nets.result.now ≡ (planned x).nets = search rules in
    let driver = ap (λ (ts : List Net). (get_or ts i no_net).driver) nets in
    omega arith

pub loop-i-preserved : goal.loop-i-preserved
loop-i-preserved c =
    let x = c.args.self.now.assignment.now in
    let n = planned x in
    let known = c.args.self.now.arrivals.now in
    let i = c.in-Some.i in
    let kept = c.loop-i.invariant in
    let inside = kept.inside in
    let few = (keeps_rules n x.design.now.ok).at_most_64 in
    let ends = into_ends n x.design.now.ok c.loop-i.at i c.in-Some.ensures.into in
    let nets : c.nets.result.now ≡ n.nets = search rules in
    let driver = ap (λ (ts : List Net). (get_or ts i no_net).driver) nets in
    let steps = take_more_set c.loop-i.nets c.loop-i.count i (omega arith) in
    let more = traces_more n x.design.now.ok (named x) known _ c.args.self.now.known c.args.end c.loop-i.at i (take c.loop-i.count c.loop-i.nets) c.in-Some.ensures kept.leads in
    let leads : Traces n (named x) known c.args.end (take (c.loop-i.count + 1) (set c.loop-i.nets c.loop-i.count i)) (get_or c.nets.result.now i no_net).driver = rw steps (rw driver more) in
    record { long = length-set c.loop-i.nets c.loop-i.count i ∙ kept.long; inside = omega arith; room = omega arith; leads = leads }

pub returns : goal.returns
returns c =
    let x = c.args.self.now.assignment.now in
    let whole = traces_whole (planned x) x.design.now.ok (named x) c.args.self.now.arrivals.now _ c.args.self.now.known c.args.end c.loop-i.at (take c.loop-i.count c.loop-i.nets) c.loop-i.invariant.inside c.in_default.ensures c.loop-i.invariant.leads in
    record { end = refl; path = whole.0; delay = whole.1 }
