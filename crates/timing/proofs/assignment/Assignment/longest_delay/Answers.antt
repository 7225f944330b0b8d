use Rattle.std.proofs.Common.{◌≡◌, ℕ, ◌-◌, max, List, length, take, replicate, fold, sym, ap, ◌∙◌, subst, arith}
use Rattle.netlist.specs.Netlist.{modules}
use Rattle.netlist.proofs.Words.{keeps_rules}
use Rattle.std.proofs.lemmas.List.{take_at}
use Rattle.timing.specs.Arrivals.{latest, longest_delay, Longest}
use Rattle.timing.specs.Paths.{timed}
use Rattle.timing.specs.View.{planned, named}
use Rattle.timing.proofs.Arrived.{length_arrivals}
use Rattle.timing.proofs.Offers.{assigns_means}
use Rattle.timing.proofs.Walked.{longest}
use Rattle.timing.proofs.assignment.Assignment.longest_delay.Goals as goal

pub slice_bounds-greatest-end : goal.slice_bounds-greatest-end
slice_bounds-greatest-end c =
    let x = c.args.self.now in
    let long = (assigns_means (planned x) (named x) x.ok).one_each in
    let few = (keeps_rules (planned x) x.design.now.ok).at_most_64 in
    omega arith

pub returns : goal.returns
returns c =
    let x = c.args.self.now in
    let n = planned x in
    let long = (assigns_means n (named x) x.ok).one_each in
    let front = ap (λ (ts : List ℕ). take (length (named x) - 0) ts) c.arrivals.ensures.value ∙ take_at (latest n (named x)) (replicate (64 - modules n) 0) (length (named x) - 0) (length_arrivals max (timed n (named x)) (modules n) ∙ omega arith) in
    let e : c.greatest.result ≡ longest_delay n (named x) = c.greatest.ensures ∙ ap (λ (ts : List ℕ). fold max 0 ts) front in
    record { value = e; paths = subst (Longest (timed n (named x))) (sym e) (longest n x.design.now.ok (named x)) }
