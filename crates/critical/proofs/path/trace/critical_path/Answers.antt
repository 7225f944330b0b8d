use Rattle.std.proofs.Common.{◌≡◌, ℕ, ◌-◌, ◌<◌, max, List, length, take, replicate, fold, sym, ap, ◌∙◌, subst, arith}
use Rattle.netlist.specs.Netlist.{Netlist, modules}
use Rattle.std.proofs.lemmas.List.{take_at, get_or-take}
use Rattle.timing.specs.Arrivals.{Longest, latest, longest_delay}
use Rattle.timing.specs.Paths.{timed, path_delay}
use Rattle.timing.specs.View.{planned, named}
use Rattle.timing.proofs.Arrived.{length_arrivals}
use Rattle.timing.proofs.Walked.{longest}
use Rattle.critical.specs.Steps.{steps}
use Rattle.critical.proofs.path.trace.critical_path.Goals as goal

pub returns-clause-longest : goal.returns-clause-longest
returns-clause-longest c =
    let x = c.args.assignment.now in
    let n = planned x in
    let g = timed n (named x) in
    let menus = ap length (c.menus-modules.ensures ∙ ap (λ (p : Netlist). p.menus) c.design.ensures) in
    let k = length c.menus-modules.result.now - 0 in
    let arrivals = c.arrivals-arrivals.result in
    let end = c.in_ok-end.end in
    let front : take k arrivals ≡ latest n (named x) = ap (λ (ts : List ℕ). take k ts) c.arrivals-arrivals.ensures.value ∙ take_at (latest n (named x)) (replicate (64 - modules n) 0) k (length_arrivals max g (modules n) ∙ omega arith) in
    let inside : end < k = let l = c.in_ok-end.ensures.0 in let e = ap length front ∙ length_arrivals max g (modules n) in omega arith in
    let whole : path_delay g end (steps c.trace.result) ≡ longest_delay n (named x) = c.trace.ensures.delay ∙ sym (get_or-take k arrivals end 0 inside) ∙ c.in_ok-end.ensures.1 ∙ ap (λ (ts : List ℕ). fold max 0 ts) front in
    let total : path_delay g c.trace.result.end (steps c.trace.result) ≡ longest_delay n (named x) = ap (λ m. path_delay g m (steps c.trace.result)) c.trace.ensures.end ∙ whole in
    subst (Longest g) (sym total) (longest n x.design.now.ok (named x))
