use Rattle.std.proofs.Common.{◌≡◌, leb, Some, Option, rules, subst, MatchOption, sym}
use Rattle.netlist.specs.View.{view}
use Rattle.timing.specs.Assess.{Judged, assessed}
use Rattle.timing.specs.Assignments.{Assigns}
use Rattle.timing.specs.declared.assess.Figures.{Figures}
use Rattle.timing.proofs.Assessed.{assessed_words, one_to_one}
use Rattle.timing.proofs.assess.assess.Goals as goal

pub returns-in_err-assignment-clause-one_to_one : goal.returns-in_err-assignment-clause-one_to_one
returns-in_err-assignment-clause-one_to_one c = one_to_one (view c.args.design.now) c.args.design.now.ok

pub returns-clause-words : goal.returns-clause-words
returns-clause-words c =
    let n = view c.args.design.now in
    let a = c.args.supplies.now in
    let e : ◌≡◌ {A = Option Figures} (Some (record { power = c.power.result; delay = c.longest_delay-delay.result; meets = leb c.longest_delay-delay.result c.terms.result.cycle })) (assessed n a) = search rules in
    subst (λ r. MatchOption r (Assigns n a → ⊥) (Judged n a)) (sym e) (assessed_words n c.args.design.now.ok a)

pub returns-clause-one_to_one : goal.returns-clause-one_to_one
returns-clause-one_to_one c = one_to_one (view c.args.design.now) c.args.design.now.ok
