use Rattle.std.proofs.Common.{◌≡◌, not, eqb, take, ap, arith, ◌∙◌, rules}
use Rattle.std.proofs.lemmas.Bool.Decides.{Decides-at}
use Rattle.std.proofs.lemmas.Iterator.{YieldsList-from_slice, YieldsList-from_zip}
use Rattle.std.proofs.lemmas.Iterator.Search.{find_from_yields_List}
use borrow.Author.Tests.{tests}
use Rattle.std.specs.List.{find}
use Rattle.timing.specs.Assignments.{before}
use Rattle.timing.proofs.Listed.{lower_first, first_answers, before_first, before_decides, zip_common}
use Rattle.timing.proofs.listing.listed_before.Goals as goal

pub returns : goal.returns
returns c =
    let a = c.args.a.now in
    let b = c.args.b.now in
    let k = c.min-common.result in
    let pairs = YieldsList-from_zip (YieldsList-from_slice {s = c.zip.result.a} (take k a) (search rules)) (YieldsList-from_slice {s = c.zip.result.b} (take k b) (search rules)) in
    let all = zip_common k a b (grind arith) in
    let first = find_from_yields_List (λ p. not (eqb p.0 p.1)) c.find.new.self _ c.find.result c.find.ensures.ran pairs (λ x b q k. search (rules, tests)) in
    let e : c.is_some_and.result ≡ before a b = first_answers c.find.result c.is_some_and.result (search (rules, tests)) ∙ ap lower_first (first ∙ ap (find (λ p. not (eqb p.0 p.1))) all) ∙ before_first a b in
    record { value = e; words = Decides-at _ (before a b) e (before_decides a b) }
