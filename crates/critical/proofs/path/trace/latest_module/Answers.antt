use Rattle.std.proofs.Common.{◌≡◌, max, Some, sym, rules}
use Rattle.std.proofs.lemmas.Iterator.{YieldsList-from_slice, IsFirst-from_position}
use Rattle.std.proofs.lemmas.Iterator.Consumers.{YieldsList-from_copied, max_from_yields_List}
use Rattle.std.specs.List.{reduce}
use borrow.Author.Tests.{tests}
use Rattle.critical.proofs.Traced.{first_greatest}
use Rattle.critical.proofs.path.trace.latest_module.Goals as goal

pub returns : goal.returns
returns c =
    let ts = c.args.arrivals.now in
    let t = c.in_ok-greatest.greatest in
    let top : Some t ≡ reduce max ts = max_from_yields_List c.copied.result (Some t) c.in_ok-greatest.ensures.ran (YieldsList-from_copied (YieldsList-from_slice {s = c.copied.result.iter} ts (cc))) in
    let first = IsFirst-from_position c.position.new.self _ c.position.result (λ u. u ≡ t) (λ u. u ≡ t → ⊥) c.position.ensures.ran (YieldsList-from_slice {s = c.iter-2.result} ts (cc)) (λ x q k. search (rules, tests)) (λ x q k. search (rules, tests)) in
    first_greatest ts t c.position.result (sym top) first
