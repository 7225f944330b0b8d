use Rattle.std.proofs.Common.{sym, ◌∙◌, rules, arith}
use Rattle.netlist.specs.Slots.{bit}
use Rattle.std.proofs.lemmas.Bool.{ne_eqb}
use Rattle.std.proofs.lemmas.Iterator.{YieldsList-from_slice, YieldsList-from_zip}
use Rattle.std.proofs.lemmas.Iterator.Search.{all_from_yields_List}
use borrow.Author.Tests.{tests}
use Rattle.timing.proofs.Offers.{not_as_long, offered_zip}
use Rattle.timing.proofs.assignment.checks.all_offered.Goals as goal

pub returns-then-menus-supplies : goal.returns-then-menus-supplies
returns-then-menus-supplies c =
    let ms = c.args.menus.now in
    let ss = c.args.supplies.now in
    let pairs = YieldsList-from_zip (YieldsList-from_slice {s = c.zip.result.a} ms cc) (YieldsList-from_slice {s = c.zip.result.b} ss cc) in
    all_from_yields_List (λ p. bit p.0.map p.1) c.all.new.self _ c.all.result c.all.ensures.ran pairs (λ x b q k. search (rules, tests)) ∙ offered_zip ms ss (omega arith)

pub returns-else-menus-supplies : goal.returns-else-menus-supplies
returns-else-menus-supplies c =
    let ms = c.args.menus.now in
    let ss = c.args.supplies.now in
    ne_eqb _ _ c.if-menus-supplies.false ∙ sym (not_as_long ms ss c.if-menus-supplies.false)
