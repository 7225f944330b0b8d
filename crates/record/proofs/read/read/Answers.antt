use Rattle.std.proofs.Common.{sym, ap, ◌∙◌}
use Rattle.record.specs.Record.{record_of}
use Rattle.record.specs.Sheets.{design}
use Rattle.record.proofs.OneRecord.{reads_back}
use Rattle.record.proofs.read.read.Goals as goal

pub fill-requires : goal.fill-requires
fill-requires c = (reads_back c.args.bytes.now (design c.in_ok-sheet.sheet) (λ i. (c.type_inv.bytes i).fits) (sym c.in_ok-sheet.ensures)).1

pub returns-clause-written_back : goal.returns-clause-written_back
returns-clause-written_back c = ap record_of c.fill.ensures ∙ (reads_back c.args.bytes.now (design c.in_ok-sheet.sheet) (λ i. (c.type_inv.bytes i).fits) (sym c.in_ok-sheet.ensures)).0

pub returns-clause-one_design : goal.returns-clause-one_design
returns-clause-one_design c =
    let w = (reads_back c.args.bytes.now (design c.in_ok-sheet.sheet) (λ i. (c.type_inv.bytes i).fits) (sym c.in_ok-sheet.ensures)).0 in
    λ other y e. sym (reads_back other (design c.in_ok-sheet.sheet) y (rw c.fill.ensures at e)).0 ∙ w
