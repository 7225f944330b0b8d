use Rattle.std.proofs.Common.{sym, ap, ◌∙◌, arith}
use Rattle.std.proofs.lemmas.Result.{err_from_is_err_and}
use Rattle.record.specs.Blocks.{supplies_read}
use Rattle.record.proofs.Filled.{reading_next, reading_reads, reading_refused, reading_done}
use Rattle.record.proofs.cursor.Cursor.supplies_fields.Goals as goal

pub bounds-voltages-supply : goal.bounds-voltages-supply
bounds-voltages-supply c = (reading_next _ _ _ c.loop-field.invariant.1 (omega arith)).low.in_byte

pub loop-field-preserved : goal.loop-field-preserved
loop-field-preserved c =
    let z = c.in_ok-v.ensures in
    let v = c.loop-field.invariant in
    (z.same ∙ v.0, rw z.place (reading_reads _ _ _ v.1 (omega arith) (rw v.0 at (sym z.value))))

pub returns-in_err-v-clause-value : goal.returns-in_err-v-clause-value
returns-in_err-v-clause-value c =
    let p = err_from_is_err_and c.from_residual.result c.from_residual.ensures.1 in
    let v = c.loop-field.invariant in
    let f = reading_refused _ _ _ v.1 (omega arith) (rw v.0 at (sym c.in_err-v.ensures.value)) in
    rw (p.1, p.2) (sym (ap (supplies_read c.args.map) f))

pub returns-clause-value : goal.returns-clause-value
returns-clause-value c = sym (ap (supplies_read c.args.map) (reading_done _ _ _ c.loop-field.invariant.1 (omega arith)))
