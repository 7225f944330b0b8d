use Rattle.std.proofs.Common.{◌≡◌, ℕ, ◌+◌, sym, ◌∙◌, arith}
use Rattle.std.proofs.lemmas.Result.{err_from_is_err_and}
use Rattle.faults.specs.declared.BlockFault.{BlockFault}
use Rattle.faults.specs.declared.BlockFault.TheVariants.{Field}
use Rattle.record.proofs.Filled.{reading_next, reading_reads, reading_refused, reading_done}
use Rattle.record.proofs.Gathered.{gathering_reads, gathering_refused, gathering_done, menu_whole, menu_unmapped, menu_refused}
use Rattle.record.proofs.cursor.Cursor.menus.Goals as goal
use Rattle.record.proofs.cursor.Cursor.menus.Goals.{then-loop-m-test+in-Err, then-loop-m-test+in-Ok+then-loop-field-test+in-Err-choice, else-loop-m-test}

pub bounds-choices-supply : goal.bounds-choices-supply
bounds-choices-supply c = (reading_next _ _ _ c.loop-field.invariant.1 (omega arith)).low.in_byte

pub loop-field-preserved : goal.loop-field-preserved
loop-field-preserved c =
    let v = c.loop-field.invariant in
    let z = c.in-Ok-choice.ensures in
    (z.same ∙ v.0, rw z.place (reading_reads _ _ _ v.1 (omega arith) (rw v.0 at (sym z.value))))

pub loop-m-preserved : goal.loop-m-preserved
loop-m-preserved c =
    let v = c.loop-m.invariant in
    let w = c.loop-field.invariant in
    let z = c.in-Ok.ensures in
    let b = z.same ∙ v.0 in
    let done = rw (b, z.place) at (reading_done _ _ _ w.1 (omega arith)) in
    let menu = menu_whole c.args.supplies c.args.self.now.bytes.now c.loop-m.cursor.at c.in-Ok.map c.loop-field.choices c.loop-field.cursor.at (rw v.0 at (sym z.value)) done in
    (w.0 ∙ b, gathering_reads _ v.1 (omega arith) menu)

pub returns-in_err-read-clause-value : goal.returns-in_err-read-clause-value
returns-in_err-read-clause-value c =
    let p = err_from_is_err_and c.from_residual.result c.from_residual.ensures.1 in
    let v = c.loop-m.invariant in
    let was = c.in_err-read.was in
    let bs = c.args.self.now.bytes.now in
    rw (p.1, p.2) (elim c.loop-m-test.branch [
      | else-loop-m-test w ↦ let g = w.read-is in cc
      | then-loop-m-test+in-Err w ↦
          let is = w.read-is in
          let g : ◌≡◌ {A = ℕ × BlockFault} c.in_err-read.field-0.0 (c.args.first + c.loop-m.m, w.in-Err.fault) = cc in
          let f = menu_unmapped c.args.supplies bs c.loop-m.cursor.at w.in-Err.fault (rw v.0 at (sym w.in-Err.ensures.value)) in
          rw g (sym (gathering_refused _ v.1 (omega arith) f))
      | then-loop-m-test+in-Ok+then-loop-field-test+in-Err-choice w ↦
          let is = w.read-is in
          let u = w.loop-field.invariant in
          let z = w.in-Ok.ensures in
          let b = z.same ∙ v.0 in
          let fault = w.in-Err-choice.fault in
          let g : ◌≡◌ {A = ℕ × BlockFault} c.in_err-read.field-0.0 (c.args.first + c.loop-m.m, Field fault) = cc in
          let no = rw (b, z.place) at (reading_refused _ _ _ u.1 (omega arith) (rw u.0 at (sym w.in-Err-choice.ensures.value))) in
          let f = menu_refused c.args.supplies bs c.loop-m.cursor.at w.in-Ok.map fault (rw v.0 at (sym z.value)) no in
          rw g (sym (gathering_refused _ v.1 (omega arith) f))
    ])

pub returns-clause-value : goal.returns-clause-value
returns-clause-value c =
    let was = c.in_ok-read.was in
    elim c.loop-m-test.branch [
      | else-loop-m-test w ↦ rw (w.places-is, w.cursor-is) (sym (gathering_done _ c.loop-m.invariant.1 (omega arith)))
      | then-loop-m-test+in-Err w ↦ let g = w.read-is in cc
      | then-loop-m-test+in-Ok+then-loop-field-test+in-Err-choice w ↦ let g = w.read-is in cc
    ]
