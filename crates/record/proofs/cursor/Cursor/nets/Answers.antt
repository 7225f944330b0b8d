use Rattle.std.proofs.Common.{◌≡◌, ◌+◌, Ok, Err, Result, sym, ap, ◌∙◌, arith, rules}
use Rattle.std.proofs.lemmas.Result.{err_from_is_err_and}
use Rattle.std.proofs.lemmas.Grind.{common_steps}
use Rattle.netlist.specs.declared.parts.Net.{Net}
use Rattle.faults.specs.declared.BlockFault.{BlockFault}
use Rattle.record.specs.Steps.{placed}
use Rattle.record.proofs.Gathered.{gathering_reads, gathering_refused, gathering_done}
use Rattle.record.proofs.cursor.Cursor.nets.Goals as goal

pub loop-i-preserved : goal.loop-i-preserved
loop-i-preserved c =
    let v = c.loop-i.invariant in
    let z = c.net.ensures in
    let e : c.net.result ≡ Ok c.in_ok-place.field-0 = grind (arith, common_steps) in
    let f = ap (λ (r : Result Net BlockFault). placed r c.net.new.self.at) (sym e) ∙ z.value in
    (z.same ∙ v.0, gathering_reads _ v.1 (omega arith) (rw v.0 at (sym f)))

pub returns-in_err-place-clause-value : goal.returns-in_err-place-clause-value
returns-in_err-place-clause-value c =
    let p = err_from_is_err_and c.from_residual.result c.from_residual.ensures.1 in
    let v = c.loop-i.invariant in
    let z = c.net.ensures in
    let e : c.net.result ≡ Err c.in_err-place.field-0.0.1 = search rules in
    let b : c.in_err-place.field-0.0.0 ≡ c.args.first + c.loop-i.i-counter = search rules in
    let f = ap (λ (r : Result Net BlockFault). placed r c.net.new.self.at) (sym e) ∙ z.value in
    let r = gathering_refused _ v.1 (omega arith) (rw v.0 at (sym f)) in
    rw (p.1, p.2, b) (sym r)

pub returns-clause-value : goal.returns-clause-value
returns-clause-value c = sym (gathering_done _ c.loop-i.invariant.1 (omega arith))
