-- The record of a design: how long it is at most, what it reads as, and whose it is. Assumes nothing.
use Rattle.std.proofs.Common.{◌≡◌, ◌≤◌, true, length, Ok, Result, sym, ap, ◌∙◌}
use Rattle.netlist.specs.declared.design.Design.{Design}
use Rattle.netlist.specs.Netlist.{Netlist, lawful}
use Rattle.netlist.specs.View.{view}
use Rattle.faults.specs.declared.RecordFault.{RecordFault}
use Rattle.record.specs.Record.{record_of, reads_as}
use Rattle.record.proofs.OneRecord.{writes_back}
use Rattle.writer.proofs.Lengths.{record_most}

pub most : (d : Design) → length (record_of (view d)) ≤ 4445
most d = record_most (view d) d.ok

pub read_back : (d : Design) → reads_as (record_of (view d)) ≡ Ok (view d)
read_back d = writes_back (view d) d.ok

-- two designs with one record are one design
pub no_other : (n : Netlist) → lawful n ≡ true → (other : Netlist) → lawful other ≡ true → record_of other ≡ record_of n → other ≡ n
no_other n l other k e =
    let same : ◌≡◌ {A = Result Netlist RecordFault} (Ok other) (Ok n) = sym (writes_back other k) ∙ (ap reads_as e ∙ writes_back n l) in
    cc

pub one_record : (d : Design) (other : Netlist) → lawful other ≡ true → record_of other ≡ record_of (view d) → other ≡ view d
one_record d other l e = no_other (view d) d.ok other l e
