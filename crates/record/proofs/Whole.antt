-- The parts of an accepted record. Assumes nothing.
use Rattle.std.proofs.Common.{◌≡◌, ℕ, ◌+◌, ◌<◌, ◌≤◌, false, ltb, List, length, Ok, Err, ◌∙◌}
use Rattle.std.proofs.lemmas.Bool.{lt-ltb, le-ltb}
use Rattle.netlist.specs.declared.parts.Net.{Net}
use Rattle.netlist.specs.Netlist.{Netlist, netlist}
use Rattle.faults.specs.declared.RecordFault.TheVariants.{Block, BytesFollow}
use Rattle.record.specs.declared.head.Head.{Head}
use Rattle.record.specs.Steps.{inside}
use Rattle.record.specs.Blocks.{head_block, supplies_block, menu_block, net_block}
use Rattle.record.specs.Record.{blocks, ended, reads_as}
use Rattle.record.proofs.Readings.{then_ok, inside_ok, else_ok}
use Rattle.netlist.specs.Slots.{Supplies, Menu}

-- the parts, each read where the one before ended
pub record PartsRead (bs : List ℕ) (h : Head) (s : Supplies) (ms : List Menu) (ns : List Net) (to : ℕ) : Type 0 where
  pub a : ℕ
  pub b : ℕ
  pub c : ℕ
  pub head : head_block bs 0 ≡ Ok (h, a)
  pub supplies : supplies_block bs a ≡ Ok (s, b)
  pub menus : blocks (menu_block s.map bs) h.modules 2 b ≡ Ok (ms, c)
  pub nets : blocks (net_block h.modules bs) h.nets (2 + h.modules) c ≡ Ok (ns, to)

-- what a record reads as whose parts were read: its design, or a fault where bytes follow
module _ {bs : List ℕ} {h : Head} {s : Supplies} {ms : List Menu} {ns : List Net} {to : ℕ} (p : PartsRead bs h s ms ns to) where
  pub parts_whole : reads_as bs ≡ ended bs (2 + h.modules + h.nets) to (netlist h.terms s ms ns)
  parts_whole = rw (p.head, p.supplies, p.menus, p.nets)

  pub parts_taken : length bs ≤ to → reads_as bs ≡ Ok (netlist h.terms s ms ns)
  parts_taken l = parts_whole ∙ rw (le-ltb to (length bs) l)

  pub parts_followed : to < length bs → reads_as bs ≡ Err (BytesFollow (2 + h.modules + h.nets) to)
  parts_followed l = parts_whole ∙ rw (lt-ltb to (length bs) l)

-- the parts of an accepted record
pub record PartsOf (bytes : List ℕ) (n : Netlist) : Type 0 where
  pub h : Head
  pub s : Supplies
  pub ms : List Menu
  pub ns : List Net
  pub to : ℕ
  pub read : PartsRead bytes h s ms ns to
  pub over : ltb to (length bytes) ≡ false
  pub same : netlist h.terms s ms ns ≡ n

pub parts_of : (bytes : List ℕ) (n : Netlist) → reads_as bytes ≡ Ok n → PartsOf bytes n
parts_of bytes n e =
    let p1 = then_ok (inside (Block 0) (head_block bytes 0)) _ n e in
    let h = p1.0.0 in
    let a = p1.0.1 in
    let p2 = then_ok (inside (Block 1) (supplies_block bytes a)) _ n p1.2 in
    let s = p2.0.0 in
    let b = p2.0.1 in
    let p3 = then_ok (blocks (menu_block s.map bytes) h.modules 2 b) _ n p2.2 in
    let p4 = then_ok (blocks (net_block h.modules bytes) h.nets (2 + h.modules) p3.0.1) _ n p3.2 in
    let p5 = else_ok (ltb p4.0.1 (length bytes)) (Ok (netlist h.terms s p3.0.0 p4.0.0)) (BytesFollow (2 + h.modules + h.nets) p4.0.1) n p4.2 in
    record {
      h = h;
      s = s;
      ms = p3.0.0;
      ns = p4.0.0;
      to = p4.0.1;
      read = record { a = a; b = b; c = p3.0.1; head = inside_ok (Block 0) (head_block bytes 0) (h, a) p1.1; supplies = inside_ok (Block 1) (supplies_block bytes a) (s, b) p2.1; menus = p3.1; nets = p4.1 };
      over = p5.0;
      same = (let q = p5.1 in cc);
    }
