use Rattle.std.proofs.Common.{arith}
use Rattle.writer.proofs.Left.{next_fits, next_entry}
use Rattle.writer.proofs.entry.put_all.Goals as goal

pub put-requires : goal.put-requires
put-requires g c =
    let e = next_entry g.T.Entry.bytes c.args.entries.now c.loop-entry.entry-index c.entry-item.result (omega arith) c.entry-item.is in
    next_fits _ _ _ _ _ _ c.loop-entry.invariant e _ c.requires
