use Rattle.std.proofs.Common.{◌≡◌, ◌++◌, drop}
use Rattle.record.specs.Record.{all_bytes}
use Rattle.writer.proofs.entry.put_all.Given as goal

-- what is left to put completes the list
abbrev pub invariant-loop-entry : goal.invariant-loop-entry
invariant-loop-entry g l =
    l.page.items ++ all_bytes g.T.Entry.bytes (drop l.entry-index l.entries) ≡ l.initial.page.items ++ all_bytes g.T.Entry.bytes l.entries
