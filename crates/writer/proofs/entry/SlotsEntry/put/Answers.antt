use Rattle.std.proofs.Common.{◌++◌, ap, ◌∙◌, rules}
use Rattle.netlist.specs.Standing.{left}
use Rattle.record.specs.Record.{all_bytes}
use Rattle.writer.proofs.Left.{next_fits, bytes_used}
use Rattle.writer.proofs.entry.SlotsEntry.put.Goals as goal

pub loop-entry-init : goal.loop-entry-init
loop-entry-init g c =
    let s = c.args.self.now in
    let e = ap left c.into_iter-entry-iterator.ensures.into_iter_gives ∙ c.standing-entry-items.ensures in
    ap (λ ys. c.push.new.self.items ++ ys) (ap (all_bytes (λ p. g.T.Entry.bytes p.1)) e ∙ bytes_used g.T.Entry.bytes s.map 0 s.values)

pub put-requires : goal.put-requires
put-requires g c =
    let e = ap (all_bytes (λ p. g.T.Entry.bytes p.1)) c.in-Some.ensures.steps in
    next_fits c.loop-entry.page.items _ c.push.new.self.items _ (g.T.Entry.bytes c.in-Some.entry) _ c.loop-entry.invariant e _ (search rules)
