use Rattle.std.proofs.Common.{◌++◌, ap, ◌∙◌}
use Rattle.netlist.specs.View.{view}
use Rattle.record.specs.Record.{head_bytes, supplies_bytes, menu_bytes, net_bytes, all_bytes}
use Rattle.writer.proofs.Left.{four_joined, last_fits}
use Rattle.writer.proofs.write.DesignEntry.put.Goals as goal

pub put_all-requires-2 : goal.put_all-requires-2
put_all-requires-2 c =
    let n = view c.args.self.now in
    let f = c.put.ensures ∙ ap (λ s. c.put_head.new.page.items ++ supplies_bytes s) c.supplies.ensures in
    let g = c.put_all.ensures ∙ ap (λ ms. c.put.new.page.items ++ all_bytes menu_bytes ms) c.menus.ensures in
    rw c.nets.ensures (last_fits c.args.page.now.items (head_bytes n) (supplies_bytes n.supplies) (all_bytes menu_bytes n.menus) (all_bytes net_bytes n.nets)
    _ _ _ c.put_head.ensures f g _ c.requires)

pub returns : goal.returns
returns c =
    let n = view c.args.self.now in
    let f = c.put.ensures ∙ ap (λ s. c.put_head.new.page.items ++ supplies_bytes s) c.supplies.ensures in
    let g = c.put_all.ensures ∙ ap (λ ms. c.put.new.page.items ++ all_bytes menu_bytes ms) c.menus.ensures in
    let k = c.put_all-2.ensures ∙ ap (λ ns. c.put_all.new.page.items ++ all_bytes net_bytes ns) c.nets.ensures in
    four_joined c.args.page.now.items (head_bytes n) (supplies_bytes n.supplies) (all_bytes menu_bytes n.menus) (all_bytes net_bytes n.nets)
    _ _ _ c.put_head.ensures f g _ k
