use Rattle.std.proofs.Common.{arith}
use Rattle.netlist.specs.Rules.{no_menu}
use Rattle.netlist.specs.View.{drawn}
use Rattle.netlist.specs.Refusals.{refused}
use Rattle.record.proofs.Refilled.{menus_put}
use Rattle.record.proofs.fill.fill_menus.Goals as goal

pub loop-menu-preserved : goal.loop-menu-preserved
loop-menu-preserved c =
    let n = drawn c.args.draft.now in
    menus_put n.terms n.supplies c.args.menus.now c.requires.few c.requires.lawful n.nets c.loop-menu.menu-index (omega arith) no_menu
    (drawn c.loop-menu.draft) (drawn c.module.new.self) (refused c.module.result) c.loop-menu.invariant c.module.ensures.answer c.module.ensures.after
