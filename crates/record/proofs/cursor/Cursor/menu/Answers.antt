use Rattle.std.proofs.Common.{[], sym, ◌∙◌}
use Rattle.std.proofs.lemmas.Result.{err_from_is_err_and}
use Rattle.record.specs.Blocks.{menu_block}
use Rattle.record.proofs.Gathered.{one_block, alone_ok, alone_err}
use Rattle.record.proofs.cursor.Cursor.menu.Goals as goal

pub returns-in_err-menus-clause-value : goal.returns-in_err-menus-clause-value
returns-in_err-menus-clause-value c =
    let p = err_from_is_err_and c.from_residual.result c.from_residual.ensures.1 in
    let r = c.in_err-menus.ensures.value ∙ one_block (menu_block c.args.supplies c.args.self.now.bytes.now) c.args.block c.args.self.now.at in
    rw (p.1, p.2) (sym (alone_err _ _ r))

pub returns-clause-value : goal.returns-clause-value
returns-clause-value c =
    let r = c.in_ok-menus.ensures.value ∙ one_block (menu_block c.args.supplies c.args.self.now.bytes.now) c.args.block c.args.self.now.at in
    sym (alone_ok _ c.menus.new.places (record { map = 0; values = [] }) c.menus.new.self.at r)
