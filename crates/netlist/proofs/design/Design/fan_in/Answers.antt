use Rattle.std.proofs.Common.{sym, arith}
use Rattle.netlist.specs.View.{view}
use Rattle.netlist.proofs.ByReceiver.{fan_in_past}
use Rattle.netlist.proofs.Kept.{kept}
use Rattle.netlist.proofs.design.Design.fan_in.Goals as goal

pub returns-then-module-ge64 : goal.returns-then-module-ge64
returns-then-module-ge64 c =
    let n = view c.args.self.now in
    let k = kept n c.args.self.now.ok in
    sym (fan_in_past _ c.args.module 0 n.nets k.nets (omega arith))
