use Rattle.std.proofs.Common.{rules}
use Rattle.netlist.proofs.ByReceiver.{index_none}
use Rattle.netlist.proofs.indexed.IndexedNets.new.Goals as goal

pub invariant_of-result : goal.invariant_of-result
invariant_of-result c =
    let made = c.in_ok-new.ensures in
    (search rules, index_none _ _ _ (search rules) made.0 made.1)
