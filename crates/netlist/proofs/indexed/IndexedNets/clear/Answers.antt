use Rattle.std.proofs.Common.{rules}
use Rattle.netlist.proofs.ByReceiver.{index_none}
use Rattle.netlist.proofs.indexed.IndexedNets.clear.Goals as goal

pub invariant_of-self : goal.invariant_of-self
invariant_of-self c = (search rules, index_none _ _ _ c.clear.ensures.items c.clear-2.ensures.nets c.clear-2.ensures.first)
