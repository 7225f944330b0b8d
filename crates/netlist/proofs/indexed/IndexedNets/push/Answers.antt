use Rattle.std.proofs.Common.{length, ap, arith, rules}
use Rattle.netlist.proofs.ByReceiver.{few_numbers, first_within, index_push}
use Rattle.netlist.proofs.indexed.IndexedNets.push.Goals as goal

pub add-requires-clause-few : goal.add-requires-clause-few
add-requires-clause-few c = omega (arith, few_numbers _ _ _ c.self.invariant.1, ap length c.self.view_is)

pub add-requires-clause-within : goal.add-requires-clause-within
add-requires-clause-within c = λ m l. omega (arith, first_within _ _ _ c.self.invariant.1 m l)

pub invariant_of-self : goal.invariant_of-self
invariant_of-self c =
    let a = c.add.ensures in (
      search rules,
      rw c.push_reserved.ensures.items (index_push _ _ _ c.self.invariant.1 c.args.net _ _ _ c.requires.below (omega arith) a.nets a.size a.first),
    )
