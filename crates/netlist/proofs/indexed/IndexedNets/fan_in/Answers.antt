use Rattle.std.proofs.Common.{◌+◌, ap, ◌∙◌, arith}
use Rattle.netlist.specs.FanIn.{fan_in_from}
use Rattle.netlist.proofs.ByReceiver.{first_rises, first_within, index_between}
use Rattle.netlist.proofs.indexed.IndexedNets.fan_in.Goals as goal

pub of-requires-clause-rising : goal.of-requires-clause-rising
of-requires-clause-rising c = first_rises _ _ _ c.self.invariant.1 c.args.module c.requires

pub of-requires-clause-within : goal.of-requires-clause-within
of-requires-clause-within c = omega (arith, first_within _ _ _ c.self.invariant.1 (c.args.module + 1) (omega arith))

pub returns : goal.returns
returns c =
    c.of.ensures ∙ index_between _ _ _ c.self.invariant.1 c.args.module c.requires ∙ ap (fan_in_from c.args.module 0) c.self.view_is
