use Rattle.netlist.specs.View.{drawn}
use Rattle.netlist.proofs.Plain.{same_meaning}
use Rattle.netlist.proofs.Words.{keeps_rules}
use Rattle.netlist.proofs.design.draft.Draft.design.Goals as goal

pub returns-clause-rules : goal.returns-clause-rules
returns-clause-rules c = keeps_rules (drawn c.args.self.now) c.args.self.now.design.ok

pub returns-clause-plain : goal.returns-clause-plain
returns-clause-plain c = λ other h s. same_meaning (drawn c.args.self.now) other c.args.self.now.design.ok h s
