use Rattle.record.proofs.HandedOut.{hands_out}
use Rattle.record.proofs.reader.Reader.new.Goals as goal

pub returns-clause-hands_out : goal.returns-clause-hands_out
returns-clause-hands_out c = hands_out c.args.bytes.now
