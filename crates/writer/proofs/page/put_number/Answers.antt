use Rattle.std.proofs.Common.{arith}
use Rattle.std.proofs.lemmas.Grind.{common_steps}
use Rattle.writer.proofs.Numbers.{last_bytes}
use Rattle.writer.proofs.page.put_number.Goals as goal

pub returns : goal.returns
returns c = let bytes = last_bytes c.args.width c.args.n c.requires.width in grind (arith, common_steps)
