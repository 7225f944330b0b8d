use Rattle.std.proofs.Common.{sym, ◌∙◌, arith}
use Rattle.std.proofs.lemmas.Bool.{le-ltb}
use Rattle.netlist.proofs.Maps.{bit_past_byte}
use Rattle.netlist.proofs.parts.stands.Goals as goal

pub returns-else-i-lt8 : goal.returns-else-i-lt8
returns-else-i-lt8 c =
    le-ltb c.args.i 8 (omega arith) ∙ sym (bit_past_byte c.args.map c.args.i (omega arith) (omega arith))
