-- The nets into a module. Assumes nothing.
use Rattle.std.specs.Prelude.{ℕ, ◌+◌, if◌then◌else◌, List, [], ◌∷◌, ◌==◌}
use Rattle.netlist.specs.declared.parts.Net.{Net}
use Rattle.netlist.specs.Netlist.{Netlist}

-- the numbers of the nets whose receiver is module m, lowest first; the list of nets begins with net i
abbrev pub fan_in_from : ℕ → ℕ → List Net → List ℕ
fan_in_from m i [] = []
fan_in_from m i (t ∷ ts) = if t.receiver == m then i ∷ fan_in_from m (i + 1) ts else fan_in_from m (i + 1) ts

abbrev pub fan_in : Netlist → ℕ → List ℕ
fan_in n m = fan_in_from m 0 n.nets
