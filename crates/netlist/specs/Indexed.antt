-- What a table of nets and its index keep: memory for their full size, and that the one is the index of the other. Assumes
-- nothing.
use Rattle.std.specs.Prelude.{◌≤◌, vec_items, vec_capacity}
use Rattle.netlist.specs.declared.fan_in.FanIn.{FanIn}
use Rattle.netlist.specs.declared.table.NetTable.{NetTable}
use Rattle.netlist.specs.ByReceiver.{Index}

-- the largest design has 256 nets
abbrev pub Roomy : NetTable → FanIn → Type 0
Roomy t f = (256 ≤ vec_capacity t.items) × (256 ≤ vec_capacity f.nets)

-- the index is that of the nets
abbrev pub Indexed : NetTable → FanIn → Type 0
Indexed t f = Index (vec_items f.nets) f.first (vec_items t.items)
