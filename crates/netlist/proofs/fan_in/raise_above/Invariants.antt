use Rattle.std.proofs.Common.{◌≡◌, ℕ, ◌+◌, if◌then◌else◌, nat_lt, slice_index}
use Rattle.netlist.proofs.fan_in.raise_above.Given as goal

abbrev pub invariant-loop-count : goal.invariant-loop-count
invariant-loop-count l =
    (k : ℕ) → slice_index l.count-items k ≡ slice_index l.initial.count-items k + (if nat_lt k l.count-index then 1 else 0)
