-- The numbers of the nets in the order of their receivers. All is read off the list of receivers. Assumes nothing.
use Rattle.std.specs.Prelude.{◌≡◌, ℕ, zero, suc, ◌+◌, if◌then◌else◌, List, [], ◌∷◌, ◌++◌, map, length, ◌==◌}
use Rattle.std.specs.List.{range_with_len}
use Rattle.netlist.specs.declared.parts.Net.{Net}

-- the receiver of each net
abbrev pub receivers : List Net → List ℕ
receivers ts = map (λ t. t.receiver) ts

-- the nets into module m, lowest first; the list of receivers begins with net i
abbrev pub into : ℕ → ℕ → List ℕ → List ℕ
into m i [] = []
into m i (r ∷ rs) = if r == m then i ∷ into m (i + 1) rs else into m (i + 1) rs

-- the nets into the modules below m, module by module
unfoldable pub into_below : ℕ → List ℕ → List ℕ
into_below zero rs = []
into_below (suc m) rs = into_below m rs ++ into m 0 rs

-- how many nets come before those into module m
unfoldable pub begin : List ℕ → ℕ → ℕ
begin rs m = length (into_below m rs)

-- these counts for the modules below n, in one list
unfoldable pub begins : ℕ → List ℕ → List ℕ
begins n rs = map (begin rs) (range_with_len 0 n)

-- all nets by receiver, and where those into each module begin; receivers are below 64, so entry 64 counts all
abbrev pub Index : List ℕ → List ℕ → List Net → Type 0
Index numbers first ts = (numbers ≡ into_below 64 (receivers ts)) × (first ≡ begins 65 (receivers ts))
