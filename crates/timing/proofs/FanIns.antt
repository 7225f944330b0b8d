-- The nets into a module are just those whose receiver it is. Assumes nothing.
use Rattle.std.proofs.Common.{◌≡◌, ℕ, zero, suc, ◌+◌, ◌<◌, Bool, true, false, cond, eqb, List, [], ◌∷◌, length, get_or, refl, arith}
use Rattle.netlist.specs.FanIn.{fan_in_from}
use Rattle.netlist.specs.Rules.{no_net}
use Rattle.netlist.specs.declared.parts.Net.{Net}
use Rattle.std.proofs.lemmas.Bool.{eqb-true, eqb-false}

-- i is the number of a net of the list, which begins with net j, and that net leads to m
abbrev pub Leads : ℕ → ℕ → List Net → ℕ → Type 0
Leads m j ts i = (k : ℕ) × (i ≡ j + k) × (k < length ts) × ((get_or ts k no_net).receiver ≡ m)

later : (m j : ℕ) (t : Net) (ts : List Net) (i : ℕ) → Leads m (j + 1) ts i → Leads m j (t ∷ ts) i
later m j t ts i (k, e, l, r) = (suc k, omega arith, omega arith, r)

pub fan_in_leads : (m j : ℕ) (ts : List Net) (k : ℕ) → k < length (fan_in_from m j ts) → Leads m j ts (get_or (fan_in_from m j ts) k 0)
fan_in_leads m j [] k h = absurd (omega arith)
fan_in_leads m j (t ∷ ts) k h = go (eqb t.receiver m) (eqb-true t.receiver m) k h (fan_in_leads m (j + 1) ts)
  where
    rest : List ℕ
    rest = fan_in_from m (j + 1) ts

    go : (b : Bool) → (b ≡ true → t.receiver ≡ m) → (k : ℕ) → k < length (cond b (j ∷ rest) rest) →
        ((k : ℕ) → k < length rest → Leads m (j + 1) ts (get_or rest k 0)) → Leads m j (t ∷ ts) (get_or (cond b (j ∷ rest) rest) k 0)
    go true b zero h ih = (0, omega arith, omega arith, b refl)
    go true b (suc k) h ih = later m j t ts _ (ih k (omega arith))
    go false b k h ih = later m j t ts _ (ih k h)

abbrev Found : List ℕ → ℕ → Type 0
Found is i = (k : ℕ) × (k < length is) × (get_or is k 0 ≡ i)

pub fan_in_has : (m j : ℕ) (ts : List Net) (i : ℕ) → Leads m j ts i → (k : ℕ) × (k < length (fan_in_from m j ts)) × (get_or (fan_in_from m j ts) k 0 ≡ i)
fan_in_has m j [] i (k, e, l, r) = absurd (omega arith)
fan_in_has m j (t ∷ ts) i (k, e, l, r) = go (eqb t.receiver m) (eqb-false t.receiver m) k e l r (fan_in_has m (j + 1) ts i)
  where
    rest : List ℕ
    rest = fan_in_from m (j + 1) ts

    go : (b : Bool) → (b ≡ false → t.receiver ≡ m → ⊥) → (k : ℕ) → i ≡ j + k → k < length (t ∷ ts) → (get_or (t ∷ ts) k no_net).receiver ≡ m →
        (Leads m (j + 1) ts i → Found rest i) → Found (cond b (j ∷ rest) rest) i
    go true b zero e l r ih = (0, omega arith, omega arith)
    go true b (suc k) e l r ih = let f = ih (k, omega arith, omega arith, r) in (suc f.0, omega (arith, f.1), f.2)
    go false b zero e l r ih = absurd (b refl r)
    go false b (suc k) e l r ih = ih (k, omega arith, omega arith, r)
