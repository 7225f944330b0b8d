-- What a walk's table of arrivals says of the paths of a design. Assumes nothing.
use Rattle.std.proofs.Common.{◌≡◌, ℕ, ◌<◌, max, true, List, ◌++◌, length, get_or, IsTrue, ◌↔◌, sym, refl, ap, ◌∙◌, subst, ⊎_elim, arith}
use Rattle.netlist.specs.Netlist.{Netlist, modules, lawful}
use Rattle.netlist.proofs.Words.{keeps_rules}
use Rattle.std.proofs.lemmas.List.{get_or_append_left}
use Rattle.std.proofs.lemmas.Bool.{leb-true, le-leb}
use Rattle.timing.specs.Arrivals.{KeepsOne, Arrives, LongestTo, Longest, arrivals, latest, longest_delay, meets}
use Rattle.timing.specs.Paths.{Timed, Model, timed_by, timed, Meets, PathTo, path_delay}
use Rattle.timing.proofs.Arrived.{Forward, arrival, arrivals_at, length_arrivals, arrives, within_latest, greatest_longest}
use Rattle.timing.specs.Ways.{keeps_later}

pub forward : (n : Netlist) → lawful n ≡ true → (d : Model) → Forward (timed_by n d)
forward n ok d = let law = keeps_rules n ok in record { rises = λ i h. (law.ends i h).0; inside = λ i h. (law.ends i h).1 }

-- a table that begins with the arrivals
module _ (keep : ℕ → ℕ → ℕ) (g : Timed) (k : ℕ) (known rest : List ℕ) (same : known ≡ arrivals keep g k ++ rest) where
  pub table_at : (m : ℕ) → m < k → get_or known m 0 ≡ arrival keep g m
  table_at m h =
      let l : m < length (arrivals keep g k) = rw (length_arrivals keep g k) h in
      ap (λ (ts : List ℕ). get_or ts m 0) same ∙ get_or_append_left (arrivals keep g k) rest 0 m l ∙ arrivals_at keep g k m h

module _ (n : Netlist) (ok : lawful n ≡ true) where
  pub walked : (keep : ℕ → ℕ → ℕ) → KeepsOne keep → (d : Model) (known rest : List ℕ) → known ≡ arrivals keep (timed_by n d) (modules n) ++ rest → (m : ℕ) → m < modules n → Arrives keep (timed_by n d) m (get_or known m 0)
  walked keep way d known rest same m h =
      subst (Arrives keep (timed_by n d) m) (sym (table_at keep (timed_by n d) (modules n) known rest same m h)) (arrives keep (timed_by n d) way (forward n ok d) m h)

  module _ (a : List ℕ) where
    abbrev g : Timed
    g = timed n a

    pub walked_latest : (known rest : List ℕ) → known ≡ latest n a ++ rest → (m : ℕ) → m < modules n → LongestTo g m (get_or known m 0)
    walked_latest known rest same m h =
        let f = forward n ok _ in
        let e = sym (table_at max g (modules n) known rest same m h) in
        let b = arrives max g keeps_later f m h in
        subst (LongestTo g m) e (record { by_path = b.by_path; is_path = b.is_path; has_delay = b.has_delay; none_longer = λ path p. within_latest g f (λ k i l r. refl) m path p })

    pub longest : Longest g (longest_delay n a)
    longest = greatest_longest g (forward n ok _) (λ k i l r. refl)

    -- the longest path decides for all
    pub meets_decides : IsTrue (meets n a) ↔ Meets n a
    meets_decides = (all, some)
      where
        all : meets n a ≡ true → Meets n a
        all t m path p =
            let h = leb-true (longest_delay n a) n.terms.cycle t in
            let l = longest.none_longer m path p in
            omega arith

        some : Meets n a → meets n a ≡ true
        some h = le-leb (longest_delay n a) n.terms.cycle (⊎_elim
            (λ (e : (modules n ≡ 0) × (longest_delay n a ≡ 0)). omega (arith, e.1))
            (λ (e : (m : ℕ) × (path : List ℕ) × PathTo g m path × (path_delay g m path ≡ longest_delay n a)). let l = h e.0 e.1 e.2 in omega (arith, e.3))
            longest.some_path)
