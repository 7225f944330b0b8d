-- Arrivals: what is kept of the delays of the paths to a module. Assumes nothing.
use Rattle.std.specs.Prelude.{◌≡◌, ℕ, zero, suc, ◌+◌, ◌*◌, ◌<◌, ◌≤◌, max, Bool, ◌⊎◌, List, [], ◌∷◌, ◌++◌, map, length, fold, nat_le, slice_index}
use Rattle.netlist.specs.FanIn.{fan_in_from}
use Rattle.netlist.specs.Netlist.{Netlist}
use Rattle.netlist.specs.Rules.{net}
use Rattle.timing.specs.Paths.{Timed, net_of, PathTo, path_delay, first_module, Undriven, timed}

-- A way of keeping one of two arrivals, as the later one: order and grouping do not matter, and a delay may be added
-- before or after.
pub record KeepsOne (keep : ℕ → ℕ → ℕ) : Type 0 where
  pub one_of_two : (x y : ℕ) → (keep x y ≡ x) ⊎ (keep x y ≡ y)
  pub order : (x y : ℕ) → keep x y ≡ keep y x
  pub grouping : (x y z : ℕ) → keep (keep x y) z ≡ keep x (keep y z)
  pub adding : (x y c : ℕ) → keep (x + c) (y + c) ≡ keep x y + c

-- the arrival over net i, those at lower modules being known
abbrev pub over_net : Timed → List ℕ → ℕ → ℕ
over_net g known i = slice_index known (net_of g i).driver + g.delays.on_net i

module _ (keep : ℕ → ℕ → ℕ) where
  -- what is kept of several, and the start where there are none
  abbrev pub kept : ℕ → List ℕ → ℕ
  kept start [] = start
  kept start (t ∷ ts) = fold keep t ts

  module _ (g : Timed) where
    -- when module m may begin, and when it is done
    abbrev pub ready : List ℕ → ℕ → ℕ
    ready known m = kept (g.delays.start m) (map (over_net g known) (fan_in_from m 0 g.nets))

    abbrev pub done : List ℕ → ℕ → ℕ
    done known m = ready known m + g.delays.at_module m

    -- the arrivals at the first k modules, each from those before it
    abbrev pub arrivals : ℕ → List ℕ
    arrivals zero = []
    arrivals (suc k) = let known = arrivals k in known ++ done known k ∷ []

    -- t is what is kept of the delays of all paths from undriven modules to m: one of them has it, and it prevails
    -- against each
    pub record Arrives (m t : ℕ) : Type 0 where
      pub by_path : List ℕ
      pub is_path : PathTo g m by_path
      pub from_undriven : Undriven g (first_module g m by_path)
      pub has_delay : path_delay g m by_path ≡ t
      pub prevails : (path : List ℕ) → PathTo g m path → Undriven g (first_module g m path) → keep (path_delay g m path) t ≡ t

-- a net into module m
abbrev pub Into : Netlist → ℕ → ℕ → Type 0
Into n m i = (i < length n.nets) × ((net n i).receiver ≡ m)

-- what keeps the sums small: no arrival below module m has more than this for each module up to it
abbrev pub InReach : ℕ → List ℕ → Type 0
InReach m known = (k : ℕ) → k < m → slice_index known k ≤ 40000 * (k + 1)

-- t is the longest delay of a path to m: some path to it has it and none has more
pub record LongestTo (g : Timed) (m t : ℕ) : Type 0 where
  pub by_path : List ℕ
  pub is_path : PathTo g m by_path
  pub has_delay : path_delay g m by_path ≡ t
  pub none_longer : (path : List ℕ) → PathTo g m path → path_delay g m path ≤ t

-- t is the longest delay of a path: some path has it and none has more; 0 where there is no path
pub record Longest (g : Timed) (t : ℕ) : Type 0 where
  pub none_longer : (m : ℕ) (path : List ℕ) → PathTo g m path → path_delay g m path ≤ t
  pub some_path : ((g.size ≡ 0) × (t ≡ 0)) ⊎ ((m : ℕ) × (path : List ℕ) × PathTo g m path × (path_delay g m path ≡ t))

-- the longest delay of a path under an assignment, from the latest arrivals
module _ (n : Netlist) (a : List ℕ) where
  abbrev pub latest : List ℕ
  latest = arrivals max (timed n a) (timed n a).size

  abbrev pub longest_delay : ℕ
  longest_delay = fold max 0 latest

  abbrev pub meets : Bool
  meets = nat_le longest_delay n.terms.cycle
