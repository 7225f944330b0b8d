-- Paths and their delays. Assumes nothing.
use Rattle.std.specs.Prelude.{◌≡◌, ℕ, ◌+◌, ◌<◌, ◌≤◌, if◌then◌else◌, List, [], ◌∷◌, length, ◌≢◌, slice_index_or}
use Rattle.netlist.specs.declared.parts.Net.{Net}
use Rattle.netlist.specs.Netlist.{Netlist, modules}
use Rattle.netlist.specs.Rules.{choice, net, no_net}
use Rattle.timing.specs.Assignments.{supply}
use Rattle.timing.specs.Shifters.{needs_shifter}

-- A delay model: what a path begins with at each module, and the delay of each module and net.
pub record Model : Type 0 where
  pub start : ℕ → ℕ
  pub at_module : ℕ → ℕ
  pub on_net : ℕ → ℕ

-- Modules joined by nets, and the delays that paths through them add up. Nothing of supplies or shifters is seen here.
pub record Timed : Type 0 where
  pub size : ℕ
  pub nets : List Net
  pub delays : Model

module _ (g : Timed) where
  abbrev pub net_of : ℕ → Net
  net_of i = slice_index_or g.nets i no_net

  -- A path is told by the module at which it ends and the numbers of the nets that it takes, the last one first; with
  -- no net it is that module alone. Each net leads from the module before it to the one after, and parallel nets
  -- make different paths.
  abbrev pub PathTo : ℕ → List ℕ → Type 0
  PathTo m [] = m < g.size
  PathTo m (i ∷ before) = (i < length g.nets) × ((net_of i).receiver ≡ m) × PathTo (net_of i).driver before

  -- the delays of all its modules and nets
  abbrev pub path_delay : ℕ → List ℕ → ℕ
  path_delay m [] = g.delays.start m + g.delays.at_module m
  path_delay m (i ∷ before) = path_delay (net_of i).driver before + g.delays.on_net i + g.delays.at_module m

  -- the module that it begins at
  abbrev pub first_module : ℕ → List ℕ → ℕ
  first_module m [] = m
  first_module m (i ∷ before) = first_module (net_of i).driver before

  -- no net leads to it
  abbrev pub Undriven : ℕ → Type 0
  Undriven m = (i : ℕ) → i < length g.nets → (net_of i).receiver ≢ m

-- the modules and nets of a design under a delay model
abbrev pub timed_by : Netlist → Model → Timed
timed_by n d = record { size = modules n; nets = n.nets; delays = d }

-- Under an assignment a module has the delay of its supply, and a net its wire delay, and the shifter delay where it
-- needs a shifter. Every path begins with nothing.
module _ (n : Netlist) (a : List ℕ) where
  abbrev pub module_delay : ℕ → ℕ
  module_delay m = (choice n m (supply a m)).delay

  abbrev pub net_delay : ℕ → ℕ
  net_delay i = (net n i).wire + (if needs_shifter n a i then n.terms.shifter.delay else 0)

  abbrev pub model : Model
  model = record { start = λ _. 0; at_module = module_delay; on_net = net_delay }

  abbrev pub timed : Timed
  timed = timed_by n model

  -- no path's delay exceeds the cycle time
  abbrev pub Meets : Type 0
  Meets = (m : ℕ) (path : List ℕ) → PathTo timed m path → path_delay timed m path ≤ n.terms.cycle
