-- One call of a reader: what it answers, what it puts into the lent block, and where it stands after. Assumes nothing.
use Rattle.std.specs.Prelude.{ℕ, ◌+◌, if◌then◌else◌, List, length, Ok, Err, Result, nat_lt}
use Rattle.netlist.specs.Netlist.{new_terms}
use Rattle.netlist.specs.declared.parts.Net.{Net}
use Rattle.faults.specs.declared.RecordFault.{RecordFault}
use Rattle.faults.specs.declared.RecordFault.TheVariants as fault
use Rattle.record.specs.declared.head.Head.{Head}
use Rattle.record.specs.declared.reader.Block.{Block}
use Rattle.record.specs.declared.reader.Kind.{Kind}
use Rattle.record.specs.declared.reader.Kind.TheVariants as kind
use Rattle.record.specs.declared.reader.State.{State}
use Rattle.record.specs.declared.reader.State.TheVariants as state
use Rattle.record.specs.declared.reader.Stand.{Stand}
use Rattle.record.specs.Steps.{Read, inside}
use Rattle.record.specs.Blocks.{head_block, supplies_block, menu_block, net_block}
use Rattle.netlist.specs.Slots.{Supplies, Menu}

pub record Step : Type 0 where
  pub answer : Result Kind RecordFault
  pub stand : Stand
  pub block : Block

abbrev pub stand_at : State → ℕ → Head → ℕ → Stand
stand_at st at h supplies = record { state = st; at = at; head = h; supplies = supplies }

abbrev pub handed : Kind → Stand → Block → Step
handed k s p = record { answer = Ok k; stand = s; block = p }

-- a fault is kept, and repeated by every later call
abbrev pub failed : Stand → Block → RecordFault → Step
failed s p f = record { answer = Err f; stand = stand_at (state.Failed f) s.at s.head s.supplies; block = p }

-- a step by its answer, with the stand and the lent block after it
abbrev pub advanced : Stand → Result Kind RecordFault → Block → Step
advanced s (Ok k) p = handed k s p
advanced s (Err f) p = failed s p f

abbrev pub handing : {T : Type 0} → Read T RecordFault → Stand → Block → (T × ℕ → Step) → Step
handing (Ok x) s p next = next x
handing (Err f) s p next = failed s p f

-- which block comes next: the modules, then the nets, then the end
abbrev pub from_net : Head → ℕ → State
from_net h i = if nat_lt i h.nets then state.Net i else state.End

abbrev pub from_module : Head → ℕ → State
from_module h m = if nat_lt m h.modules then state.Module m else from_net h 0

-- the lent block with one part filled
abbrev pub with_head : Block → Head → Block
with_head p h = record { head = h; supplies = p.supplies; menu = p.menu; net = p.net }

abbrev pub with_supplies : Block → Supplies → Block
with_supplies p s = record { head = p.head; supplies = s; menu = p.menu; net = p.net }

abbrev pub with_menu : Block → Menu → Block
with_menu p m = record { head = p.head; supplies = p.supplies; menu = m; net = p.net }

abbrev pub with_net : Block → Net → Block
with_net p t = record { head = p.head; supplies = p.supplies; menu = p.menu; net = t }

abbrev pub step_from : State → List ℕ → Stand → Block → Step
step_from state.Head bytes s p =
    handing (inside (fault.Block 0) (head_block bytes s.at)) s p (λ x.
    handed kind.Head (stand_at state.Supplies x.1 x.0 s.supplies) (with_head p x.0))
step_from state.Supplies bytes s p =
    handing (inside (fault.Block 1) (supplies_block bytes s.at)) s p (λ x.
    handed kind.Supplies (stand_at (from_module s.head 0) x.1 s.head x.0.map) (with_supplies p x.0))
step_from (state.Module m) bytes s p =
    handing (inside (fault.Block (2 + m)) (menu_block s.supplies bytes s.at)) s p (λ x.
    handed kind.Module (stand_at (from_module s.head (m + 1)) x.1 s.head s.supplies) (with_menu p x.0))
step_from (state.Net i) bytes s p =
    handing (inside (fault.Block (2 + s.head.modules + i)) (net_block s.head.modules bytes s.at)) s p (λ x.
    handed kind.Net (stand_at (from_net s.head (i + 1)) x.1 s.head s.supplies) (with_net p x.0))
step_from state.End bytes s p =
    if nat_lt s.at (length bytes) then failed s p (fault.BytesFollow (2 + s.head.modules + s.head.nets) s.at) else handed kind.End s p
step_from (state.Failed f) bytes s p = record { answer = Err f; stand = s; block = p }

abbrev pub step : List ℕ → Stand → Block → Step
step bytes s p = step_from s.state bytes s p

-- a new reader
abbrev pub at_start : Stand
at_start = stand_at state.Head 0 (record { terms = new_terms; modules = 0; nets = 0 }) 0
