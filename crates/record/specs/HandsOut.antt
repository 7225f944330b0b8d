-- What a reader's calls hand out, one after another, by what the whole record reads as. Assumes nothing.
use Rattle.std.specs.Prelude.{◌≡◌, ℕ, zero, suc, ◌+◌, ◌<◌, ◌≤◌, true, List, length, is_ok, Ok, Err, slice_index_or}
use Rattle.netlist.specs.Netlist.{Netlist, modules}
use Rattle.netlist.specs.Rules.{no_menu, no_net}
use Rattle.faults.specs.declared.RecordFault.{RecordFault}
use Rattle.record.specs.declared.head.Head.{Head}
use Rattle.record.specs.declared.reader.Block.{Block}
use Rattle.record.specs.declared.reader.Kind.TheVariants as kind
use Rattle.record.specs.declared.reader.Stand.{Stand}
use Rattle.faults.specs.Faults.{block_of}
use Rattle.record.specs.Record.{reads_as}
use Rattle.record.specs.Reader.{Step, step, at_start}

-- call k, counted from 0, after k earlier ones that lend the same block
unfoldable pub call : ℕ → List ℕ → Stand → Block → Step
call zero bytes s p = step bytes s p
call (suc k) bytes s p = call k bytes (step bytes s p).stand (step bytes s p).block

-- the head of a design
abbrev pub head_of : Netlist → Head
head_of n = record { terms = n.terms; modules = modules n; nets = length n.nets }

-- The calls on the record of a design hand out its blocks in their order, and then the end.
pub record AllHanded (nth : ℕ → Step) (n : Netlist) : Type 0 where
  pub first : ((nth 0).answer ≡ Ok kind.Head) × ((nth 0).block.head ≡ head_of n)
  pub second : ((nth 1).answer ≡ Ok kind.Supplies) × ((nth 1).block.supplies ≡ n.supplies)
  pub each_module : (m : ℕ) → m < modules n → ((nth (2 + m)).answer ≡ Ok kind.Module) × ((nth (2 + m)).block.menu ≡ slice_index_or n.menus m no_menu)
  pub each_net : (i : ℕ) → i < length n.nets → ((nth (2 + modules n + i)).answer ≡ Ok kind.Net) × ((nth (2 + modules n + i)).block.net ≡ slice_index_or n.nets i no_net)
  pub ever_after : (k : ℕ) → 2 + modules n + length n.nets ≤ k → (nth k).answer ≡ Ok kind.End

-- The calls on a refused record tell its fault at the call of its block and ever after, and not before.
pub record FaultTold (nth : ℕ → Step) (f : RecordFault) : Type 0 where
  pub not_before : (k : ℕ) → k < block_of f → is_ok (nth k).answer ≡ true
  pub ever_after : (k : ℕ) → block_of f ≤ k → (nth k).answer ≡ Err f

-- Call k of a new reader hands out block k of the record, whatever the lent block held before.
pub record HandsOut (bytes : List ℕ) (p : Block) : Type 0 where
  pub accepted : (n : Netlist) → reads_as bytes ≡ Ok n → AllHanded (λ k. call k bytes at_start p) n
  pub refused : (f : RecordFault) → reads_as bytes ≡ Err f → FaultTold (λ k. call k bytes at_start p) f
