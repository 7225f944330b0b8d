-- Where a reader can stand. Assumes nothing.
use Rattle.std.specs.Prelude.{ℕ, Bool, true, ◌&&◌, List, length, nat_le, nat_lt}
use Rattle.record.specs.declared.head.Head.{Head}
use Rattle.record.specs.declared.reader.State.{State}
use Rattle.record.specs.declared.reader.State.TheVariants.{Head as AtHead, Supplies as AtSupplies, Module, Net, End, Failed}
use Rattle.record.specs.declared.reader.Stand.{Stand}

-- the block that it is about to read is one of those that the head announces
abbrev pub announced : Head → State → Bool
announced h AtHead = true
announced h AtSupplies = true
announced h (Module m) = nat_lt m h.modules
announced h (Net i) = nat_lt i h.nets
announced h End = true
announced h (Failed f) = true

abbrev pub sound : List ℕ → Stand → Bool
sound bytes s = nat_le s.at (length bytes) && (nat_le s.head.modules 64 && (nat_le s.head.nets 256 && announced s.head s.state))
