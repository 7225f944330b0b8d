use Rattle.std.proofs.Common.{◌≡◌, ◌+◌, ◌++◌, take}
use Rattle.arrayvec.specs.ArrayVec.{array_vec_len}
use Rattle.writer.proofs.page.put_number.Given as goal

abbrev pub invariant-loop-byte : goal.invariant-loop-byte
invariant-loop-byte l = record {
  len : array_vec_len l.page ≡ array_vec_len l.initial.page + l.byte-index;
  items : l.page.items ≡ l.initial.page.items ++ take l.byte-index l.byte-items;
}
