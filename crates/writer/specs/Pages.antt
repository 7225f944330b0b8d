-- A page that a record is written on. Assumes nothing.
use Rattle.std.specs.Prelude.{ℕ, ◌+◌, ◌≤◌, List, length}
use Rattle.arrayvec.specs.ArrayVec.{ArrayVec, array_vec_len}
use Rattle.writer.specs.declared.page.TheConstants.{MOST}

abbrev pub HasRoom : ArrayVec ℕ → List ℕ → Type 0
HasRoom page bytes = array_vec_len page + length bytes ≤ MOST
