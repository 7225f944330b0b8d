use Rattle.std.proofs.Common.{◌≡◌, ℕ, ◌+◌, ◌-◌, ◌<◌, List, get_or, take, drop, sym, ◌∙◌, arith, rules, get_or-take, get_or-drop, length-take}
use Rattle.record.proofs.Spelled.{number_more, number_small, number_grows}
use Rattle.record.proofs.cursor.Cursor.number.Goals as goal

pub overflow_mul-n : goal.overflow_mul-n
overflow_mul-n c = let s = number_small c.loop-byte.byte-index c.loop-byte.n (omega arith) c.loop-byte.invariant.0 in search rules

pub overflow_add-n : goal.overflow_add-n
overflow_add-n c =
    let s = number_small c.loop-byte.byte-index c.loop-byte.n (omega arith) c.loop-byte.invariant.0 in
    let b : c.from.result < 256 = search rules in
    search rules

-- a byte of the field is one of the record
in_record : (bs : List ℕ) (at w k : ℕ) → k < w → get_or (take (at + w - at) (drop at bs)) k 0 ≡ get_or bs (at + k) 0
in_record bs at w k l = let h : k < at + w - at = omega arith in rw (get_or-take, get_or-drop)

pub loop-byte-preserved : goal.loop-byte-preserved
loop-byte-preserved c =
    let bs = c.args.self.now.bytes.now in
    let at = c.args.self.now.at in
    let w = c.args.width in
    let k = c.loop-byte.byte-index in
    let t = c.loop-byte-test.true in
    let l : k < w = omega (arith, length-take {A = ℕ}) in
    let b : c.from.result < 256 = search rules in
    let e = c.from.ensures ∙ in_record bs at w k l in (
      number_grows k c.loop-byte.n _ c.loop-byte.invariant.0 b,
      rw e (sym (number_more w k c.loop-byte.n bs at l) ∙ c.loop-byte.invariant.1),
    )
