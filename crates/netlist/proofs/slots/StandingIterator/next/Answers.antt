use Rattle.std.proofs.Common.{◌≡◌, ◌-◌, ◌<◌, [], ◌∷◌, sym, length, ap, ◌∙◌, zero-add, arith}
use lib.Bits.{bit_and}
use lib.Count.{count_trailing_zeros}
use Rattle.netlist.specs.Slots.{used}
use Rattle.netlist.specs.Standing.{left}
use Rattle.netlist.proofs.Lowest.{lowest}
use Rattle.netlist.proofs.Used.{used_none, used_lowest}
use Rattle.netlist.proofs.slots.StandingIterator.next.Goals as goal

pub returns-then-self-eq0-clause-steps : goal.returns-then-self-eq0-clause-steps
returns-then-self-eq0-clause-steps g c =
    let s = c.args.self.now in
    let e : left s ≡ [] = ap (λ m. used m 0 s.values.now) c.if-self-eq0.true ∙ used_none 0 s.values.now in
    (e, e)

pub returns-clause-steps : goal.returns-clause-steps
returns-clause-steps g c =
    let s = c.args.self.now in
    let low = count_trailing_zeros 8 s.map in
    let w = lowest s.map (omega arith) (omega arith) in
    let l : low < length s.values.now = omega (arith, w.in_byte, s.eight) in
    used_lowest s.map 0 low s.values.now c.index-values-place.result (omega arith) w (zero-add low) l
    ∙ ap (λ x. (low, x) ∷ used (bit_and s.map (s.map - 1)) 0 s.values.now) (sym c.index-values-place.is)

pub returns-clause-goes : goal.returns-clause-goes
returns-clause-goes g c =
    let e = ap length (returns-clause-steps g c) in
    record { on = λ f. (tt, f, omega arith); keeps = tt; rests = λ f. tt }
