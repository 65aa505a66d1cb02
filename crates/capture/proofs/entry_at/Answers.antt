-- No byte and another kind are refused with 2, then the length is looked at, then the fields are read.
use mathlib.Core.Path.{sym, ◌∙◌}
use native.Mathlib.Omega.{arith}
use Rattle.signed.proofs.Laws.{number_of_bits}
use Rattle.capture.proofs.Reading.{reads_nothing, reads_wrong, reads_cut, reads_as}
use Rattle.capture.proofs.entry_at.Goals as goal

pub returns-then-capture-at : goal.returns-then-capture-at
returns-then-capture-at c = rw c.refused.ensures (sym (reads_nothing _ _ (omega arith)))

pub returns-then-capture-at-ne5 : goal.returns-then-capture-at-ne5
returns-then-capture-at-ne5 c = rw c.refused-then-capture-at-ne5.ensures (sym (reads_wrong _ _ c.if-capture-at-ne5.true))

pub returns-then-capture-at-2 : goal.returns-then-capture-at-2
returns-then-capture-at-2 c = rw c.refused-then-capture-at-2.ensures (sym (reads_cut _ _ c.if-capture-at-ne5.false (omega arith)))

pub returns : goal.returns
returns c =
    reads_as _ _ _ (record {
      kind = c.if-capture-at-ne5.false;
      inside = omega arith;
      tick = c.read_u32-tick.ensures;
      edge = c.read_u16-edge.ensures;
      limit = number_of_bits _ (record { sfits = c.read_i32-limit.type_inv }) ∙ c.read_i32-limit.ensures;
    })
