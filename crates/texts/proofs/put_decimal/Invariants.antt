-- Invariant: the digits from place i on are written (`WrittenFrom`).
use Rattle.texts.proofs.Writing.{WrittenFrom}
use Rattle.texts.proofs.put_decimal.Given as goal

abbrev pub invariant-loop-i : goal.invariant-loop-i
invariant-loop-i l = WrittenFrom l.fn.n l.fn.at l.fn.text l.m l.i l.text
