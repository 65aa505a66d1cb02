-- Invariant: so many records are taken, as `Taken` says.
use Rattle.arrays.specs.At.{atℤ}
use Rattle.capture.specs.inner.Taken.{Taken}
use Rattle.capture.proofs.take_window.Given as goal

abbrev pub invariant-loop-i : goal.invariant-loop-i
invariant-loop-i l = Taken (atℤ l.fn.capacities) l.capture l.first l.i l.seen l.capacities
