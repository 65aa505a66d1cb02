-- The least and the greatest points of the papers so far.
use Rattle.arrays.specs.At.{at}
use Rattle.desk.specs.inner.Extremes.{Extremes}
use Rattle.desk.proofs.least_and_greatest.Given as goal

abbrev pub invariant-loop-q : goal.invariant-loop-q
invariant-loop-q l = Extremes l.q (at l.points) l.least l.greatest
