-- Invariant: the walk has marked `steps` places of the orbit and is not back at `start`. The measure is how many places have no number.
use mathlib.Core.Path.{◌≡◌}
use Prim.Native.Nat.{ℕ, ◌<◌}
use lib.ListN.{length}
use Rattle.arrays.specs.At.{at}
use Rattle.rotations.specs.inner.Holding.{holding}
use Rattle.traversal.specs.inner.Mark.{unmarked}
use Rattle.rotations.proofs.Trail.{Walking}
use Rattle.rotations.proofs.mark_orbit.Given as goal

abbrev pub invariant-loop-x : goal.invariant-loop-x
invariant-loop-x l = record {
  long : length l.label ≡ 1024;
  inside : l.x < l.n;
  steps : ℕ;
  walking : Walking (at l.next) (at l.fn.label) (at l.label) l.start l.number steps l.x;
}

abbrev pub decreases-loop-x : goal.decreases-loop-x
decreases-loop-x l = holding unmarked l.n (at l.label)
