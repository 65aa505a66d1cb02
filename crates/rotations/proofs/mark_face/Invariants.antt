-- Invariant: the walk has marked `steps` darts of the face, has laid their reverses, and is not back at `start`. Each dart marked is one fewer without a
-- number.
use mathlib.Core.Path.{◌≡◌}
use Prim.Native.Nat.{ℕ, ◌*◌, ◌≤◌, ◌<◌}
use lib.ListN.{length}
use Rattle.arrays.specs.At.{at}
use Rattle.rotations.specs.inner.Holding.{holding}
use Rattle.rotations.specs.inner.Laying.{step_of}
use Rattle.traversal.specs.inner.Mark.{unmarked}
use Rattle.rotations.proofs.Trail.{Walking}
use Rattle.rotations.proofs.Laying.{Laying}
use Rattle.rotations.proofs.mark_face.Given as goal

abbrev pub invariant-loop-x : goal.invariant-loop-x
invariant-loop-x l = record {
  long : length l.lefts ≡ 1024;
  long_grouped : length l.grouped ≡ 1024;
  inside : l.x < 2 * l.edges;
  steps : ℕ;
  walking : Walking (step_of l.rotations) (at l.fn.lefts) (at l.lefts) l.start l.number steps l.x;
  laying : Laying (step_of l.rotations) (at l.fn.grouped) (at l.grouped) l.start l.end steps l.begin;
  counted : l.begin ≡ holding unmarked (2 * l.edges) (at l.lefts);
  room : l.begin ≤ 2 * l.edges;
}

abbrev pub decreases-loop-x : goal.decreases-loop-x
decreases-loop-x l = holding unmarked (2 * l.edges) (at l.lefts)
