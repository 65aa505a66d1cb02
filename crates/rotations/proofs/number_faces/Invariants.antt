-- Invariant: the faces whose lowest dart is below `next` have their numbers and their groups, f is the next number, and the groups fill the places
-- from `free` on: as many darts have no number yet, so that the loop stops at the last face.
use mathlib.Core.Path.{◌≡◌}
use Prim.Native.Nat.{◌*◌, ◌-◌, ◌<◌}
use lib.ListN.{length}
use Rattle.arrays.specs.At.{at}
use Rattle.rotations.specs.inner.Holding.{holding}
use Rattle.rotations.specs.inner.Laying.{step_of}
use Rattle.traversal.specs.inner.Mark.{unmarked}
use Rattle.rotations.proofs.Numbering.{Numbering}
use Rattle.rotations.proofs.Grouping.{Grouping, Rounding}
use Rattle.rotations.proofs.number_faces.Given as goal

abbrev pub invariant-loop-free : goal.invariant-loop-free
invariant-loop-free l = record {
  long : length l.lefts ≡ 1024;
  long_grouped : length l.grouped ≡ 1024;
  long_starts : length l.starts ≡ 1024;
  numbered : Numbering (2 * l.edges) (step_of l.rotations) (at l.lefts) l.next l.f;
  grouping : Grouping l.edges (at l.lefts) (at l.grouped) (at l.starts) l.f l.free;
  ahead : 0 < l.free → l.next < 2 * l.edges;
  counted : l.free ≡ holding unmarked (2 * l.edges) (at l.lefts);
  rounding : Rounding (2 * l.edges) (step_of l.rotations) (at l.grouped) (at l.starts) l.f l.free;
}

abbrev pub decreases-loop-free : goal.decreases-loop-free
decreases-loop-free l = 2 * l.edges - l.next
