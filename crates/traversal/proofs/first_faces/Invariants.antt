-- The first faces of the trees that begin before place i are written, in order (`Rooting`), and one more is to come.
use Rattle.std.proofs.Common.{◌≡◌, ℕ, ◌<◌, ◌≤◌, length}
use Rattle.arrays.specs.At.{at}
use Rattle.traversal.specs.inner.Forest.{Forest}
use Rattle.traversal.proofs.Rooting.{Rooting}
use Rattle.traversal.proofs.first_faces.Given as goal

abbrev pub invariant-loop-i : goal.invariant-loop-i
invariant-loop-i l = record {
  long : length l.roots ≡ 1024;
  ahead : l.count < l.trees;
  written : (𝓕 : Forest l.darts (at l.rotations) l.first (at l.order) (at l.from) l.trees)
      → Rooting (at l.rotations) l.first (at l.order) (at l.from) l.darts l.trees 𝓕.planted (at l.lefts) (at l.roots) l.i l.count;
  kept : (u : ℕ) → l.count ≤ u → at l.roots u ≡ at l.fn.roots u;
}
