-- Invariant: the sum is how long the lines of the arcs below d are, and at most 35 for each.
use mathlib.Core.Path.{◌≡◌}
use Prim.Native.Nat.{◌*◌, ◌≤◌}
use lib.ListN.{length}
use Rattle.dimacs.specs.inner.ArcLines.{arc_lines}
use Rattle.dimacs.proofs.arcs_length.Given as goal

abbrev pub invariant-loop-d : goal.invariant-loop-d
invariant-loop-d l = record {
  long : l.sum ≡ length (arc_lines l.tails l.capacities l.d);
  few : l.sum ≤ 35 * l.d;
}
