-- The sum of the points of the papers so far: at most ten more each.
use Prim.Native.Nat.{◌≤◌, ◌*◌}
use mathlib.Core.Path.{◌≡◌}
use Rattle.integers.specs.Sum.{sumℕ}
use Rattle.arrays.specs.At.{at}
use Rattle.desk.proofs.sum_of.Given as goal

abbrev pub invariant-loop-q : goal.invariant-loop-q
invariant-loop-q l = (l.sum ≡ sumℕ l.q (at l.points)) × (l.sum ≤ 10 * l.q)
