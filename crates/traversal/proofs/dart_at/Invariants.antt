-- No dart below d leaves the node.
use mathlib.Core.Logic.{◌≢◌}
use Prim.Native.Nat.{ℕ, ◌<◌}
use Rattle.arrays.specs.At.{at}
use Rattle.traversal.proofs.dart_at.Given as goal

abbrev pub invariant-loop-d : goal.invariant-loop-d
invariant-loop-d l = (e : ℕ) → e < l.d → at l.tails e ≢ l.v
