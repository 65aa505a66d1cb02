-- Invariant: each dart below d has a tail that is a node and a rotation that is a dart.
use Prim.Native.Nat.{ℕ, ◌<◌}
use Rattle.arrays.specs.At.{at}
use Rattle.sessions.proofs.in_range.Given as goal

abbrev pub invariant-loop-d : goal.invariant-loop-d
invariant-loop-d l = (k : ℕ) → k < l.d → (at l.tails k < l.nodes) × (at l.rotations k < l.darts)
