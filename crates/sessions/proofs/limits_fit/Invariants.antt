-- Invariant: the limits left of each edge below e fit.
use Prim.Native.Nat.{ℕ, ◌<◌, ◌*◌, ◌+◌}
use Rattle.arrays.specs.At.{atℤ}
use Rattle.sessions.specs.Fit.{PairFits}
use Rattle.sessions.proofs.limits_fit.Given as goal

abbrev pub invariant-loop-e : goal.invariant-loop-e
invariant-loop-e l = (k : ℕ) → k < l.e → PairFits (atℤ l.left (2 * k)) (atℤ l.left (2 * k + 1))
