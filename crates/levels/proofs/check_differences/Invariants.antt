-- Invariant: no edge below e exceeds its capacities by the flow that the levels give it.
use Prim.Native.Nat.{ℕ, ◌<◌}
use Rattle.flows.specs.Check.{Exceeds}
use Rattle.arrays.specs.At.{at, atℤ}
use Rattle.levels.specs.inner.Across.{across}
use Rattle.levels.proofs.check_differences.Given as goal

abbrev pub invariant-loop-e : goal.invariant-loop-e
invariant-loop-e l = (k : ℕ) → k < l.e → Exceeds (atℤ l.capacities) (across (at l.lefts) (atℤ l.levels)) k → ⊥
