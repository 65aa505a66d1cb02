-- Invariant: no edge below e exceeds its capacities.
use Prim.Native.Nat.{ℕ, ◌<◌}
use Rattle.flows.specs.Check.{Exceeds}
use Rattle.arrays.specs.At.{atℤ}
use Rattle.balance.proofs.check_within.Given as goal

abbrev pub invariant-loop-e : goal.invariant-loop-e
invariant-loop-e l = (k : ℕ) → k < l.e → Exceeds (atℤ l.capacities) (atℤ l.flows) k → ⊥
