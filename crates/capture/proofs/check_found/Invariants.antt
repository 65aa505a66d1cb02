-- Invariant: every edge before e has passed.
use Prim.Native.Nat.{ℕ, ◌*◌, ◌+◌, ◌<◌}
use Rattle.refusals.specs.Order.{NoneOf}
use Rattle.arrays.specs.At.{atℤ}
use Rattle.records.specs.Check.{capacity_checks}
use Rattle.capture.proofs.check_found.Given as goal

abbrev pub invariant-loop-e : goal.invariant-loop-e
invariant-loop-e l = (i : ℕ) → i < l.e → NoneOf (capacity_checks (atℤ l.capacities (2 * i)) (atℤ l.capacities (2 * i + 1)))
