-- Invariant: no node below v is off balance.
use Prim.Native.Nat.{ℕ, ◌<◌}
use Rattle.balance.specs.inner.Check.{Off}
use Rattle.arrays.specs.At.{atℤ}
use Rattle.balance.proofs.check_balance.Given as goal

abbrev pub invariant-loop-v : goal.invariant-loop-v
invariant-loop-v l = (u : ℕ) → u < l.v → Off l.a l.b (atℤ l.nets) u → ⊥
