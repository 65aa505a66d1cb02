-- The flags below v are right.
use mathlib.Core.Path.{◌≡◌}
use Prim.Native.Nat.{ℕ, ◌<◌}
use lib.ListN.{length}
use lib.Dec.{eqb}
use Rattle.arrays.specs.At.{at, atℤ}
use Rattle.thresholds.specs.inner.Above.{above}
use Rattle.thresholds.proofs.flag_above.Given as goal

abbrev pub invariant-loop-v : goal.invariant-loop-v
invariant-loop-v l = (length l.inside ≡ 1024) × ((u : ℕ) → u < l.v → eqb (at l.inside u) 1 ≡ above (atℤ l.heights) l.fn.threshold u)
