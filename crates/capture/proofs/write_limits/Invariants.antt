-- Invariant: the first e places are filled.
use Prim.Native.Nat.{◌*◌}
use mathlib.Core.Path.{◌≡◌}
use Rattle.arrays.specs.At.{atℤ}
use Rattle.arrays.specs.Filled.{filled}
use Rattle.capture.proofs.write_limits.Given as goal

abbrev pub invariant-loop-e : goal.invariant-loop-e
invariant-loop-e l = l.limits ≡ filled l.e (λ i. atℤ l.capacities (2 * i)) l.fn.limits
