-- Invariant: the first e places hold the flows of the edges below e, and the others are as they were.
use mathlib.Core.Path.{◌≡◌}
use Rattle.arrays.specs.At.{at, atℤ}
use Rattle.arrays.specs.Filled.{filled}
use Rattle.levels.specs.inner.Across.{across}
use Rattle.levels.proofs.fill_differences.Given as goal

abbrev pub invariant-loop-e : goal.invariant-loop-e
invariant-loop-e l = l.flows ≡ filled l.e (across (at l.lefts) (atℤ l.levels)) l.fn.flows
