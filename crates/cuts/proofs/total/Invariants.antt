-- The sum is the cut of the darts of the edges below e.
use mathlib.Core.Path.{◌≡◌}
use Prim.Native.Nat.{◌*◌}
use Rattle.arrays.specs.At.{at, atℤ}
use Rattle.arrays.specs.inner.Flags.{flagged}
use Rattle.cuts.specs.inner.Cut.{cut_of}
use Rattle.cuts.proofs.total.Given as goal

abbrev pub invariant-loop-e : goal.invariant-loop-e
invariant-loop-e l = l.sum ≡ cut_of (2 * l.e) (at l.tails) (atℤ l.lengths) (flagged l.inside)
