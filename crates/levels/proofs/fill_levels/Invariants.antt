-- Invariant: the pass so far, on a slice that had the first face's level stored before the loop.
use mathlib.Core.Path.{◌≡◌}
use lib.ListN.{length}
use Rattle.arrays.specs.At.{at, atℤ}
use Rattle.levels.specs.inner.Laying.{Kept}
use Rattle.levels.proofs.FillingLevels.{Filling}
use Rattle.levels.proofs.fill_levels.Given as goal

abbrev pub invariant-loop-i : goal.invariant-loop-i
invariant-loop-i l = record {
  long : length l.levels ≡ length l.fn.levels;
  filling : Filling l.darts (at l.lefts) (at l.order) (at l.from) (atℤ l.flows) (atℤ l.levels) l.i;
  kept : Kept l.darts (at l.lefts) l.fn.levels l.levels;
}
