-- The nodes of the darts passed have their heights (`Filling`).
use mathlib.Core.Path.{◌≡◌}
use lib.ListN.{length}
use Rattle.arrays.specs.At.{at, atℤ}
use Rattle.heights.proofs.FillingHeights.{Filling}
use Rattle.heights.proofs.fill_heights.Given as goal

abbrev pub invariant-loop-i : goal.invariant-loop-i
invariant-loop-i l = (length l.heights ≡ 1024) × Filling l.darts (at l.tails) (at l.order) (at l.from) (atℤ l.winding) (atℤ l.heights) l.i
