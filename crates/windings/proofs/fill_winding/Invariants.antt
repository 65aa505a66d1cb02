-- The winding so far, on the way round. The measure is how many faces lie between the one reached and y.
use mathlib.Core.Path.{◌≡◌}
use lib.ListN.{length}
use Rattle.arrays.specs.Maps.{right_of}
use Rattle.arrays.specs.At.{at, atℤ}
use Rattle.search.specs.Parents.{up}
use Rattle.windings.proofs.Round.{Walking, between}
use Rattle.windings.proofs.fill_winding.Given as goal

abbrev pub invariant-loop-x : goal.invariant-loop-x
invariant-loop-x l = (length l.winding ≡ 1024) × Walking (right_of l.lefts) (at l.parents) l.darts l.y (atℤ l.winding) l.x

abbrev pub decreases-loop-x : goal.decreases-loop-x
decreases-loop-x l = between (up (right_of l.lefts) (at l.parents)) l.y 1024 l.x
