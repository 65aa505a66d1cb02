-- Invariant: the darts of the round from `start` to d are added (`Turning`). The measure is how many steps the round has ahead.
use Prim.Native.Nat.{◌*◌}
use Rattle.arrays.specs.At.{at, atℤ}
use Rattle.arrays.specs.Maps.{map_of}
use Rattle.flows.specs.ProvingSet.{member}
use Rattle.totals.proofs.Rounds.{ahead}
use Rattle.totals.proofs.Adding.{Turning}
use Rattle.totals.proofs.round_total.Given as goal

abbrev pub invariant-loop-d : goal.invariant-loop-d
invariant-loop-d l = Turning (map_of l.nodes l.edges l.tails l.rotations) (atℤ l.capacities) (member l.set) l.start l.sum l.d

abbrev pub decreases-loop-d : goal.decreases-loop-d
decreases-loop-d l = ahead (at l.rotations) l.start (2 * l.edges) l.d
