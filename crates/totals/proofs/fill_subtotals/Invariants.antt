-- Invariant: the subtotals of the nodes below v that are in the set are written and added (`Filling`).
use Rattle.arrays.specs.At.{atℤ}
use Rattle.arrays.specs.Maps.{map_of}
use Rattle.flows.specs.ProvingSet.{member}
use Rattle.totals.proofs.Filling.{Filling}
use Rattle.totals.proofs.fill_subtotals.Given as goal

abbrev pub invariant-loop-v : goal.invariant-loop-v
invariant-loop-v l = Filling (map_of l.nodes l.edges l.tails l.rotations) (atℤ l.capacities) (member l.set) l.fn.subtotals l.subtotals l.total l.place l.v
