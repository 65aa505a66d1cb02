-- `low` is the height of a node, and at most those of the nodes below v.
use Rattle.arrays.specs.At.{atℤ}
use Rattle.thresholds.proofs.Lowering.{Low}
use Rattle.thresholds.proofs.lowest.Given as goal

abbrev pub invariant-loop-v : goal.invariant-loop-v
invariant-loop-v l = Low l.nodes (atℤ l.heights) l.v l.low
