-- The first e places hold the flows of the edges below e, and the others are as they were.
use mathlib.Core.Path.{◌≡◌}
use mathlib.Core.List.{◌++◌}
use lib.ListN.{drop}
use Rattle.arrays.specs.At.{at, atℤ}
use Rattle.arrays.specs.Filled.{tabulate}
use Rattle.edge_flows.specs.inner.Flow.{flow_of}
use Rattle.edge_flows.proofs.fill_flows.Given as goal

abbrev pub invariant-loop-e : goal.invariant-loop-e
invariant-loop-e l = l.flows ≡ tabulate l.e (flow_of (at l.lefts) (atℤ l.capacities) (atℤ l.lengths) (atℤ l.potentials)) ++ drop l.e l.fn.flows
