-- The loop keeps the sizes of its arrays and what is known of the bounds. The measure is how far the probing has to go.
use Rattle.arrays.specs.At.{atℤ}
use Rattle.arrays.specs.Maps.{map_of}
use Rattle.maximum.proofs.Gap.{gap}
use Rattle.maximum.proofs.Bracketing.{Probing}
use Rattle.maximum.proofs.close_in.Given as goal

abbrev pub invariant-loop-terminals : goal.invariant-loop-terminals
invariant-loop-terminals l =
    Probing (map_of l.sizes.nodes l.sizes.edges l.tails l.rotations) l.sizes.outer (atℤ l.capacities) l.terminals.source l.terminals.sink
    l.initial.flows l.flows l.a l.b l.parents l.bounds.low l.bounds.high l.bounds.found

abbrev pub decreases-loop-terminals : goal.decreases-loop-terminals
decreases-loop-terminals l = gap l.bounds.low l.bounds.high l.bounds.found
