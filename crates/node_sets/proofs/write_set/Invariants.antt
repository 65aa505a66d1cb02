-- The words below j are written.
use Rattle.node_sets.proofs.Writing.{Writing}
use Rattle.node_sets.proofs.write_set.Given as goal

abbrev pub invariant-loop-j : goal.invariant-loop-j
invariant-loop-j l = Writing l.inside l.nodes l.fn.words l.words l.j
