-- The walk lists whole rounds, one to a node; and no node is without one.
use Rattle.refusals.proofs.Order.{said_yes, said_no}
use Rattle.rotations.proofs.Whole.{rounds_sound, unround_unsound, empty_unsound}
use Rattle.rotations.proofs.walk_nodes.Goals as goal

pub returns-in_err-trees : goal.returns-in_err-trees
returns-in_err-trees c =
    let e = c.in_err-trees.ensures in
    rw c.from_residual.ensures (e.0, e.1, (λ σ. unround_unsound σ e.3), e.2)

pub returns-then-some_empty : goal.returns-then-some_empty
returns-then-some_empty c =
    let e = c.in_ok-trees.ensures in
    let g = e.3 in
    (e.0, e.1, (λ σ. empty_unsound σ g.2 g.3 (said_yes c.some_empty.ensures c.if-some_empty.true)), e.2)

pub returns : goal.returns
returns c =
    let e = c.in_ok-trees.ensures in
    let g = e.3 in
    (e.0, e.1, (rounds_sound c.requires.5 g.2 g.3 (said_no c.some_empty.ensures c.if-some_empty.false), g.1, g.4), e.2)
