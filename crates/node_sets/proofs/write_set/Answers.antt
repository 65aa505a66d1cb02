use native.Mathlib.Omega.{arith}
use Rattle.node_sets.proofs.Writing.{writing_end}
use Rattle.node_sets.proofs.write_set.Goals as goal

pub returns : goal.returns
returns c = writing_end c.args.inside.now c.args.nodes c.args.words.now c.loop-j.words c.loop-j.j c.loop-j.invariant (omega arith)
    (omega (arith, c.requires.exact))
