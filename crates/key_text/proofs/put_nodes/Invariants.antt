-- Invariant: the lines of the nodes below v stand at the place.
use Rattle.texts.specs.Lines.{lines}
use Rattle.texts.specs.inner.Placed.{Placed}
use Rattle.key_text.specs.Text.{node_line}
use Rattle.key_text.proofs.put_nodes.Given as goal

abbrev pub invariant-loop-v : goal.invariant-loop-v
invariant-loop-v l = Placed l.at (lines l.v (node_line l.set)) l.fn.text l.text l.end
