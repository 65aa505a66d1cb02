-- Invariant: the lines of the edges below e stand at the place.
use Rattle.arrays.specs.At.{atℤ}
use Rattle.texts.specs.Lines.{lines}
use Rattle.texts.specs.inner.Placed.{Placed}
use Rattle.key_text.specs.Text.{edge_line}
use Rattle.key_text.proofs.put_edges.Given as goal

abbrev pub invariant-loop-e : goal.invariant-loop-e
invariant-loop-e l = Placed l.at (lines l.e (λ e. edge_line e (atℤ l.flows e))) l.fn.text l.text l.end
