-- Invariant: the lines of the arcs below d stand at the place.
use Rattle.texts.specs.inner.Placed.{Placed}
use Rattle.dimacs.specs.inner.ArcLines.{arc_lines}
use Rattle.dimacs.proofs.put_arcs.Given as goal

abbrev pub invariant-loop-d : goal.invariant-loop-d
invariant-loop-d l = Placed l.first (arc_lines l.tails l.capacities l.d) l.fn.text l.text l.end
