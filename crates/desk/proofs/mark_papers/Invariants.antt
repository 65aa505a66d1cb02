-- The papers of a class, marked in turn: each turn is a step of `Halfway`.
use Rattle.desk.specs.Paper.{paper_of, Points}
use Rattle.desk.proofs.Marking.{Halfway}
use Rattle.desk.proofs.mark_papers.Given as goal

abbrev pub invariant-loop-q : goal.invariant-loop-q
invariant-loop-q l =
    Halfway (λ j m. Points l.sheet l.source l.sink l.value l.largest (paper_of l.sheet l.claims l.kinds l.settings l.sets j) m) l.fn.points l.q l.points
