-- What the loop keeps: the stretches below i are answered, and all behind them is as it was.
use Rattle.arrays.specs.Maps.{drawing_of}
use Rattle.pages.specs.Question.{question_at}
use Rattle.pages.specs.inner.Listed.{solved_alone}
use Rattle.pages.proofs.Answering.{Halfway}
use Rattle.pages.proofs.answer_all.Given as goal

abbrev pub invariant-loop-i : goal.invariant-loop-i
invariant-loop-i l =
    Halfway l.edges l.words
    (λ j. solved_alone (drawing_of l.sizes.nodes l.sizes.edges l.sizes.outer l.tails l.rotations l.capacities) (question_at l.list.questions j))
    l.initial.flows l.initial.sets l.i l.flows l.sets l.answers
