-- What the loop keeps: the list holds the first i questions of the arrays.
use mathlib.Core.Path.{◌≡◌}
use Rattle.pages.specs.Question.{question_in}
use Rattle.pages.specs.inner.Listed.{emptyList, gathered}
use Rattle.pages.proofs.list_from.Given as goal

abbrev pub invariant-loop-i : goal.invariant-loop-i
invariant-loop-i l = l.next ≡ gathered (question_in l.sources l.sinks l.values) l.i (emptyList l.count)
