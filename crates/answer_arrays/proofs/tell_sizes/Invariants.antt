-- The first i places tell the answers below i, and the others are as they were.
use Rattle.std.proofs.Common.{◌≡◌, ◌++◌, drop}
use Rattle.arrays.specs.Filled.{tabulate}
use Rattle.pages.specs.Page.{answer_at}
use Rattle.answer_arrays.specs.Told.{size_told}
use Rattle.answer_arrays.proofs.tell_sizes.Given as goal

abbrev pub invariant-loop-i : goal.invariant-loop-i
invariant-loop-i l = l.sizes ≡ tabulate l.i (λ j. size_told (answer_at l.page j)) ++ drop l.i l.initial.sizes
