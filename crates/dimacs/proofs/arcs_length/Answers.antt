use mathlib.Core.Path.{refl, ◌∙◌, ap}
use native.Mathlib.Omega.{arith}
use lib.ListN.{length}
use borrow.Author.Rules.{rules}
use Rattle.signed.proofs.Laws.{number_of_bits}
use Rattle.arrays.specs.At.{at, atℤ}
use Rattle.texts.specs.Lines.{lines}
use Rattle.texts.proofs.Joined.{lines_next}
use Rattle.dimacs.specs.Text.{arc_line}
use Rattle.dimacs.specs.inner.ArcLines.{line_of}
use Rattle.dimacs.proofs.arcs_length.Goals as goal

pub loop-d-init : goal.loop-d-init
unfolding lines
loop-d-init c = record { long = refl; few = omega arith }

-- the line is that of the dart d, by what the arrays hold
pub loop-d-preserved : goal.loop-d-preserved
loop-d-preserved c =
    let tails = c.args.tails.now in
    let capacities = c.args.capacities.now in
    let d = c.loop-d.d in
    let line = c.arc_length-sum.ensures.0
    ∙ ap (λ x. length (arc_line (at tails d) (at tails c.reverse-back.result) x)) (number_of_bits (atℤ capacities d) (record { sfits = search rules }))
    ∙ ap (λ k. length (arc_line (at tails d) (at tails k) (atℤ capacities d))) c.reverse-back.ensures.0 in
    record { long = omega (arith, line, lines_next d (line_of tails capacities)); few = omega arith }
