-- The lines of all arcs have room, so each has.
use mathlib.Core.Path.{◌∙◌, ap}
use native.Mathlib.Omega.{arith}
use borrow.Author.Rules.{rules}
use lib.ListN.{length}
use Prim.Native.Nat.{◌+◌}
use Rattle.signed.proofs.Laws.{number_of_bits}
use Rattle.arrays.specs.At.{at, atℤ}
use Rattle.texts.specs.Lines.{lines}
use Rattle.texts.proofs.Joined.{placed_none, placed_as, lines_more, lines_next, lines_within}
use Rattle.dimacs.specs.Text.{arc_line}
use Rattle.dimacs.specs.inner.ArcLines.{line_of}
use Rattle.dimacs.proofs.put_arcs.Goals as goal

pub loop-d-init : goal.loop-d-init
unfolding lines
loop-d-init c = placed_none _ _

pub put_arc-end-requires : goal.put_arc-end-requires
put_arc-end-requires c =
    let tails = c.args.tails.now in
    let capacities = c.args.capacities.now in
    let d = c.loop-d.d in
    let line = line_of tails capacities in
    let handed =
    ap (arc_line (at tails d) (at tails c.reverse-back.result)) (number_of_bits (atℤ capacities d) (record { sfits = search rules }))
    ∙ ap (λ k. arc_line (at tails d) (at tails k) (atℤ capacities d)) c.reverse-back.ensures.0 in
    omega (arith, ap length handed, lines_within c.args.darts (d + 1) line (omega arith), lines_next d line)

pub loop-d-preserved : goal.loop-d-preserved
loop-d-preserved c =
    let tails = c.args.tails.now in
    let capacities = c.args.capacities.now in
    let d = c.loop-d.d in
    let line = line_of tails capacities in
    let handed =
    ap (arc_line (at tails d) (at tails c.reverse-back.result)) (number_of_bits (atℤ capacities d) (record { sfits = search rules }))
    ∙ ap (λ k. arc_line (at tails d) (at tails k) (atℤ capacities d)) c.reverse-back.ensures.0 in
    lines_more _ _ _ d line _ _ _ c.loop-d.invariant (placed_as (λ r. r) _ _ _ _ handed c.put_arc-end.ensures)
    (omega (arith, lines_within c.args.darts (d + 1) line (omega arith), lines_next d line))
