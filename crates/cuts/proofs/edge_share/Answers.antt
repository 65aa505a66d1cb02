-- The length of the edge's dart that leaves the set, and 0 where neither does.
use mathlib.Core.Path.{◌∙◌, ap}
use borrow.Author.Rules.{rules}
use Rattle.signed.proofs.Laws.{number_of_bits}
use Rattle.arrays.specs.At.{at, atℤ}
use Rattle.arrays.specs.inner.Flags.{flagged}
use Rattle.cuts.proofs.Adding.{share_first, share_second, share_none, one_mark, first_marked, second_marked}
use Rattle.cuts.proofs.edge_share.Goals as goal

pub returns-then-at_tail-at_head : goal.returns-then-at_tail-at_head
returns-then-at_tail-at_head c =
    let a = c.args in
    let S = flagged a.inside.now in
    let n = one_mark (at a.inside.now c.from-tail.result) (at a.inside.now c.from-head.result) c.if-at_tail-at_head.true in
    share_none a.e (at a.tails.now) (atℤ a.lengths.now) S _ _ (ap S c.from-tail.ensures) (ap S c.from-head.ensures) n.0 n.1

pub returns-then-at_tail-eq1 : goal.returns-then-at_tail-eq1
returns-then-at_tail-eq1 c =
    let a = c.args in
    let S = flagged a.inside.now in
    let m = first_marked (at a.inside.now c.from-tail.result) (at a.inside.now c.from-head.result) c.if-at_tail-at_head.false c.if-at_tail-eq1.true in
    number_of_bits _ (record { sfits = search rules })
    ∙ share_first a.e (at a.tails.now) (atℤ a.lengths.now) S _ _ (ap S c.from-tail.ensures) (ap S c.from-head.ensures) m

pub returns-then-at_head-eq1 : goal.returns-then-at_head-eq1
returns-then-at_head-eq1 c =
    let a = c.args in
    let S = flagged a.inside.now in
    let m = second_marked (at a.inside.now c.from-tail.result) (at a.inside.now c.from-head.result) c.if-at_tail-eq1.false c.if-at_head-eq1.true in
    number_of_bits _ (record { sfits = search rules })
    ∙ share_second a.e (at a.tails.now) (atℤ a.lengths.now) S _ _ (ap S c.from-tail.ensures) (ap S c.from-head.ensures) m
