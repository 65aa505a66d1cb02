-- Whether a set proves the next value impossible: a test for each way to hold the ends.
use mathlib.Core.Path.{◌∙◌, ap, ap₂}
use borrow.Author.Rules.{rules}
use lib.IntN.{pos, negsuc, ◌+ℤ◌}
use lib.Signed.{lt_z}
use Rattle.signed.proofs.Laws.{number_of_bits}
use Rattle.desk.proofs.Judging.{next_both, next_source, next_sink, next_neither}
use Rattle.desk.proofs.proves_next.Statement.{statement}
use Rattle.desk.proofs.proves_next.Tie as tie

returns : tie.Need-returns-then-into
returns c =
    let s = c in
    let a = s.args in
    next_both a.total a.v a.from a.into c.less.result c.if-from.true c.if-into.true
    (c.less.ensures ∙ ap (λ x. lt_z x (pos 0)) (number_of_bits _ s.ranges.total))

returns-2 : tie.Need-returns-then-from
returns-2 c =
    let s = c in
    let a = s.args in
    next_source a.total a.v a.from a.into c.less-then-from.result c.if-from.true c.if-into.false
    (c.less-then-from.ensures ∙ ap₂ lt_z (number_of_bits _ s.ranges.v) (number_of_bits _ s.ranges.total))

returns-3 : tie.Need-returns-then-into-2
returns-3 c =
    let s = c in
    let a = s.args in
    next_sink a.total a.v a.from a.into c.less_than_opposite.result c.if-from.false c.if-into-2.true
    (c.less_than_opposite.ensures ∙ ap₂ (λ x y. lt_z (x +ℤ y) (negsuc 0)) (number_of_bits _ s.ranges.total) (number_of_bits _ s.ranges.v))

returns-4 : tie.Need-returns
returns-4 c =
    let s = c in
    let a = s.args in
    next_neither a.total a.v a.from a.into c.less-2.result c.if-from.false c.if-into-2.false
    (c.less-2.ensures ∙ ap (λ x. lt_z x (pos 0)) (number_of_bits _ s.ranges.total))

pub proves_next_spec : {M : Type 1} → statement M
proves_next_spec =
    tie.close
    (tie.spec
    (λ c κs. search rules)
    returns
    (λ c κs. search rules)
    returns-2
    (λ c κs. search rules)
    returns-3
    (λ c κs. search rules)
    returns-4)
