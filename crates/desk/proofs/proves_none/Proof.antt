-- Whether a set meets the rule for none: a test for each way to hold the ends.
use mathlib.Core.Path.{sym, ◌∙◌, ap}
use mathlib.Core.Bool.{true≢false}
use borrow.Author.Rules.{rules}
use lib.IntN.{pos}
use lib.Signed.{lt_z}
use Rattle.signed.proofs.Laws.{number_of_bits}
use Rattle.desk.proofs.Judging.{none_same}
use Rattle.desk.proofs.proves_none.Statement.{statement}
use Rattle.desk.proofs.proves_none.Tie as tie

returns : tie.Need-returns-then-into
returns c =
    let s = c in
    let a = s.args in
    none_same a.total a.from a.into c.less.result (c.if-from.true ∙ sym c.if-into.true)
    (c.less.ensures ∙ ap (λ x. lt_z x (pos 0)) (number_of_bits _ s.ranges.total))

returns-2 : tie.Need-returns-then-from
returns-2 c = λ h. true≢false (sym c.if-from.true ∙ h.0 ∙ c.if-into.false)

returns-3 : tie.Need-returns-then-into-2
returns-3 c = λ h. true≢false (sym c.if-into-2.true ∙ sym h.0 ∙ c.if-from.false)

returns-4 : tie.Need-returns
returns-4 c =
    let s = c in
    let a = s.args in
    none_same a.total a.from a.into c.less-2.result (c.if-from.false ∙ sym c.if-into-2.false)
    (c.less-2.ensures ∙ ap (λ x. lt_z x (pos 0)) (number_of_bits _ s.ranges.total))

pub proves_none_spec : {M : Type 1} → statement M
proves_none_spec =
    tie.close (tie.spec (λ c κs. search rules) returns returns-2 returns-3 (λ c κs. search rules) returns-4)
