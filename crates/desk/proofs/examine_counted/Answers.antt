-- A class on an accepted sheet: the refusals in order, then the points of the papers and their figures.
use mathlib.Core.Path.{refl, ◌∙◌, subst}
use native.Mathlib.Omega.{arith}
use Rattle.std.specs.Prelude.{Ok, Err}
use Rattle.std.proofs.lemmas.Result.{err_from_is_err_and}
use Rattle.signed.proofs.Laws.{number_of_bits}
use Rattle.arrays.specs.At.{at}
use Rattle.desk.specs.Paper.{paper_of, Points}
use Rattle.desk.proofs.Asking.{counts_fit, question_refused, class_refused, class_accepted, asked_of, class_room, question_as, class_as}
use Rattle.desk.proofs.examine_counted.Goals as goal

-- ── 13, 14 and 15 ──
pub returns-in_err-check_question : goal.returns-in_err-check_question
returns-in_err-check_question c =
    let a = c.args in
    let p = err_from_is_err_and c.from_residual.result c.from_residual.ensures.1 in
    let r = c.in_err-check_question in
    let h = question_as _ _ _ _ _ _ _ _ (Err r.field-0.0) _ r.ensures c.requires.1 c.from.ensures c.from-2.ensures (number_of_bits _ c.ranges.value) refl in
    rw (p.1, p.2) (question_refused a.sheet.now a.source a.sink a.value _ _ _ _ _ c.requires.0 _ _ h, refl)

-- ── 32 and 16 ──
pub check_class-requires : goal.check_class-requires
check_class-requires c =
    let few = counts_fit _ c.requires.0 in
    (omega (arith, few.0, c.requires.1), omega (arith, few.1, c.requires.2))

pub returns-in_err-check_class : goal.returns-in_err-check_class
returns-in_err-check_class c =
    let a = c.args in
    let p = err_from_is_err_and c.from_residual-in_err-check_class.result c.from_residual-in_err-check_class.ensures.1 in
    let r = c.in_err-check_class in
    let asked = question_as _ _ _ _ _ _ _ _ (Ok tt) _ c.in_ok-check_question.ensures c.requires.1 c.from.ensures c.from-2.ensures
    (number_of_bits _ c.ranges.value) refl in
    let h = class_as _ _ _ _ _ _ _ _ _ (Err r.field-0.0) _ r.ensures c.requires.1 c.requires.2 refl in
    rw (p.1, p.2) (class_refused a.sheet.now a.source a.sink a.value _ _ _ _ _ c.requires.0 asked _ _ h, refl)

-- ── the class is accepted ──
pub returns-then-n-eq0 : goal.returns-then-n-eq0
returns-then-n-eq0 c =
    let a = c.args in
    let asked = question_as _ _ _ _ _ _ _ _ (Ok tt) _ c.in_ok-check_question.ensures c.requires.1 c.from.ensures c.from-2.ensures
    (number_of_bits _ c.ranges.value) refl in
    let h = class_as _ _ _ _ _ _ _ _ _ (Ok tt) _ c.in_ok-check_class.ensures c.requires.1 c.requires.2 refl in
    (class_accepted a.sheet.now a.source a.sink a.value _ _ _ _ _ c.requires.0 asked h, c.if-n-eq0.true, refl)

pub find_largest-largest-requires : goal.find_largest-largest-requires
find_largest-largest-requires c =
    let a = c.args in
    asked_of a.sheet.now a.source a.sink a.value 0 0 0 0 0 c.requires.0
    (question_as _ _ _ _ _ _ _ _ (Ok tt) _ c.in_ok-check_question.ensures c.requires.1 c.from.ensures c.from-2.ensures (number_of_bits _ c.ranges.value) refl)

pub mark_papers-requires : goal.mark_papers-requires
mark_papers-requires c =
    let a = c.args in
    let whole = asked_of a.sheet.now a.source a.sink a.value 0 0 0 0 0 c.requires.0
    (question_as _ _ _ _ _ _ _ _ (Ok tt) _ c.in_ok-check_question.ensures c.requires.1 c.from.ensures c.from-2.ensures (number_of_bits _ c.ranges.value) refl)
    in
    let r = class_room _ _ _ _ _ _ _ c.in_ok-check_class.ensures in
    (whole, c.requires.1, c.requires.2, r.0, r.1, r.2, r.3, r.4)

-- ── the papers are marked: a place for each paper's points, and a paper ──
pub sum_of-sum-requires : goal.sum_of-sum-requires
sum_of-sum-requires c =
    let r = class_room _ _ _ _ _ _ _ c.in_ok-check_class.ensures in
    (omega (arith, r.4, c.mark_papers.ensures.2.0), r.0, c.mark_papers.ensures.1)

pub least_and_greatest-least-requires : goal.least_and_greatest-least-requires
least_and_greatest-least-requires c =
    let r = class_room _ _ _ _ _ _ _ c.in_ok-check_class.ensures in
    (omega (arith, r.4, c.mark_papers.ensures.2.0), omega (arith, c.if-n-eq0.false))

pub narrow-requires : goal.narrow-requires
narrow-requires c = let r = class_room _ _ _ _ _ _ _ c.in_ok-check_class.ensures in omega (arith, r.0)

pub returns : goal.returns
returns c =
    let a = c.args in
    let asked = question_as _ _ _ _ _ _ _ _ (Ok tt) _ c.in_ok-check_question.ensures c.requires.1 c.from.ensures c.from-2.ensures
    (number_of_bits _ c.ranges.value) refl in
    let h = class_as _ _ _ _ _ _ _ _ _ (Ok tt) _ c.in_ok-check_class.ensures c.requires.1 c.requires.2 refl in
    let f = c.least_and_greatest-least.ensures in (
      class_accepted a.sheet.now a.source a.sink a.value _ _ _ _ _ c.requires.0 asked h,
      (
        c.find_largest-largest.result,
        c.find_largest-largest.ensures,
        λ q l. subst
            (λ v. Points a.sheet.now a.source a.sink v c.find_largest-largest.result
            (paper_of a.sheet.now a.claims.now a.kinds.now a.settings.now a.sets.now q) (at c.mark_papers.new.points q))
            (number_of_bits _ c.ranges.value) (c.mark_papers.ensures.0 q l),
      ),
      c.mark_papers.ensures.2,
      record {
        number_is = c.narrow.ensures;
        sum_is = c.narrow-2.ensures ∙ c.sum_of-sum.ensures.0;
        least_reached = f.least_reached;
        least_below = f.least_below;
        greatest_reached = f.greatest_reached;
        greatest_above = f.greatest_above;
      },
    )
