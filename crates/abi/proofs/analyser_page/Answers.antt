-- A page that is refused tells its number and place; one that passed has its answers told, place by place. What `page_of` ensures of the list is said of the
-- questions in the arrays.
use mathlib.Core.Path.{refl}
use native.Mathlib.Omega.{arith}
use Rattle.std.specs.Prelude.{Ok, Err}
use Rattle.pages.specs.Question.{question_in}
use Rattle.analyser.proofs.Lines.{page_listed}
use Rattle.abi.proofs.Paging.{page_few, told_passed}
use Rattle.abi.proofs.analyser_page.Goals as goal

pub tell_numbers-requires : goal.tell_numbers-requires
tell_numbers-requires c =
    let a = c.args in
    let h = page_listed a.sheet.now a.count (question_in a.sources.now a.sinks.now a.values.now) c.list_from-list.result c.list_from-list.ensures a.flows.now
    c.page_of-answer.new.flows a.sets.now c.page_of-answer.new.sets (Ok c.in-Ok.page) c.in-Ok.ensures in
    (page_few a.sheet.now a.count _ a.flows.now _ a.sets.now _ c.in-Ok.page h.0, omega (arith, c.told-answers))

pub tell_sizes-requires : goal.tell_sizes-requires
tell_sizes-requires c =
    let a = c.args in
    let h = page_listed a.sheet.now a.count (question_in a.sources.now a.sinks.now a.values.now) c.list_from-list.result c.list_from-list.ensures a.flows.now
    c.page_of-answer.new.flows a.sets.now c.page_of-answer.new.sets (Ok c.in-Ok.page) c.in-Ok.ensures in
    (page_few a.sheet.now a.count _ a.flows.now _ a.sets.now _ c.in-Ok.page h.0, omega (arith, c.told-sizes))

pub returns-in-Ok : goal.returns-in-Ok
returns-in-Ok c =
    let a = c.args in
    let h = page_listed a.sheet.now a.count (question_in a.sources.now a.sinks.now a.values.now) c.list_from-list.result c.list_from-list.ensures a.flows.now
    c.page_of-answer.new.flows a.sets.now c.page_of-answer.new.sets (Ok c.in-Ok.page) c.in-Ok.ensures in (
      Ok c.in-Ok.page,
      h.0,
      h.1,
      told_passed a.sheet.now a.count _ a.flows.now _ a.sets.now _ c.in-Ok.page h.0 a.answers.now _ a.sizes.now _ a.place.now
          c.tell_numbers.ensures c.tell_sizes.ensures,
    )

pub returns-in-Err : goal.returns-in-Err
returns-in-Err c =
    let a = c.args in
    let h = page_listed a.sheet.now a.count (question_in a.sources.now a.sinks.now a.values.now) c.list_from-list.result c.list_from-list.ensures a.flows.now
    c.page_of-answer.new.flows a.sets.now c.page_of-answer.new.sets (Err c.in-Err.refusal) c.in-Err.ensures in
    (Err c.in-Err.refusal, h.0, h.1, (c.refuse.ensures.number, refl, refl, c.refuse.ensures.place))
