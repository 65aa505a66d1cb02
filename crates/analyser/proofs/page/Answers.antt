-- The list that `list_of` makes is of the slice's questions, so what `page_of` ensures of the list is said of the questions.
use Rattle.std.proofs.Common.{length}
use Rattle.pages.specs.Question.{question_at}
use Rattle.analyser.proofs.Lines.{page_listed}
use Rattle.analyser.proofs.page.Goals as goal

pub returns : goal.returns
returns c =
    let a = c.args in
    page_listed a.sheet.now (length a.questions.now) (question_at a.questions.now) c.list_of-list.result c.list_of-list.ensures
    a.flows.now _ a.sets.now _ c.page_of.result c.page_of.ensures
