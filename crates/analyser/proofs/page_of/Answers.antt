use Rattle.std.proofs.lemmas.Result.{err_from_is_err_and}
use Rattle.pages.specs.Question.{question_at}
use Rattle.sheets.proofs.Opening.{opens_passed, opens_refused}
use Rattle.analyser.proofs.Opened.{opened, page_refused, page_sheet}
use Rattle.analyser.proofs.page_of.Goals as goal

pub returns-in_err-sizes : goal.returns-in_err-sizes
returns-in_err-sizes c =
    let a = c.args in
    let p = err_from_is_err_and c.from_residual.result c.from_residual.ensures.1 in
    let first = opens_refused a.sheet.now c.open_walked-net.result c.in_err-sizes.was c.open_walked-net.ensures.4 in
    rw (p.1, p.2) (page_refused a.sheet.now _ first a.list.count (question_at a.list.questions) a.flows.now a.sets.now, tt)

pub answer_list-requires : goal.answer_list-requires
answer_list-requires c =
    let passed = opens_passed c.args.sheet.now c.open_walked-net.result c.in_ok-sizes.was c.open_walked-net.ensures.4 in
    let new = c.open_walked-net.new in
    let walked = c.open_walked-net.ensures.5 c.in_ok-sizes.sizes c.in_ok-sizes.was in
    opened c.args.sheet.now c.open_walked-net.result c.in_ok-sizes.sizes passed new.order new.from new.grouped new.starts walked.1

pub returns : goal.returns
returns c =
    let a = c.args in
    let passed = opens_passed a.sheet.now c.open_walked-net.result c.in_ok-sizes.was c.open_walked-net.ensures.4 in
    page_sheet a.sheet.now c.open_walked-net.result c.in_ok-sizes.sizes passed a.list.count (question_at a.list.questions)
    a.flows.now _ a.sets.now _ c.answer_list.result c.answer_list.ensures
