use Rattle.std.proofs.lemmas.Result.{err_from_is_err_and}
use Rattle.signed.proofs.Laws.{number_of_bits}
use Rattle.sheets.proofs.Opening.{opens_passed, opens_refused}
use Rattle.analyser.proofs.Opened.{opened, solve_refused, solved_sheet, named_sheet}
use Rattle.analyser.proofs.solve.Goals as goal

pub returns-in_err-sizes : goal.returns-in_err-sizes
returns-in_err-sizes c =
    let a = c.args in
    let p = err_from_is_err_and c.from_residual.result c.from_residual.ensures.1 in
    let first = opens_refused a.sheet.now c.open_walked-net.result c.in_err-sizes.was c.open_walked-net.ensures.4 in
    rw (p.1, p.2) (solve_refused a.sheet.now _ first a.source a.sink a.value a.flows.now a.set.now, tt)

pub solve-requires : goal.solve-requires
solve-requires c =
    let passed = opens_passed c.args.sheet.now c.open_walked-net.result c.in_ok-sizes.was c.open_walked-net.ensures.4 in
    let new = c.open_walked-net.new in
    let walked = c.open_walked-net.ensures.5 c.in_ok-sizes.sizes c.in_ok-sizes.was in
    opened c.args.sheet.now c.open_walked-net.result c.in_ok-sizes.sizes passed new.order new.from new.grouped new.starts walked.1

pub returns : goal.returns
returns c =
    let a = c.args in
    let passed = opens_passed a.sheet.now c.open_walked-net.result c.in_ok-sizes.was c.open_walked-net.ensures.4 in
    let value = number_of_bits _ c.ranges.value in (
      solved_sheet a.sheet.now c.open_walked-net.result c.in_ok-sizes.sizes passed c.wide.ensures c.wide-2.ensures value
          a.flows.now _ a.set.now _ c.solve.result c.solve.ensures.0,
      named_sheet a.sheet.now c.open_walked-net.result c.in_ok-sizes.sizes passed c.wide.ensures c.wide-2.ensures value
          _ c.solve.result c.solve.ensures.1,
    )
