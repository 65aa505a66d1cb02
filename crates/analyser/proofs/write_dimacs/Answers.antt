use Rattle.std.proofs.lemmas.Result.{err_from_is_err_and}
use Rattle.sheets.proofs.Opening.{opens_passed, opens_refused}
use Rattle.analyser.proofs.Opened.{counts_small, dimacs_refused, dimacs_sheet}
use Rattle.analyser.proofs.write_dimacs.Goals as goal

pub returns-in_err-sizes : goal.returns-in_err-sizes
returns-in_err-sizes c =
    let a = c.args in
    let p = err_from_is_err_and c.from_residual.result c.from_residual.ensures.1 in
    rw (p.1, p.2) (dimacs_refused a.sheet.now _ (opens_refused a.sheet.now c.open-net.result c.in_err-sizes.was c.open-net.ensures) a.source a.sink a.out.now)

pub write-requires : goal.write-requires
write-requires c =
    counts_small c.args.sheet.now c.open-net.result c.in_ok-sizes.sizes (opens_passed c.args.sheet.now c.open-net.result c.in_ok-sizes.was c.open-net.ensures)

pub returns : goal.returns
returns c =
    let a = c.args in
    let passed = opens_passed a.sheet.now c.open-net.result c.in_ok-sizes.was c.open-net.ensures in
    dimacs_sheet a.sheet.now c.open-net.result c.in_ok-sizes.sizes passed a.source a.sink a.out.now _ c.write.result c.write.ensures
