use Rattle.std.proofs.lemmas.Result.{err_from_is_err_and}
use Rattle.sheets.proofs.Opening.{opens_passed, opens_refused}
use Rattle.analyser.proofs.Opened.{roundable, totals_refused, totals_sheet}
use Rattle.analyser.proofs.totals.Goals as goal

pub returns-in_err-sizes : goal.returns-in_err-sizes
returns-in_err-sizes c =
    let a = c.args in
    let p = err_from_is_err_and c.from_residual.result c.from_residual.ensures.1 in
    rw (p.1, p.2) (totals_refused a.sheet.now _ (opens_refused a.sheet.now c.open-net.result c.in_err-sizes.was c.open-net.ensures) a.set.now a.subtotals.now)

pub totals_of-requires : goal.totals_of-requires
totals_of-requires c =
    roundable c.args.sheet.now c.open-net.result c.in_ok-sizes.sizes (opens_passed c.args.sheet.now c.open-net.result c.in_ok-sizes.was c.open-net.ensures)

pub returns : goal.returns
returns c =
    let a = c.args in
    let passed = opens_passed a.sheet.now c.open-net.result c.in_ok-sizes.was c.open-net.ensures in
    totals_sheet a.sheet.now c.open-net.result c.in_ok-sizes.sizes passed a.set.now a.subtotals.now _ c.totals_of.result c.totals_of.ensures
