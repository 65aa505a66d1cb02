use Rattle.std.proofs.lemmas.Result.{err_from_is_err_and}
use Rattle.sheets.proofs.Opening.{opens_passed, opens_refused}
use Rattle.analyser.proofs.Opened.{leveling, levels_refused, levels_sheet}
use Rattle.analyser.proofs.levels_from_settings.Goals as goal

pub returns-in_err-sizes : goal.returns-in_err-sizes
returns-in_err-sizes c =
    let a = c.args in
    let p = err_from_is_err_and c.from_residual.result c.from_residual.ensures.1 in
    rw (p.1, p.2) (levels_refused a.sheet.now _ (opens_refused a.sheet.now c.open-net.result c.in_err-sizes.was c.open-net.ensures) a.flows.now a.levels.now)

pub levels_of-requires : goal.levels_of-requires
levels_of-requires c =
    leveling c.args.sheet.now c.open-net.result c.in_ok-sizes.sizes (opens_passed c.args.sheet.now c.open-net.result c.in_ok-sizes.was c.open-net.ensures)

pub returns : goal.returns
returns c =
    let a = c.args in
    let passed = opens_passed a.sheet.now c.open-net.result c.in_ok-sizes.was c.open-net.ensures in
    levels_sheet a.sheet.now c.open-net.result c.in_ok-sizes.sizes passed a.flows.now a.levels.now _ c.levels_of.result c.levels_of.ensures
