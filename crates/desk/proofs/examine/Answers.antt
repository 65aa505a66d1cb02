-- The exam desk: the sheet's own refusal, or the class on its counts.
use mathlib.Core.Path.{refl}
use Rattle.std.proofs.lemmas.Result.{err_from_is_err_and}
use Rattle.signed.proofs.Laws.{number_of_bits}
use Rattle.desk.proofs.Asking.{sheet_refused, examined_as}
use Rattle.desk.proofs.examine.Goals as goal

pub returns-in_err-counts : goal.returns-in_err-counts
returns-in_err-counts c =
    let a = c.args in
    let p = err_from_is_err_and c.from_residual.result c.from_residual.ensures.1 in
    rw (p.1, p.2) (sheet_refused a.sheet.now a.source a.sink a.value _ _ _ _ _ _ _ c.in_err-counts.ensures, refl)

pub returns : goal.returns
returns c =
    let a = c.args in
    examined_as a.sheet.now a.source a.sink a.value _ a.claims.now a.kinds.now a.settings.now a.sets.now a.points.now
    c.examine_counted.new.points c.examine_counted.result (number_of_bits _ c.ranges.value) c.examine_counted.ensures
