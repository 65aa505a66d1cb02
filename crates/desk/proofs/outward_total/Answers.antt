-- The outward total of a set: Totals by node gives it, and does not refuse.
use mathlib.Core.Path.{◌∙◌}
use borrow.Author.Rules.{rules}
use Rattle.signed.proofs.Laws.{number_of_bits}
use Rattle.desk.proofs.Asking.{total_is, total_never_refused}
use Rattle.desk.proofs.outward_total.Goals as goal

pub returns-in-Ok : goal.returns-in-Ok
returns-in-Ok c =
    number_of_bits _ (record { sfits = search rules })
    ∙ total_is c.args.sheet.now c.args.set.now c.requires.0 c.requires.1 c.totals-answer.new.subtotals _ c.in-Ok.ensures

pub returns-in-Err : goal.returns-in-Err
returns-in-Err c =
    absurd (total_never_refused c.args.sheet.now c.args.set.now c.requires.0 c.requires.1 c.totals-answer.new.subtotals _ c.in-Err.ensures)
