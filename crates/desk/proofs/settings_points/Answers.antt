-- The points for settings: Mark gives the value asked exactly where they carry it.
use Rattle.signed.proofs.Laws.{number_of_bits}
use borrow.Author.Rules.{rules}
use Rattle.desk.proofs.Judging.{earns_same}
use Rattle.desk.proofs.Asking.{marked_earns, refused_earns}
use Rattle.desk.proofs.settings_points.Goals as goal

pub returns-in-Ok : goal.returns-in-Ok
returns-in-Ok c =
    let a = c.args in
    marked_earns _ _ _ c.requires.0 a.value _ a.settings.now _ c.requires.1 c.in-Ok.ensures
    (earns_same _ _ _ _ _ (number_of_bits _ (record { sfits = search rules })) (number_of_bits _ c.ranges.value) c.value_asked.ensures)

pub returns-in-Err : goal.returns-in-Err
returns-in-Err c = refused_earns _ _ _ c.requires.0 c.args.value _ c.args.settings.now c.requires.1 c.in-Err.ensures
