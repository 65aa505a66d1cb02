-- The record is made of what the checks found and of the arrays that they filled.
use mathlib.Core.Path.{refl}
use lib.IntN.{pos}
use Rattle.std.proofs.lemmas.Result.{IfOk-at_ok}
use Rattle.arrays.proofs.FillLoops.{same_everywhere}
use Rattle.sheets.proofs.open_walked.Goals as goal

pub read_sheet-opened-requires : goal.read_sheet-opened-requires
read_sheet-opened-requires c =
    let p = c.requires in (
      refl,
      same_everywhere 1024 0,
      refl,
      same_everywhere 1024 0,
      refl,
      same_everywhere 1024 (pos 0),
      refl,
      same_everywhere 1024 0,
      p.0,
      p.1,
      p.2,
      p.3,
    )

pub returns : goal.returns
returns c = let e = c.read_sheet-opened.ensures in (e.4, e.5, e.6, e.7, e.8, λ sizes is. (e.2, IfOk-at_ok _ is e.9))
