-- What stands in front of a list is the table of its first elements.
use mathlib.Core.Path.{◌∙◌}
use native.Mathlib.Omega.{arith}
use lib.ListN.{length}
use Rattle.sheets.proofs.Reading.{front_copied}
use Rattle.sheets.proofs.copy_front.Goals as goal

pub returns : goal.returns
returns g c = λ past. c.copy.ensures ∙ front_copied (length c.args.to.now) c.args.from.now past (omega arith)
