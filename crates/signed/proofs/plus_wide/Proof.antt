-- `plus_wide` meets its contract: a sum at 64 bits that fits them is the sum.
use mathlib.Core.Path.{◌∙◌}
use mir.Syntax.{w32, w64}
use mir.ValLaws.{to_z-of_z}
use Rattle.signed.proofs.Laws.{fits_wider, widened}
use Rattle.signed.proofs.plus_wide.Statement.{statement}
use Rattle.signed.proofs.plus_wide.Tie as tie

cast-result : tie.Need-overflow_cast-result
cast-result c = rw (to_z-of_z w32 c.args.y c.ranges.y) (fits_wider c.ranges.y)

add-result : tie.Need-overflow_add-result
add-result c = rw (to_z-of_z w64 c.args.x c.ranges.x, widened c.args.y c.ranges.y) c.requires

returns : tie.Need-returns
returns c = to_z-of_z w64 _ (add-result c) ∙ rw (to_z-of_z w64 c.args.x c.ranges.x, widened c.args.y c.ranges.y)

pub plus_wide_spec : {M : Type 1} → statement M
plus_wide_spec = tie.close (tie.spec cast-result add-result returns)
