-- `minus_small` meets its contract: a difference at 32 bits that fits them is the difference.
use mathlib.Core.Path.{◌∙◌}
use mir.Syntax.{w16, w32}
use mir.ValLaws.{to_z-of_z}
use Rattle.signed.proofs.Laws.{fits_wide, small_widened}
use Rattle.signed.proofs.minus_small.Statement.{statement}
use Rattle.signed.proofs.minus_small.Tie as tie

cast-result : tie.Need-overflow_cast-result
cast-result c = rw (to_z-of_z w16 c.args.y c.ranges.y) (fits_wide c.ranges.y)

sub-result : tie.Need-overflow_sub-result
sub-result c = rw (to_z-of_z w32 c.args.x c.ranges.x, small_widened c.args.y c.ranges.y) c.requires

returns : tie.Need-returns
returns c = to_z-of_z w32 _ (sub-result c) ∙ rw (to_z-of_z w32 c.args.x c.ranges.x, small_widened c.args.y c.ranges.y)

pub minus_small_spec : {M : Type 1} → statement M
minus_small_spec = tie.close (tie.spec cast-result sub-result returns)
