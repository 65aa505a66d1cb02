-- `signed::sub32` meets its contract: both numbers are widened as they are, and the result fits 64 bits.
use mathlib.Core.Path.{◌∙◌}
use mir.Syntax.{w64}
use mir.ValLaws.{to_z-of_z}
use Rattle.signed.proofs.Laws.{number_of_bits, fits_wider, widened, sub_fits}
use Rattle.signed.proofs.sub32.Statement.{statement}
use Rattle.signed.proofs.sub32.Tie as tie

cast-result : tie.Need-overflow_cast-result
cast-result c = rw (number_of_bits c.args.a c.ranges.a) (fits_wider c.ranges.a)

cast-result-2 : tie.Need-overflow_cast-result-2
cast-result-2 c = rw (number_of_bits c.args.b c.ranges.b) (fits_wider c.ranges.b)

sub-result : tie.Need-overflow_sub-result
sub-result c = rw (widened c.args.a c.ranges.a, widened c.args.b c.ranges.b) (sub_fits c.args.a c.args.b c.ranges.a c.ranges.b)

returns : tie.Need-returns
returns c = to_z-of_z w64 _ (sub-result c) ∙ rw (widened c.args.a c.ranges.a, widened c.args.b c.ranges.b)

pub sub32_spec : {M : Type 1} → statement M
sub32_spec = tie.close (tie.spec cast-result cast-result-2 sub-result returns)
