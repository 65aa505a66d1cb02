-- `signed::add32` meets its contract: both numbers are widened as they are, and the result fits 64 bits.
use mathlib.Core.Path.{◌∙◌}
use mir.Syntax.{w64}
use mir.ValLaws.{to_z-of_z}
use Rattle.signed.proofs.Laws.{number_of_bits, fits_wider, widened, add_fits}
use Rattle.signed.proofs.add32.Statement.{statement}
use Rattle.signed.proofs.add32.Tie as tie

cast-result : tie.Need-overflow_cast-result
cast-result c = rw (number_of_bits c.args.a c.ranges.a) (fits_wider c.ranges.a)

cast-result-2 : tie.Need-overflow_cast-result-2
cast-result-2 c = rw (number_of_bits c.args.b c.ranges.b) (fits_wider c.ranges.b)

add-result : tie.Need-overflow_add-result
add-result c = rw (widened c.args.a c.ranges.a, widened c.args.b c.ranges.b) (add_fits c.args.a c.args.b c.ranges.a c.ranges.b)

returns : tie.Need-returns
returns c = to_z-of_z w64 _ (add-result c) ∙ rw (widened c.args.a c.ranges.a, widened c.args.b c.ranges.b)

pub add32_spec : {M : Type 1} → statement M
add32_spec = tie.close (tie.spec cast-result cast-result-2 add-result returns)
