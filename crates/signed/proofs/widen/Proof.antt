-- `signed::widen` meets its contract: a number of 32 bits fits 64, and is read back there.
use Rattle.signed.proofs.Laws.{number_of_bits, fits_wider, widened}
use Rattle.signed.proofs.widen.Statement.{statement}
use Rattle.signed.proofs.widen.Tie as tie

cast-result : tie.Need-overflow_cast-result
cast-result c = rw (number_of_bits c.args.x c.ranges.x) (fits_wider c.ranges.x)

returns : tie.Need-returns
returns c = widened c.args.x c.ranges.x

pub widen_spec : {M : Type 1} → statement M
widen_spec = tie.close (tie.spec cast-result returns)
