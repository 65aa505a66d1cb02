-- Each goal by a lemma of `Checking`: the reader goes farther with each record, and where bytes are no longer left all have passed.
use Rattle.std.proofs.Common.{arith, ap, length}
use Rattle.capture.proofs.Checking.{behind_farther, passed_all}
use Rattle.capture.proofs.check_capture.Goals as goal

pub loop-reader-smaller : goal.loop-reader-smaller
loop-reader-smaller c = omega (arith, behind_farther _ _ c.loop-reader-test.true, c.behind.ensures, ap length c.loop-reader.invariant.same)

pub returns : goal.returns
returns c = passed_all c.loop-reader.invariant.passing (omega (arith, ap length c.loop-reader.invariant.same))
