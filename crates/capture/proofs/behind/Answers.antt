-- The lesser of the place a record's length farther and the end.
use native.Mathlib.Omega.{arith}
use Rattle.capture.proofs.Checking.{behind_least}
use Rattle.capture.proofs.behind.Goals as goal

pub returns : goal.returns
returns c = behind_least c.args.capture.now c.args.at 18446744073709551615 c.min.result (omega arith) (omega arith)
