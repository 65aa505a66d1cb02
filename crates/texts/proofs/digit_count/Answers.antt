-- The power of ten that is not above the number has as many zeros as the number has digits behind its first.
use mathlib.Core.Path.{sym}
use native.Mathlib.Omega.{arith}
use Rattle.texts.proofs.Length.{length_by_power}
use Rattle.texts.proofs.digit_count.Goals as goal

pub returns : goal.returns
returns c = sym (length_by_power c.ilog10.result c.args.n _ (omega (arith, c.max.ensures)) c.ilog10.ensures.power_le c.ilog10.ensures.next_power_gt)
