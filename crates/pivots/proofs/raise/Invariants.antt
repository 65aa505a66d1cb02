-- What is filled next is a dart.
use Rattle.std.proofs.Common.{◌<◌}
use Rattle.pivots.proofs.raise.Given as goal

abbrev pub invariant-loop : goal.invariant-loop
invariant-loop l = l.d < 1024
