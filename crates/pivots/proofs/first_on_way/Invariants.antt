-- The node reached is one.
use Rattle.std.proofs.Common.{◌<◌}
use Rattle.pivots.proofs.first_on_way.Given as goal

abbrev pub invariant-loop : goal.invariant-loop
invariant-loop g l = l.w < 1024
