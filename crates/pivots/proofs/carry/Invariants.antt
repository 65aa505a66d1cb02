-- The node reached is one.
use Rattle.std.proofs.Common.{◌<◌}
use Rattle.pivots.proofs.carry.Given as goal

abbrev pub invariant-loop : goal.invariant-loop
invariant-loop l = l.v < 1024
