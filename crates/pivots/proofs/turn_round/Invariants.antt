-- The node reached is one, and the dart by which it goes on is one.
use Rattle.std.proofs.Common.{◌<◌}
use Rattle.pivots.proofs.turn_round.Given as goal

abbrev pub invariant-loop : goal.invariant-loop
invariant-loop l = (l.w < 1024) × (l.d < 1024)
