-- The node reached is one, and so is the dart.
use Rattle.std.proofs.Common.{◌<◌}
use Rattle.pivots.proofs.tightest.Given as goal

abbrev pub invariant-loop : goal.invariant-loop
invariant-loop l = (l.v < 1024) × (l.best < 1024)
