-- The flags of the darts before d are right.
use Rattle.std.proofs.Common.{◌≡◌, length}
use Rattle.arrays.specs.At.{at}
use Rattle.traversal.specs.inner.Spread.{FlagsMet}
use Rattle.traversal.proofs.flag_met.Given as goal

abbrev pub invariant-loop-d : goal.invariant-loop-d
invariant-loop-d l = record { long : length l.inside ≡ 1024; flags : FlagsMet l.d (at l.tails) (at l.from) (at l.inside) }
