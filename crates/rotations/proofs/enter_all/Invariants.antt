-- Invariant: the places below d are entered.
use mathlib.Core.Path.{◌≡◌}
use lib.ListN.{length}
use Rattle.arrays.specs.At.{at}
use Rattle.rotations.specs.inner.Register.{Register}
use Rattle.rotations.proofs.enter_all.Given as goal

abbrev pub invariant-loop-d : goal.invariant-loop-d
invariant-loop-d l = record {
  long : length l.table ≡ 1024;
  entered : Register (at l.keys) (at l.values) (at l.table) l.d;
}
