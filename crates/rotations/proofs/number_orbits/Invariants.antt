-- Invariant: the orbits whose lowest member is below d have their numbers, and f is the next.
use mathlib.Core.Path.{◌≡◌}
use lib.ListN.{length}
use Rattle.arrays.specs.At.{at}
use Rattle.rotations.proofs.Numbering.{Numbering}
use Rattle.rotations.proofs.number_orbits.Given as goal

abbrev pub invariant-loop-d : goal.invariant-loop-d
invariant-loop-d l = record {
  long : length l.label ≡ 1024;
  numbered : Numbering l.n (at l.next) (at l.label) l.d l.f;
}
