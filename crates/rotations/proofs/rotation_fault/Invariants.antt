-- Invariant: the darts below d are entered under their rotations, and each has the tail of its rotation.
use mathlib.Core.Path.{◌≡◌}
use Prim.Native.Nat.{ℕ, ◌<◌}
use lib.ListN.{length}
use Rattle.arrays.specs.At.{at}
use Rattle.rotations.specs.inner.Register.{Register}
use Rattle.rotations.proofs.rotation_fault.Given as goal

abbrev pub invariant-loop-d : goal.invariant-loop-d
invariant-loop-d l = record {
  long : length l.origin ≡ 1024;
  entered : Register (at l.rotations) (λ c. c) (at l.origin) l.d;
  same_tail : (c : ℕ) → c < l.d → at l.tails (at l.rotations c) ≡ at l.tails c;
}
