-- No dart below d has a capacity below zero.
use Prim.Native.Nat.{ℕ, ◌<◌}
use lib.IntN.{pos}
use lib.Signed.{◌<ℤ◌}
use Rattle.arrays.specs.At.{atℤ}
use Rattle.dimacs.proofs.some_negative.Given as goal

abbrev pub invariant-loop-d : goal.invariant-loop-d
invariant-loop-d l = (i : ℕ) → i < l.d → atℤ l.capacities i <ℤ pos 0 → ⊥
