-- The flags below u are those of the union and of the intersection, and the others are as they were.
use mathlib.Core.Path.{◌≡◌}
use mathlib.Core.List.{List}
use Prim.Native.Nat.{ℕ, ◌≤◌, ◌<◌}
use lib.ListN.{length}
use Rattle.maps.specs.Cut.{union, intersection}
use Rattle.arrays.specs.At.{at}
use Rattle.arrays.specs.inner.Flags.{flagged}
use Rattle.node_flags.proofs.either_and_both.Given as goal

pub record Joining (a₀ b₀ a b : List ℕ) (u : ℕ) : Type 0 where
  pub long_a : length a ≡ 1024
  pub long_b : length b ≡ 1024
  pub united : (v : ℕ) → v < u → flagged a v ≡ union (flagged a₀) (flagged b₀) v
  pub common : (v : ℕ) → v < u → flagged b v ≡ intersection (flagged a₀) (flagged b₀) v
  pub rest_a : (v : ℕ) → u ≤ v → at a v ≡ at a₀ v
  pub rest_b : (v : ℕ) → u ≤ v → at b v ≡ at b₀ v

abbrev pub invariant-loop-u : goal.invariant-loop-u
invariant-loop-u l = Joining l.fn.a l.fn.b l.a l.b l.u
