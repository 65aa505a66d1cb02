-- Invariants: no level below f is outside; of the first m roots each is at 0.
use mathlib.Core.Path.{◌≡◌}
use Prim.Native.Nat.{ℕ, ◌<◌}
use lib.IntN.{pos}
use Rattle.arrays.specs.At.{at, atℤ}
use Rattle.levels.specs.Level.{LevelOutside}
use Rattle.levels.proofs.check_levels.Given as goal

abbrev pub invariant-loop-f : goal.invariant-loop-f
invariant-loop-f l = (k : ℕ) → k < l.f → LevelOutside (atℤ l.levels k) → ⊥

abbrev pub invariant-loop-m : goal.invariant-loop-m
invariant-loop-m l = (k : ℕ) → k < l.m → atℤ l.levels (at l.roots k) ≡ pos 0
