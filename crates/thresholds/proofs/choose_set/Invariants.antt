-- The threshold is at or below one whose cut is below zero, none tried before serves, and the flags are those of the nodes above it.
use mathlib.Core.Path.{◌≡◌}
use mathlib.Core.List.{List}
use Prim.Native.Nat.{ℕ, ◌<◌}
use lib.ListN.{length}
use lib.IntN.{ℤ}
use Rattle.arrays.specs.At.{at, atℤ}
use Rattle.arrays.specs.inner.Flags.{flagged}
use Rattle.thresholds.specs.inner.Above.{above}
use Rattle.thresholds.proofs.Choosing.{Trying, Tried, left_above}
use Rattle.thresholds.proofs.choose_set.Given as goal

pub record Searching (nodes darts : ℕ) (tail : ℕ → ℕ) (length_of height : ℕ → ℤ) (inside : List ℕ) (threshold : ℤ) : Type 0 where
  pub long : length inside ≡ 1024
  pub flags : (v : ℕ) → v < nodes → flagged inside v ≡ above height threshold v
  pub trying : Trying darts tail length_of height threshold
  pub tried : Tried nodes darts tail length_of height threshold

abbrev pub invariant-loop-threshold : goal.invariant-loop-threshold
invariant-loop-threshold l = Searching l.nodes l.darts (at l.tails) (atℤ l.lengths) (atℤ l.heights) l.inside l.threshold

abbrev pub decreases-loop-threshold : goal.decreases-loop-threshold
decreases-loop-threshold l = left_above l.threshold
