-- Which set of nodes is chosen: one of those above a threshold whose cut is below zero. What the choice needs, and what it leaves.
use Rattle.std.specs.Prelude.{◌≡◌, Bool, ℕ, ◌%◌, ◌≤◌, ◌<◌, ℤ, pos, ◌≤ℤ◌, ◌<ℤ◌}
use Rattle.integers.specs.inner.Limited.{Limited}
use Rattle.cuts.specs.inner.Cut.{cut_of}
use Rattle.thresholds.specs.inner.Above.{above}
use Rattle.arrays.specs.inner.Sizes.{most_length, most_height}

-- some threshold has a cut below zero
pub record Choosable (nodes darts : ℕ) (tail : ℕ → ℕ) (length height : ℕ → ℤ) : Type 0 where
  pub few_nodes : nodes ≤ 1024
  pub some_node : 0 < nodes
  pub few_darts : darts ≤ 1024
  pub even : darts % 2 ≡ 0
  pub tail_in : (d : ℕ) → d < darts → tail d < nodes
  pub short : (d : ℕ) → d < darts → Limited most_length (length d)
  pub low : (v : ℕ) → v < nodes → Limited most_height (height v)
  pub threshold : ℤ
  pub negative : cut_of darts tail length (above height threshold) <ℤ pos 0

-- the set is that above the first threshold, from the lowest height on, whose cut is below zero
pub record FirstServes (nodes darts : ℕ) (tail : ℕ → ℕ) (length height : ℕ → ℤ) (S : ℕ → Bool) : Type 0 where
  pub lowest : ℤ
  pub least : (v : ℕ) → v < nodes → lowest ≤ℤ height v
  pub reached : (v : ℕ) × (v < nodes) × (lowest ≡ height v)
  pub threshold : ℤ
  pub from_lowest : lowest ≤ℤ threshold
  pub none_lower : (t : ℤ) → lowest ≤ℤ t → t <ℤ threshold → cut_of darts tail length (above height t) <ℤ pos 0 → ⊥
  pub serves : cut_of darts tail length (above height threshold) <ℤ pos 0
  pub flags : (v : ℕ) → v < nodes → S v ≡ above height threshold v
