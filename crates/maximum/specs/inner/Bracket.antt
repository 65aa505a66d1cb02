-- What is known of the largest value between two probes: nothing above `high` can be carried, and `low` is carried, or nothing below it can be. Only the
-- contracts below the operation cite this file.
use Rattle.std.specs.Prelude.{◌≡◌, Bool, true, false, ◌⊎◌, List, ℕ, ℤ, neg_ℤ, ◌≤ℤ◌, ◌<ℤ◌}
use Rattle.integers.specs.inner.Limited.{Limited}
use Rattle.maps.specs.Map.{Map}
use Rattle.maps.specs.Cut.{cut}
use Rattle.flows.specs.Highest.{Highest}
use Rattle.flows.specs.inner.Sides.{AtSource, AtSink}
use Rattle.arrays.specs.Filled.{filled}
use Rattle.arrays.specs.inner.Flags.{flagged}

-- `high` is the cut of the set A, which holds the source and not the sink
pub record Ceiling (𝓜 : Map) (c : ℕ → ℤ) (s t : ℕ) (A : ℕ → Bool) (high : ℤ) : Type 0 where
  pub side : AtSource s t A
  pub is_cut : high ≡ cut 𝓜 c A

-- found: `low` is carried, and its highest flow stands in the slice.
-- Not yet: the slice is as it was, and `low` is at most the negative of the cut of the set B, which holds the sink and not the source.
abbrev pub Floor : Map → (outer : ℕ) → (ℕ → ℤ) → (s t : ℕ) → (before flows : List ℤ) → (ℕ → Bool) → ℤ → Bool → Type 0
Floor 𝓜 outer c s t before flows B low true = (x : ℕ → ℤ) × Highest 𝓜 outer c s t low x × (flows ≡ filled 𝓜.edges x before)
Floor 𝓜 outer c s t before flows B low false = (flows ≡ before) × AtSink s t B × (low ≤ℤ neg_ℤ (cut 𝓜 c B)) × Limited 512000000 low

pub record Bracket (𝓜 : Map) (outer : ℕ) (c : ℕ → ℤ) (s t : ℕ) (before flows : List ℤ) (A B : List ℕ) (low high : ℤ) (found : Bool) : Type 0 where
  pub ceiling : Ceiling 𝓜 c s t (flagged A) high
  pub floor : Floor 𝓜 outer c s t before flows (flagged B) low found

-- the bounds after a probe lie within those before it: there is less between them, or a value is found for the first time
pub record Closer (low high : ℤ) (found : Bool) (low' high' : ℤ) (found' : Bool) : Type 0 where
  pub rises : low ≤ℤ low'
  pub falls : high' ≤ℤ high
  pub still : found ≡ true → found' ≡ true
  pub less : (low <ℤ low') ⊎ ((high' <ℤ high) ⊎ ((found ≡ false) × (found' ≡ true)))
