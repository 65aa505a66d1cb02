-- The darts that a walk has listed, as whole rounds of the rotation, one to a node; and what listing a dart must keep.
use Rattle.std.specs.Prelude.{◌≡◌, ◌≢◌, ℕ, ◌+◌, ◌<◌}
use Rattle.maps.specs.Orbit.{Orbit}
use Rattle.traversal.specs.inner.Mark.{unmarked}
use Rattle.traversal.specs.inner.Spread.{Added}
use Rattle.traversal.specs.inner.Forest.{Growing}

-- the marked darts are whole rounds, each of darts of one tail, and no two of the same: under a tail `owner` has 1 more than the dart that its round begins
-- with, or 0 where none was listed
pub record Rounds (darts : ℕ) (tail rotation from owner : ℕ → ℕ) : Type 0 where
  pub held : (y : ℕ) → y < darts → from y ≢ unmarked → (l : ℕ) × (l < darts) × (owner (tail y) ≡ l + 1) × Orbit rotation l y
  pub turns : (y : ℕ) → y < darts → from y ≢ unmarked → (from (rotation y) ≢ unmarked) × (tail (rotation y) ≡ tail y)
  pub came : (y : ℕ) → y < darts → from y ≢ unmarked → (x : ℕ) × (x < darts) × (rotation x ≡ y) × (from x ≢ unmarked)
  pub leaves : (v : ℕ) → owner v ≢ 0 → (d : ℕ) × (d < darts) × (tail d ≡ v) × (from d ≢ unmarked)

-- d may be listed next, as met from `origin`: the walk is then as it should be
abbrev pub Joinable : ℕ → (ℕ → ℕ) → (first : ℕ) → (order from : ℕ → ℕ) → (front end trees d origin : ℕ) → Type 0
Joinable darts rotation first order from front end trees d origin =
    (order' from' : ℕ → ℕ) (end' : ℕ) → Added d origin from from' order order' end end' → Growing darts rotation first order' from' front end' trees
