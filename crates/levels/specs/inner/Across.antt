-- The flow that levels give an edge. Document 01, "Faces, settings, levels": "flow on d = level of left(d) − level of right(d)". The faces of the darts are any
-- function here: that of a drawing's map, or an array.
use Rattle.std.specs.Prelude.{ℕ, ◌*◌, ◌<◌, ◌≡◌, List, length, ℤ, ◌-ℤ◌}
use Rattle.maps.specs.Dart.{rev}
use Rattle.arrays.specs.At.{atℤ}
use Rattle.levels.specs.Level.{LevelOutside}

-- of edge e: the level of the face of its dart 2e less the level of the face of that dart's reverse
abbrev pub across : (ℕ → ℕ) → (ℕ → ℤ) → ℕ → ℤ
across left ρ e = ρ (left (2 * e)) -ℤ ρ (left (rev (2 * e)))

-- the slice of levels has one for the face of dart d, and 19 does not refuse it
pub record HasLevel (left : ℕ → ℕ) (levels : List ℤ) (d : ℕ) : Type 0 where
  pub there : left d < length levels
  pub inside : LevelOutside (atℤ levels (left d)) → ⊥

-- so for every dart of the edges
abbrev pub HaveLevels : ℕ → (ℕ → ℕ) → List ℤ → Type 0
HaveLevels edges left levels = (d : ℕ) → d < 2 * edges → HasLevel left levels d

-- f is one of the first `count` of the list
abbrev pub OneOf : (ℕ → ℕ) → ℕ → ℕ → Type 0
OneOf roots count f = (m : ℕ) × (m < count) × (roots m ≡ f)
