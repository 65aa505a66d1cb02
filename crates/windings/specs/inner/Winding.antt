-- The winding of a ring of faces: how often the ring crosses each dart, less how often it crosses that dart's reverse. The ring is one that parents lead round
-- (`search`). Its winding is a difference of heights of the nodes, from which the proving set is read.
use Rattle.std.specs.Prelude.{◌≡◌, List, [], ◌∷◌, ℕ, ◌≤◌, ◌<◌, ℤ, pos, ◌+ℤ◌}
use Rattle.integers.specs.inner.Limited.{Limited}
use Rattle.maps.specs.Orbit.{iter}
use Rattle.flows.specs.inner.UnitFlow.{single}
use Rattle.search.specs.Parents.{up, down}

-- forth minus back, of darts crossed in turn
unfoldable pub crossings : List ℕ → ℕ → ℤ
crossings [] i = pos 0
crossings (d ∷ ds) i = single d i +ℤ crossings ds i

-- steps up from y, over darts, lead round to y, for the first time after `size` of them
pub record Round (right parent : ℕ → ℕ) (darts y : ℕ) : Type 0 where
  pub size : ℕ
  pub some : 0 < size
  pub few : size ≤ 1024
  pub closes : iter (up right parent) size y ≡ y
  pub first : (k : ℕ) → 0 < k → k < size → iter (up right parent) k y ≡ y → ⊥
  pub inside : (k : ℕ) → iter (up right parent) k y < 1024
  pub dart : (k : ℕ) → parent (iter (up right parent) k y) < darts

pub record Wound (right parent : ℕ → ℕ) (darts y : ℕ) (winding : ℕ → ℤ) : Type 0 where
  pub crossed : (r : Round right parent darts y) → (d : ℕ) → d < darts → winding d ≡ crossings (down right parent r.size y) d
  pub limited : (d : ℕ) → d < darts → Limited 1024 (winding d)
