-- The dual of a map: its faces, joined over its darts.
use Rattle.std.specs.Prelude.{◌≡◌, ℕ, ◌<◌}
use Rattle.maps.specs.Map.{Map, darts}
use Rattle.maps.specs.Face.{faces, left, right}
use Rattle.search.specs.Dual.{Dual}

-- it has the darts and the faces of the map
pub record OfMap (N : Dual) (𝓜 : Map) : Type 0 where
  pub darts_are : N.darts ≡ darts 𝓜
  pub faces_are : N.faces ≡ faces 𝓜
  pub left_is : (d : ℕ) → d < darts 𝓜 → N.left d ≡ left 𝓜 d
  pub right_is : (d : ℕ) → d < darts 𝓜 → N.right d ≡ right 𝓜 d
