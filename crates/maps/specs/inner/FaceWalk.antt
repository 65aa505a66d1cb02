-- Walks over faces. Document 01, "The highest answer", speaks of "a ring of faces whose lengths add to less than zero": crossing the dart d leads from
-- right(d) to left(d) and adds the length of d. A ring is a walk that ends where it began.
use Rattle.std.specs.Prelude.{ℕ, ◌<◌, ◌≡◌, ℤ, pos, ◌+ℤ◌}
use Rattle.maps.specs.Map.{Map, darts}
use Rattle.maps.specs.Face.{left, right}

pub data FaceWalk (𝓜 : Map) : ℕ → ℕ → Type 0 where
  stay : {f : ℕ} → FaceWalk 𝓜 f f
  cross : {f g : ℕ} (d : ℕ) → d < darts 𝓜 → right 𝓜 d ≡ f → FaceWalk 𝓜 (left 𝓜 d) g → FaceWalk 𝓜 f g

module _ {𝓜 : Map} (length : ℕ → ℤ) where
  unfoldable pub total : {f g : ℕ} → FaceWalk 𝓜 f g → ℤ
  total stay = pos 0
  total (cross d l e w) = length d +ℤ total w
