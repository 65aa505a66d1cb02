-- A plane map with its faces and capacities in arrays, as the functions on arrays take it.
-- Only their contracts cite this: an operation on a sheet has none of it as a condition, but shows it.
use Rattle.std.specs.Prelude.{◌≡◌, ℕ, ◌≤◌, ◌<◌, ℤ, pos, ◌+ℤ◌, ◌≤ℤ◌}
use Rattle.integers.specs.inner.Limited.{Limited}
use Rattle.maps.specs.Dart.{rev}
use Rattle.maps.specs.Map.{Map, darts}
use Rattle.maps.specs.Face as face
use Rattle.flows.specs.inner.Plane.{Plane}
use Rattle.arrays.specs.inner.Sizes.{most_capacity}

-- the map is plane, `left` has its faces, and `faces` is how many they are; the outer dart is one of the darts; no edge's two capacities add to less than zero
pub record Drawn (𝓜 : Map) (left : ℕ → ℕ) (faces outer : ℕ) (capacity : ℕ → ℤ) : Type 0 where
  pub plane : Plane 𝓜
  pub few_nodes : 𝓜.nodes ≤ 1024
  pub few_edges : 𝓜.edges ≤ 512
  pub left_is : (d : ℕ) → d < darts 𝓜 → left d ≡ face.left 𝓜 d
  pub counted : faces ≡ face.faces 𝓜
  pub outer_in : outer < darts 𝓜
  pub small : (d : ℕ) → d < darts 𝓜 → Limited most_capacity (capacity d)
  pub pairs : (d : ℕ) → d < darts 𝓜 → pos 0 ≤ℤ (capacity d +ℤ capacity (rev d))
