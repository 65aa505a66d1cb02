-- The flow of an edge that potentials of the faces and the lengths of the darts give: the drop from the face left of dart 2e to the face right of it, and what
-- the capacity of that dart is more than its length, which is what the value carries along it.
use Rattle.std.specs.Prelude.{ℕ, ◌*◌, ◌<◌, ℤ, ◌+ℤ◌, ◌-ℤ◌}
use Rattle.integers.specs.inner.Limited.{Limited}
use Rattle.maps.specs.Dart.{rev}
use Rattle.arrays.specs.inner.Sizes.{most_potential, most_capacity}

abbrev pub flow_of : (ℕ → ℕ) → (capacity length potential : ℕ → ℤ) → ℕ → ℤ
flow_of left capacity length potential e = (potential (left (2 * e)) -ℤ potential (left (rev (2 * e)))) +ℤ (capacity (2 * e) -ℤ length (2 * e))

pub record Flowing (edges : ℕ) (left : ℕ → ℕ) (capacity length potential : ℕ → ℤ) : Type 0 where
  pub face_in : (d : ℕ) → d < 2 * edges → left d < 1024
  pub near : (d : ℕ) → d < 2 * edges → Limited most_potential (potential (left d))
  pub small : (e : ℕ) → e < edges → Limited most_capacity (flow_of left capacity length potential e)
