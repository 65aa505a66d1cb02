-- Marking one orbit with a number, on labels where 65535 means that a place has none yet.
use Rattle.std.specs.Prelude.{◌≡◌, ℕ, ◌≤◌, ◌<◌}
use Rattle.maps.specs.Orbit.{Orbit, Permutes}
use Rattle.traversal.specs.inner.Mark.{unmarked}

-- the orbit of `start` may be given this number: no place of it has one
pub record Markable (n : ℕ) (next label : ℕ → ℕ) (start number : ℕ) : Type 0 where
  pub few : n ≤ 1024
  pub permutes : Permutes n next
  pub inside : start < n
  pub free : (y : ℕ) → Orbit next start y → label y ≡ unmarked
  pub small : number < unmarked

-- the orbit of `start` has this number, and the labels of other places are as before
pub record Marked (n : ℕ) (next before after : ℕ → ℕ) (start number : ℕ) : Type 0 where
  pub on : (y : ℕ) → Orbit next start y → after y ≡ number
  pub off : (y : ℕ) → y < n → (Orbit next start y → ⊥) → after y ≡ before y
