-- The darts of one face, laid side by side while it is numbered: each stands as its reverse, whose right face it is.
use Rattle.std.specs.Prelude.{◌≡◌, List, ℕ, ◌≤◌, ◌<◌}
use Rattle.maps.specs.Dart.{rev}
use Rattle.maps.specs.Orbit.{Orbit}
use Rattle.arrays.specs.At.{at}

-- the face step of the darts whose rotations an array has
abbrev pub step_of : List ℕ → ℕ → ℕ
step_of rotations d = at rotations (rev d)

-- the places begin, .., end - 1 hold the reverses of the orbit of `start`, and no others; the places behind them are as before
pub record Laid (n : ℕ) (next before after : ℕ → ℕ) (start begin end : ℕ) : Type 0 where
  pub some : begin < end
  pub kept : (i : ℕ) → end ≤ i → after i ≡ before i
  pub has : (y : ℕ) → Orbit next start y → (j : ℕ) × (begin ≤ j) × (j < end) × (after j ≡ rev y)
  pub holds : (j : ℕ) → begin ≤ j → j < end → (after j < n) × Orbit next start (rev (after j))
