-- The least and the greatest of the first n numbers: each is one of them, and none is beyond.
use Rattle.std.specs.Prelude.{ℕ, ◌≡◌, ◌<◌, ◌≤◌}

pub record Extremes (n : ℕ) (f : ℕ → ℕ) (least greatest : ℕ) : Type 0 where
  pub least_reached : (q : ℕ) × (q < n) × (f q ≡ least)
  pub least_below : (q : ℕ) → q < n → least ≤ f q
  pub greatest_reached : (q : ℕ) × (q < n) × (f q ≡ greatest)
  pub greatest_above : (q : ℕ) → q < n → f q ≤ greatest
