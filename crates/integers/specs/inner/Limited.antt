-- How great a number may be, either way: by this, sums are shown to fit the machine's words.
use Rattle.std.specs.Prelude.{ℕ, ℤ, pos, neg_ℤ, ◌≤ℤ◌}

-- from -bound to bound
pub record Limited (bound : ℕ) (x : ℤ) : Type 0 where
  pub low : neg_ℤ (pos bound) ≤ℤ x
  pub high : x ≤ℤ pos bound
