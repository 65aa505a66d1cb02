-- A drawing: a map with the capacities of its darts, and a dart on its outer face. Document 01, "What the unit holds": "The forward limit belongs to dart 2e,
-- the back limit to dart 2e+1." A limit is a capacity here; it may be below zero.
use Rattle.std.specs.Prelude.{ℕ, ℤ}
use Rattle.maps.specs.Map.{Map}

pub record Drawing : Type 0 where
  pub map : Map
  pub capacity : ℕ → ℤ
  pub outer : ℕ
