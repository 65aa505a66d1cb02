-- The highest answer. Document 01, "The highest answer": "Of all right settings for a delivery, the unit gives the one from which every other differs by
-- balanced settings whose levels are nowhere above zero." Other minus answer has levels of at most zero.
use Rattle.std.specs.Prelude.{ℕ, ◌<◌, ℤ, pos, ◌-ℤ◌, ◌≤ℤ◌}
use Rattle.maps.specs.Map.{Map}
use Rattle.maps.specs.Face.{faces}
use Rattle.flows.specs.Settings.{Carries}
use Rattle.flows.specs.Levels.{Levels}

pub record Highest (𝓜 : Map) (outer : ℕ) (c : ℕ → ℤ) (s t : ℕ) (value : ℤ) (x : ℕ → ℤ) : Type 0 where
  pub carries : Carries 𝓜 c s t value x
  pub highest : (y : ℕ → ℤ) → Carries 𝓜 c s t value y → (ρ : ℕ → ℤ) × Levels 𝓜 outer (λ e. y e -ℤ x e) ρ × ((f : ℕ) → f < faces 𝓜 → ρ f ≤ℤ pos 0)
