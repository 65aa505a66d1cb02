-- Settings in parts. Document 02, Job 13: "no settings in n-th parts of a litre a minute carry that delivery either, for each whole n from 1 up". Counted in
-- n-th parts a litre a minute is n of them: every limit and the delivery are n times as many, and a setting may be any whole number of parts.
use Rattle.std.specs.Prelude.{ℕ, ◌<◌, ℤ, pos, ◌*ℤ◌}
use Rattle.maps.specs.Map.{Map}
use Rattle.flows.specs.Settings.{Carries}

-- x e n-th parts on each edge e carry the value ("delivery") from s to t within the capacities c
abbrev pub CarriesInParts : (n : ℕ) → Map → (ℕ → ℤ) → (s t : ℕ) → ℤ → (ℕ → ℤ) → Type 0
CarriesInParts n 𝓜 c s t value x = (0 < n) × Carries 𝓜 (λ d. pos n *ℤ c d) s t (pos n *ℤ value) x

-- no settings in parts carry the value, however small the parts
abbrev pub ExcludedInParts : Map → (ℕ → ℤ) → (s t : ℕ) → ℤ → Type 0
ExcludedInParts 𝓜 c s t value = (n : ℕ) (x : ℕ → ℤ) → CarriesInParts n 𝓜 c s t value x → ⊥
