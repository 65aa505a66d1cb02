-- The largest value that can be carried, with its highest flow and a set around the source whose cut it is;
-- or that there is none, with a set beside source and sink whose cut is below zero.
use Rattle.std.specs.Prelude.{◌≡◌, List, Option, Some, None, ℕ, ℤ, pos, ◌<ℤ◌}
use Rattle.maps.specs.Map.{Map}
use Rattle.maps.specs.Cut.{cut}
use Rattle.flows.specs.Highest.{Highest}
use Rattle.flows.specs.inner.Sides.{AtSource, Beside}
use Rattle.arrays.specs.Filled.{filled}
use Rattle.arrays.specs.inner.Flags.{flagged}

abbrev pub Maximized : Map → (outer : ℕ) → (ℕ → ℤ) → (s t : ℕ) → (before flows : List ℤ) → List ℕ → Option ℤ → Type 0
Maximized 𝓜 outer c s t before flows A (Some v) =
    ((x : ℕ → ℤ) × Highest 𝓜 outer c s t v x × (flows ≡ filled 𝓜.edges x before)) × AtSource s t (flagged A) × (v ≡ cut 𝓜 c (flagged A))
Maximized 𝓜 outer c s t before flows A None = (flows ≡ before) × Beside s t (flagged A) × (cut 𝓜 c (flagged A) <ℤ pos 0)
