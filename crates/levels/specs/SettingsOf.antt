-- Settings from levels, on a drawing. Document 01, "Operations": after the checks on the drawing 16 as in Levels from settings, "19 a level beyond
-- ±600,000,000, 20 face 0 not at 0, 17." 19 and 20 are `level_checks`.
use Rattle.std.specs.Prelude.{ℕ, ◌*◌, ◌<◌, ◌≡◌, ◌⊎◌, List, ◌∷◌, ◌++◌, length, ℤ, Result, Ok, Err}
use Rattle.refusals.specs.Order.{Check, ◌when◌, NoneOf, FirstOf}
use Rattle.refusals.specs.declared.Refusal.{Refusal}
use Rattle.maps.specs.Map.{Map}
use Rattle.maps.specs.Drawing.{Drawing}
use Rattle.maps.specs.Face.{faces}
use Rattle.maps.specs.Potential.{difference}
use Rattle.flows.specs.ZeroFace.{ZeroFace}
use Rattle.flows.specs.Check.{within_checks}
use Rattle.arrays.specs.At.{atℤ}
use Rattle.arrays.specs.Filled.{filled}
use Rattle.levels.specs.Level.{level_checks}

-- the setting of edge e: the level left of dart 2e less the level right of it
abbrev pub from_levels : Map → (ℕ → ℤ) → ℕ → ℤ
from_levels 𝓜 ρ e = difference 𝓜 ρ (2 * e)

unfoldable pub leveled_checks : Drawing → List ℤ → List ℤ → List Check
leveled_checks 𝓓 levels flows =
    (16 when (length flows < 𝓓.map.edges) ⊎ (length levels < faces 𝓓.map))
    ∷ (level_checks (faces 𝓓.map) (ZeroFace 𝓓.map 𝓓.outer) (atℤ levels)
    ++ within_checks 𝓓.map.edges 𝓓.capacity (from_levels 𝓓.map (atℤ levels)))

-- what the operation answers, where `checks` are its refusals in order
abbrev pub SettingsGiven : Drawing → List Check → List ℤ → (flows flows' : List ℤ) → Result Unit Refusal → Type 0
SettingsGiven 𝓓 checks levels flows flows' (Ok done) = NoneOf checks × (flows' ≡ filled 𝓓.map.edges (from_levels 𝓓.map (atℤ levels)) flows)
SettingsGiven 𝓓 checks levels flows flows' (Err r) = FirstOf checks r.number r.place × (flows' ≡ flows)
