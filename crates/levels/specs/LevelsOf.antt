-- Levels from settings, on a drawing. Document 01, "Operations": after the checks on the drawing "16 is a settings slice shorter than the channels or a level
-- slice shorter than the faces", "17, then 18 for any node." Levels are indexed by face number.
use Rattle.std.specs.Prelude.{ℕ, ◌<◌, ◌≡◌, ◌⊎◌, List, ◌∷◌, ◌++◌, length, ℤ, Result, Ok, Err}
use Rattle.refusals.specs.Order.{Check, ◌when◌, NoneOf, FirstOf}
use Rattle.refusals.specs.declared.Refusal.{Refusal}
use Rattle.maps.specs.Drawing.{Drawing}
use Rattle.maps.specs.Face.{faces}
use Rattle.flows.specs.Levels.{Levels}
use Rattle.flows.specs.Check.{within_checks, balance_checks, NoNode}
use Rattle.arrays.specs.At.{atℤ}
use Rattle.arrays.specs.Filled.{filled}

unfoldable pub balanced_checks : Drawing → List ℤ → List ℤ → List Check
balanced_checks 𝓓 flows levels =
    (16 when (length flows < 𝓓.map.edges) ⊎ (length levels < faces 𝓓.map))
    ∷ (within_checks 𝓓.map.edges 𝓓.capacity (atℤ flows)
    ++ balance_checks 𝓓.map NoNode (atℤ flows))

-- What the operation answers, where `checks` are its refusals in order. Done: the levels of the settings, of which there is one, in the first places of the
-- slice; the rest as it was. Refused: the slice as it was.
abbrev pub LevelsGiven : Drawing → List Check → List ℤ → (levels levels' : List ℤ) → Result Unit Refusal → Type 0
LevelsGiven 𝓓 checks flows levels levels' (Ok done) =
    NoneOf checks
    × ((ρ : ℕ → ℤ) × Levels 𝓓.map 𝓓.outer (atℤ flows) ρ × (levels' ≡ filled (faces 𝓓.map) ρ levels))
LevelsGiven 𝓓 checks flows levels levels' (Err r) = FirstOf checks r.number r.place × (levels' ≡ levels)
