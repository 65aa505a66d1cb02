-- The checks 9, 10 and 12 in the paper's order, and what a function that makes them leaves. Document 01, "Operations": "Then 9 a turn has another tail, or
-- two darts have one turn; 10 some node's darts do not form exactly one round, or it has none"; "12 not flat". Document 02, Job 8: "Refusal 11 no longer
-- occurs."
use Rattle.std.specs.Prelude.{◌≡◌, List, [], ◌∷◌, ℕ, ◌<◌, Result, Ok, Err}
use Rattle.refusals.specs.Order.{Check, ◌when◌, NoneOf, FirstOf}
use Rattle.refusals.specs.declared.Refusal.{Refusal}
use Rattle.maps.specs.Map.{Map, darts}
use Rattle.maps.specs.Face.{faces, left}
use Rattle.maps.specs.Check.{RotationFault, NodeFault, NotFlat}
use Rattle.rotations.specs.declared.Counted.{Counted}

unfoldable pub map_checks : Map → List Check
map_checks 𝓜 =
    (9 when RotationFault 𝓜)
    ∷ (10 when NodeFault 𝓜)
    ∷ (12 when NotFlat 𝓜)
    ∷ []

-- passed: no check holds, each dart has the number of the face at its left, and the faces are counted; refused: by the first that holds
abbrev pub MapJudged : Map → (lefts : ℕ → ℕ) → Result Counted Refusal → Type 0
MapJudged 𝓜 lefts (Ok c) = NoneOf (map_checks 𝓜) × ((d : ℕ) → d < darts 𝓜 → lefts d ≡ left 𝓜 d) × (c.faces ≡ faces 𝓜)
MapJudged 𝓜 lefts (Err r) = FirstOf (map_checks 𝓜) r.number r.place
