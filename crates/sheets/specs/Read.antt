-- Read. Document 01, "Operations": "Read gives both counts and fills three slices, one element per dart: tails, turns, limits. Sheet checks, then 16 a slice
-- shorter than two per channel." "Extra elements in a lent slice, the sheet excepted, are neither read nor written." Document 02, Job 6: "Read also gives the
-- dart", which is dart 0 of a head of kind 1.
use Rattle.std.specs.Prelude.{ℕ, ◌*◌, ◌<◌, ◌≡◌, ◌⊎◌, List, [], ◌∷◌, ◌++◌, length, ℤ, Result, Ok, Err}
use Rattle.refusals.specs.Order.{Check, ◌when◌, NoneOf, FirstOf}
use Rattle.refusals.specs.declared.Refusal.{Refusal}
use Rattle.arrays.specs.Filled.{filled}
use Rattle.records.specs.Sheet.{nodes_of, edges_of, outer_of, tail_of, rotation_of, capacity_of}
use Rattle.sheets.specs.Open.{sheet_checks}
use Rattle.sheets.specs.declared.Counts.{Counts}

-- the refusals, in order
unfoldable pub read_checks : List ℕ → List ℕ → List ℕ → List ℤ → List Check
read_checks s tails rotations capacities =
    sheet_checks s ++ ((16 when (length tails < 2 * edges_of s) ⊎ ((length rotations < 2 * edges_of s) ⊎ (length capacities < 2 * edges_of s))) ∷ [])

-- the answer, and every lent slice: as it came (tails, rotations, capacities), and as it is left (tails', rotations', capacities')
abbrev pub Reads : List ℕ → (tails rotations : List ℕ) (capacities : List ℤ) (tails' rotations' : List ℕ) (capacities' : List ℤ)
    → Result Counts Refusal → Type 0
Reads s tails rotations capacities tails' rotations' capacities' (Ok told) =
    NoneOf (read_checks s tails rotations capacities)
    × (told.nodes ≡ nodes_of s)
    × (told.edges ≡ edges_of s)
    × (told.outer ≡ outer_of s)
    × (tails' ≡ filled (2 * edges_of s) (tail_of s) tails)
    × (rotations' ≡ filled (2 * edges_of s) (rotation_of s) rotations)
    × (capacities' ≡ filled (2 * edges_of s) (capacity_of s) capacities)
Reads s tails rotations capacities tails' rotations' capacities' (Err r) =
    FirstOf (read_checks s tails rotations capacities) r.number r.place × (tails' ≡ tails) × (rotations' ≡ rotations) × (capacities' ≡ capacities)
