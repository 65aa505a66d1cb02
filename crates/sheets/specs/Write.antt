-- Write. Document 01, "Operations": "Write takes a node count and those three slices, fills bytes and gives their number. First 16: input slices of unequal or
-- odd length. Then 3, 4, 5, 6, 7, 9, 10, 11, 12 as for a sheet, 4 to 7 channel by channel; then 16 output shorter than the sheet." Document 02, Job 6: it
-- takes the outer dart too "and always writes kind 4"; 24 stands right after 3.
use Rattle.std.specs.Prelude.{ℕ, ◌/◌, ◌%◌, ◌<◌, ◌≡◌, ◌⊎◌, ◌≢◌, List, [], ◌∷◌, ◌++◌, length, drop, ℤ, Result, Ok, Err}
use Rattle.refusals.specs.Order.{Check, ◌when◌, in_turn, NoneOf, FirstOf}
use Rattle.refusals.specs.declared.Refusal.{Refusal}
use Rattle.arrays.specs.Maps.{map_of}
use Rattle.rotations.specs.MapChecks.{map_checks}
use Rattle.maps.specs.Drawing.{Drawing}
use Rattle.records.specs.Check.{number_checks, edge_checks}
use Rattle.records.specs.Encode.{encode, encode_length}
use Rattle.arrays.specs.At.{atℤ}

-- two elements to an edge
abbrev pub edges_in : List ℕ → ℕ
edges_in tails = length tails / 2

-- the drawing that the slices describe, with the given dart on the outer face
abbrev pub slices_drawing : (nodes outer : ℕ) → List ℕ → List ℕ → List ℤ → Drawing
slices_drawing nodes outer tails rotations capacities = record { map = map_of nodes (edges_in tails) tails rotations; capacity = atℤ capacities; outer = outer }

-- 3, 24 and 4 to 7, then 9 to 12, on a drawing
unfoldable pub drawing_checks : Drawing → List Check
drawing_checks 𝓓 = number_checks 𝓓.map.nodes 𝓓.map.edges 𝓓.outer ++ (in_turn 𝓓.map.edges (edge_checks 𝓓) ++ map_checks 𝓓.map)

-- the refusals, in order
unfoldable pub write_checks : (nodes outer : ℕ) → List ℕ → List ℕ → List ℤ → List ℕ → List Check
write_checks nodes outer tails rotations capacities out =
    (16 when (length rotations ≢ length tails) ⊎ ((length capacities ≢ length tails) ⊎ (length tails % 2 ≢ 0)))
    ∷ (drawing_checks (slices_drawing nodes outer tails rotations capacities)
    ++ ((16 when length out < encode_length (edges_in tails)) ∷ []))

-- the answer and the lent output; the input slices are only read
abbrev pub Writes : (nodes outer : ℕ) (tails rotations : List ℕ) (capacities : List ℤ) (out out' : List ℕ) → Result ℕ Refusal → Type 0
Writes nodes outer tails rotations capacities out out' (Ok n) =
    NoneOf (write_checks nodes outer tails rotations capacities out)
    × (n ≡ encode_length (edges_in tails))
    × (out' ≡ encode (slices_drawing nodes outer tails rotations capacities) ++ drop n out)
Writes nodes outer tails rotations capacities out out' (Err r) =
    FirstOf (write_checks nodes outer tails rotations capacities out) r.number r.place × (out' ≡ out)
