-- Practice sheets. Document 02, Job 5: a grid with limits from a seed; "its back limit is 0"; "23 stands first, for R or C outside 2 to 16 or a seed too large,
-- and 16 for a short output follows." Job 6: "Practice sheets keep kind 1."
use Rattle.std.specs.Prelude.{◌≡◌, ◌⊎◌, cond, ◌&&◌, List, [], ◌∷◌, ◌++◌, ℕ, ◌*◌, ◌/◌, ◌%◌, ◌≤◌, ◌<◌, eqb, ltb, length, drop, ℤ, pos, Result, Ok, Err}
use Rattle.refusals.specs.Order.{Check, ◌when◌, NoneOf, FirstOf}
use Rattle.refusals.specs.declared.Refusal.{Refusal}
use Rattle.maps.specs.Drawing.{Drawing}
use Rattle.records.specs.Record.{record_length}
use Rattle.records.specs.Sheet.{edge_after}
use Rattle.records.specs.Check.{Outside}
use Rattle.records.specs.Encode.{encode_plain}
use Rattle.practice.specs.Grid.{grid_edges, grid_map}
use Rattle.practice.specs.Seed.{forward_of}

-- dart 2e has the capacity that the seed gives edge e; every other dart has 0, and so has what is past the darts
unfoldable pub grid_capacity : (rows columns seed : ℕ) → ℕ → ℤ
grid_capacity rows columns seed d = cond (ltb d (2 * grid_edges rows columns) && eqb (d % 2) 0) (pos (forward_of seed (d / 2))) (pos 0)

-- a head of kind 1 names no dart on the outer face: it is dart 0
abbrev pub grid_drawing : (rows columns seed : ℕ) → Drawing
grid_drawing rows columns seed = record { map = grid_map rows columns; capacity = grid_capacity rows columns seed; outer = 0 }

-- how many bytes: a head of kind 1, then the edges
abbrev pub practice_length : (rows columns : ℕ) → ℕ
practice_length rows columns = edge_after (record_length 1) (grid_edges rows columns)

-- the refusals, in order
unfoldable pub practice_checks : (rows columns seed : ℕ) → List ℕ → List Check
practice_checks rows columns seed out =
    (23 when Outside 2 16 rows ⊎ (Outside 2 16 columns ⊎ (2147483648 ≤ seed)))
    ∷ (16 when length out < practice_length rows columns)
    ∷ []

-- the answer and the lent output: the bytes of the grid's drawing in front, the rest as it was
abbrev pub Practises : (rows columns seed : ℕ) (out out' : List ℕ) → Result ℕ Refusal → Type 0
Practises rows columns seed out out' (Ok n) =
    NoneOf (practice_checks rows columns seed out)
    × (n ≡ practice_length rows columns)
    × (out' ≡ encode_plain (grid_drawing rows columns seed) ++ drop n out)
Practises rows columns seed out out' (Err r) = FirstOf (practice_checks rows columns seed out) r.number r.place × (out' ≡ out)
