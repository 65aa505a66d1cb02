-- A sheet's bytes, and the checks 1 to 8 on them. Document 01, "Records of a sheet": "Kind 1, head: node count, channel count (16 each). Kind 2, channel:
-- tail, head, turn of dart 2e, turn of dart 2e+1 (16 each), forward limit, back limit (32 each)." "A sheet is one head and then its channels in order, nothing
-- after." Document 02, Job 6: "A head of kind 4 has a body of 6 bytes: the two counts, then a dart of 16 bits on the outer face."
use Rattle.std.specs.Prelude.{ℕ, ◌+◌, ◌*◌, ◌/◌, ◌%◌, ◌≤◌, ◌<◌, ◌≢◌, cond, List, [], ◌∷◌, ◌++◌, ltb, eqb, length, get_or, ℤ, pos}
use Rattle.refusals.specs.Order.{Check, ◌when◌, in_turn}
use Rattle.fields.specs.Fields.{u16_at, i32_at}
use Rattle.maps.specs.Map.{Map}
use Rattle.maps.specs.Drawing.{Drawing}
use Rattle.records.specs.Record.{record_length, record_checks}
use Rattle.records.specs.Check.{number_checks, edge_checks}

-- the kind of the head, which is 1 or 4, and how long the head is: its record's length, by the table
abbrev pub kind_of : List ℕ → ℕ
kind_of s = get_or s 0 0

unfoldable pub headLength : List ℕ → ℕ
headLength s = record_length (kind_of s)

-- the counts stand at the same places in both
abbrev pub nodes_of : List ℕ → ℕ
nodes_of s = u16_at s 1

abbrev pub edges_of : List ℕ → ℕ
edges_of s = u16_at s 3

-- where the record of edge e begins, after a head of so many bytes and the records of the edges before it; after the last one the sheet ends
abbrev pub edge_after : (head : ℕ) → ℕ → ℕ
edge_after head e = head + record_length 2 * e

abbrev pub edge_at : List ℕ → ℕ → ℕ
edge_at s e = edge_after (headLength s) e

-- a field of dart d = 2e or 2e + 1, which stands `first` bytes into the record of its edge for dart 2e, and right after for the other
abbrev pub field16 : List ℕ → (first : ℕ) → ℕ → ℕ
field16 s first d = u16_at s (edge_at s (d / 2) + first + 2 * (d % 2))

abbrev pub field32 : List ℕ → (first : ℕ) → ℕ → ℤ
field32 s first d = i32_at s (edge_at s (d / 2) + first + 4 * (d % 2))

-- the fields of dart d, and zero where there is no such dart
unfoldable pub tail_of : List ℕ → ℕ → ℕ
tail_of s d = cond (ltb d (2 * edges_of s)) (field16 s 1 d) 0

unfoldable pub rotation_of : List ℕ → ℕ → ℕ
rotation_of s d = cond (ltb d (2 * edges_of s)) (field16 s 5 d) 0

unfoldable pub capacity_of : List ℕ → ℕ → ℤ
capacity_of s d = cond (ltb d (2 * edges_of s)) (field32 s 9 d) (pos 0)

abbrev pub sheet_map : List ℕ → Map
sheet_map s = record { nodes = nodes_of s; edges = edges_of s; tail = tail_of s; rotation = rotation_of s }

-- a dart on the outer face: the one that a head of kind 4 names after its counts. "A kind 1 head is still read, as outer dart 0", which lies on face 0
unfoldable pub outer_of : List ℕ → ℕ
outer_of s = cond (eqb (kind_of s) 4) (u16_at s 5) 0

abbrev pub sheet_drawing : List ℕ → Drawing
sheet_drawing s = record { map = sheet_map s; capacity = capacity_of s; outer = outer_of s }

-- "Head: 1 no first byte; 2 kind not 1; 1 body cut short; 3 a count out of range." Job 6: "For a head, refusal 2 now means a kind that is neither 1 nor 4; 24,
-- right after 3, means that the outer dart is no dart."
unfoldable pub head_record_checks : List ℕ → List Check
head_record_checks s = (1 when length s ≤ 0) ∷ (2 when (kind_of s ≢ 1) × (kind_of s ≢ 4)) ∷ (1 when length s < headLength s) ∷ []

unfoldable pub head_checks : List ℕ → List Check
head_checks s = head_record_checks s ++ number_checks (nodes_of s) (edges_of s) (outer_of s)

-- "For each channel in turn: 1 no byte; 2 kind not 2; 1 body cut short; 4 ..; 5 ..; 6 ..; 7 .."
unfoldable pub edge_record_checks : List ℕ → ℕ → List Check
edge_record_checks s e = record_checks s 2 (edge_at s e) ++ edge_checks (sheet_drawing s) e

-- "Then 8 bytes left over."
unfoldable pub byte_checks : List ℕ → List Check
byte_checks s = head_checks s ++ (in_turn (edges_of s) (edge_record_checks s) ++ ((8 when edge_at s (edges_of s) < length s) ∷ []))
