-- The bytes of a drawing: what Write writes. One head, then the edges in order, nothing after (document 01, "Records of a sheet"). Document 02, Job 6: Write
-- takes the outer dart "and always writes kind 4"; "Practice sheets keep kind 1."
use Rattle.std.specs.Prelude.{ℕ, zero, suc, ◌+◌, ◌*◌, List, [], ◌∷◌, ◌++◌, ℤ}
use Rattle.fields.specs.Fields.{le16, le32}
use Rattle.maps.specs.Drawing.{Drawing}
use Rattle.records.specs.Record.{record_length}
use Rattle.records.specs.Sheet.{edge_after}

-- a head of kind 1, which has both counts, and one of kind 4, which names a dart on the outer face too
abbrev pub headBytes : (nodes edges : ℕ) → List ℕ
headBytes nodes edges = 1 ∷ (le16 nodes ++ le16 edges)

abbrev pub outer_head_bytes : (nodes edges outer : ℕ) → List ℕ
outer_head_bytes nodes edges outer = 4 ∷ (le16 nodes ++ (le16 edges ++ le16 outer))

-- an edge's record, with its fields in their order
abbrev pub edge_bytes : (tail head rotation backRotation : ℕ) (forward backward : ℤ) → List ℕ
edge_bytes tail head rotation backRotation forward backward =
    2 ∷ (le16 tail ++ (le16 head ++ (le16 rotation ++ (le16 backRotation ++ (le32 forward ++ le32 backward)))))

unfoldable pub encode_head : Drawing → List ℕ
encode_head 𝓓 = outer_head_bytes 𝓓.map.nodes 𝓓.map.edges 𝓓.outer

unfoldable pub plain_head : Drawing → List ℕ
plain_head 𝓓 = headBytes 𝓓.map.nodes 𝓓.map.edges

unfoldable pub encode_edge : Drawing → ℕ → List ℕ
encode_edge 𝓓 e =
    edge_bytes (𝓓.map.tail (2 * e)) (𝓓.map.tail (2 * e + 1)) (𝓓.map.rotation (2 * e))
    (𝓓.map.rotation (2 * e + 1)) (𝓓.capacity (2 * e)) (𝓓.capacity (2 * e + 1))

-- the first n edges
unfoldable pub encode_edges : Drawing → ℕ → List ℕ
encode_edges 𝓓 zero = []
encode_edges 𝓓 (suc n) = encode_edges 𝓓 n ++ encode_edge 𝓓 n

unfoldable pub encode : Drawing → List ℕ
encode 𝓓 = encode_head 𝓓 ++ encode_edges 𝓓 𝓓.map.edges

-- and how many bytes that are, for a drawing of so many edges
abbrev pub encode_length : (edges : ℕ) → ℕ
encode_length edges = edge_after (record_length 4) edges

-- the same with a head of kind 1, for a drawing whose outer dart is dart 0
unfoldable pub encode_plain : Drawing → List ℕ
encode_plain 𝓓 = plain_head 𝓓 ++ encode_edges 𝓓 𝓓.map.edges
