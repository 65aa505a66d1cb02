-- The drawings of document 01, "Drawings with known answers", as sheets: one record a line, the head with both counts and then each channel with its tail,
-- head, two turns and two limits, as the paper lists them. And the question record of the program key.
use Rattle.std.specs.Prelude.{ℕ, List, ◌∷◌, ◌++◌, ℤ, pos, negsuc}
use Rattle.fields.specs.Fields.{le16, le32}
use Rattle.records.specs.Encode.{headBytes, edge_bytes}

-- "Drawing A: 2 nodes, 3 channels (tail, head, two turns, two limits): 0 1 2 5 5 0; 0 1 4 1 3 0; 0 1 0 3 4 0."
unfoldable pub A : List ℕ
A = headBytes 2 3
    ++ (edge_bytes 0 1 2 5 (pos 5) (pos 0)
    ++ (edge_bytes 0 1 4 1 (pos 3) (pos 0)
    ++ edge_bytes 0 1 0 3 (pos 4) (pos 0)))

-- "A with back limit −2 on channel 1"; negsuc 1 is −2
unfoldable pub least_two : List ℕ
least_two = headBytes 2 3
    ++ (edge_bytes 0 1 2 5 (pos 5) (pos 0)
    ++ (edge_bytes 0 1 4 1 (pos 3) (negsuc 1)
    ++ edge_bytes 0 1 0 3 (pos 4) (pos 0)))

-- "A with all limits 5"
unfoldable pub all_five : List ℕ
all_five = headBytes 2 3
    ++ (edge_bytes 0 1 2 5 (pos 5) (pos 5)
    ++ (edge_bytes 0 1 4 1 (pos 5) (pos 5)
    ++ edge_bytes 0 1 0 3 (pos 5) (pos 5)))

-- "A with turns 1→3→5→1 at node 1"
unfoldable pub twisted : List ℕ
twisted = headBytes 2 3
    ++ (edge_bytes 0 1 2 3 (pos 5) (pos 0)
    ++ (edge_bytes 0 1 4 5 (pos 3) (pos 0)
    ++ edge_bytes 0 1 0 1 (pos 4) (pos 0)))

-- "B, 3 nodes: 0 1 2 1 5 0; 0 2 0 3 3 −1"; negsuc 0 is −1
unfoldable pub B : List ℕ
B = headBytes 3 2
    ++ (edge_bytes 0 1 2 1 (pos 5) (pos 0)
    ++ edge_bytes 0 2 0 3 (pos 3) (negsuc 0))

-- "Kind 3, question: headgate, outfall (16 each), delivery (32)": the source, the sink and the value
unfoldable pub question : (source sink : ℕ) → ℤ → List ℕ
question source sink value = 3 ∷ (le16 source ++ (le16 sink ++ le32 value))
