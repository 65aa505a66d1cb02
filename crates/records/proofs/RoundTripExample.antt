-- A worked example, computed: a sheet of two nodes and one edge between them. It passes the checks, so the laws of reading and writing speak of something.
use mathlib.Core.Path.{◌≡◌, refl}
use mathlib.Core.List.{List, [], ◌∷◌}
use Prim.Native.Nat.{ℕ, zero, suc, ◌<◌}
use native.Mathlib.Omega.{arith}
use lib.ListN.{get_or, get_or-eq_default}
use lib.IntN.{pos, negsuc}
use Rattle.refusals.specs.Order.{NoneOf}
use Rattle.refusals.proofs.Order.{neither}
use Rattle.fields.specs.Fields.{le16, le_bits, le32}
use Rattle.maps.specs.Drawing.{Drawing}
use Rattle.records.specs.Check.{number_checks, field_checks, edge_checks}
use Rattle.records.specs.Sheet.{sheet_drawing, byte_checks}
use Rattle.records.specs.Encode.{encode_head, encode_edge, encode_edges, encode}
use Rattle.records.proofs.Encodable.{Encodable, encodable_of_checks}
use Rattle.records.proofs.Decode.{sheet_encode}
use Rattle.records.proofs.EncodeAccepted.{encode_accepted}

-- an edge from node 0 to node 1; each node has one dart, which is its own next; capacities 5 and -3
abbrev bridge : Drawing
bridge =
    record {
      map = record { nodes = 2; edges = 1; tail = λ d. get_or (0 ∷ 1 ∷ []) d 0; rotation = λ d. get_or (0 ∷ 1 ∷ []) d 0 };
      capacity = λ d. get_or (pos 5 ∷ negsuc 2 ∷ []) d (pos 0);
      outer = 1;
    }

-- the head, with dart 1 on the outer face, then the kind of an edge with its ends and turns, then its capacities
abbrev bridge_sheet : List ℕ
bridge_sheet = 4 ∷ 2 ∷ 0 ∷ 1 ∷ 0 ∷ 1 ∷ 0 ∷ 2 ∷ 0 ∷ 0 ∷ 1 ∷ 0 ∷ 0 ∷ 0 ∷ 1 ∷ 0 ∷ 5 ∷ 0 ∷ 0 ∷ 0 ∷ 253 ∷ 255 ∷ 255 ∷ 255 ∷ []

bridge_encoded : encode bridge ≡ bridge_sheet
unfolding encode encode_head encode_edges encode_edge le16 le32 le_bits
bridge_encoded = refl

bridge_numbers : NoneOf (number_checks 2 1 1)
unfolding number_checks NoneOf
bridge_numbers = (neither (neither (λ l. omega arith) (λ l. omega arith)) (neither (λ l. omega arith) (λ l. omega arith)), ((λ l. omega arith), tt))

bridge_edges : (e : ℕ) → e < 1 → NoneOf (edge_checks bridge e)
unfolding edge_checks field_checks NoneOf
bridge_edges zero h = (
  neither (λ l. omega arith) (λ l. omega arith),
  (
    neither (λ l. omega arith) (λ l. omega arith),
    (neither (neither (λ l. l.lt) (λ l. l.lt)) (neither (λ l. l.lt) (λ l. l.lt)), ((λ l. l.lt), tt)),
  ),
)
bridge_edges (suc e) h = absurd (omega arith)

bridge_encodable : Encodable bridge
bridge_encodable =
    encodable_of_checks bridge bridge_numbers bridge_edges
    (record {
      tail_zero = λ d h. get_or-eq_default (0 ∷ 1 ∷ []) 0 h;
      rotation_zero = λ d h. get_or-eq_default (0 ∷ 1 ∷ []) 0 h;
      capacity_zero = λ d h. get_or-eq_default (pos 5 ∷ negsuc 2 ∷ []) (pos 0) h;
    })

bridge_accepted : NoneOf (byte_checks bridge_sheet)
bridge_accepted = rw (← bridge_encoded) (encode_accepted bridge bridge_encodable bridge_numbers bridge_edges)

bridge_read : sheet_drawing bridge_sheet ≡ bridge
bridge_read = rw (← bridge_encoded) (sheet_encode bridge bridge_encodable)
