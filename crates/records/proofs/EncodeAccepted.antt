-- The bytes of a drawing, with a head of either kind, pass the checks on bytes where the drawing passes those on its numbers.
use mathlib.Core.Path.{◌≡◌, ap}
use mathlib.Core.List.{List, [], ◌∷◌, ◌++◌}
use Prim.Native.Nat.{ℕ, ◌<◌}
use native.Mathlib.Omega.{arith}
use lib.ListN.{length}
use Rattle.refusals.specs.Order.{Check, ◌when◌, NoneOf, in_turn}
use Rattle.refusals.proofs.Order.{none_append, none_in_turn}
use Rattle.maps.specs.Drawing.{Drawing}
use Rattle.records.specs.Record.{record_checks}
use Rattle.records.specs.Check.{number_checks, edge_checks}
use Rattle.records.specs.Sheet.{nodes_of, edges_of, outer_of, edge_at, sheet_drawing, head_record_checks, head_checks, edge_record_checks, byte_checks}
use Rattle.records.specs.Encode.{encode_head, plain_head, encode, encode_plain}
use Rattle.records.proofs.Places.{front_length}
use Rattle.records.proofs.Record.{record_passes}
use Rattle.records.proofs.Heads.{head_passes}
use Rattle.records.proofs.Encodable.{Encodable}
use Rattle.records.proofs.Decode.{headed, HeadOf, outer_head, plain-head, kind_of_edge, sheet_headed}

module _ (𝓓 : Drawing) (fit : Encodable 𝓓) (h : List ℕ) (head : HeadOf 𝓓 h) where
  abbrev bytes : List ℕ
  bytes = headed h 𝓓

  long : length bytes ≡ edge_at bytes 𝓓.map.edges
  long = omega (arith, front_length h 𝓓 𝓓.map.edges, head.size)

  edge_record : (e : ℕ) → e < 𝓓.map.edges → NoneOf (record_checks bytes 2 (edge_at bytes e))
  edge_record e l = record_passes bytes 2 (edge_at bytes e) (kind_of_edge 𝓓 h head e l) (omega (arith, long))

  head_accepted : NoneOf (number_checks 𝓓.map.nodes 𝓓.map.edges 𝓓.outer) → NoneOf (head_checks bytes)
  unfolding head_checks
  head_accepted g =
      none_append (head_record_checks bytes) (number_checks (nodes_of bytes) (edges_of bytes) (outer_of bytes))
      (head_passes bytes head.kind (omega (arith, long)))
      (rw (ap (λ 𝓔. number_checks 𝓔.map.nodes 𝓔.map.edges 𝓔.outer) (sheet_headed 𝓓 fit h head)) g)

  edge_accepted : ((e : ℕ) → e < 𝓓.map.edges → NoneOf (edge_checks 𝓓 e)) → (e : ℕ) → e < edges_of bytes → NoneOf (edge_record_checks bytes e)
  unfolding edge_record_checks
  edge_accepted g e l =
      let below : e < 𝓓.map.edges = omega (arith, head.edges) in
      none_append (record_checks bytes 2 (edge_at bytes e)) (edge_checks (sheet_drawing bytes) e)
      (edge_record e below) (rw (sheet_headed 𝓓 fit h head) (g e below))

  end_accepted : NoneOf ((8 when edge_at bytes (edges_of bytes) < length bytes) ∷ [])
  unfolding NoneOf
  end_accepted = ((λ l. omega (arith, long, head.edges)), tt)

  headed_accepted : NoneOf (number_checks 𝓓.map.nodes 𝓓.map.edges 𝓓.outer)
      → ((e : ℕ) → e < 𝓓.map.edges → NoneOf (edge_checks 𝓓 e)) → NoneOf (byte_checks bytes)
  unfolding byte_checks
  headed_accepted numbers edges =
      let end : List Check = (8 when edge_at bytes (edges_of bytes) < length bytes) ∷ [] in
      let turns = in_turn (edges_of bytes) (edge_record_checks bytes) in
      none_append (head_checks bytes) (turns ++ end) (head_accepted numbers)
      (none_append turns end (none_in_turn (edges_of bytes) (edge_record_checks bytes) (edge_accepted edges)) end_accepted)

module _ (𝓓 : Drawing) (fit : Encodable 𝓓) where
  pub encode_accepted : NoneOf (number_checks 𝓓.map.nodes 𝓓.map.edges 𝓓.outer)
      → ((e : ℕ) → e < 𝓓.map.edges → NoneOf (edge_checks 𝓓 e)) → NoneOf (byte_checks (encode 𝓓))
  unfolding encode
  encode_accepted = headed_accepted 𝓓 fit (encode_head 𝓓) (outer_head 𝓓 fit)

  pub plain_accepted : 𝓓.outer ≡ 0 → NoneOf (number_checks 𝓓.map.nodes 𝓓.map.edges 𝓓.outer)
      → ((e : ℕ) → e < 𝓓.map.edges → NoneOf (edge_checks 𝓓 e)) → NoneOf (byte_checks (encode_plain 𝓓))
  unfolding encode_plain
  plain_accepted zero = headed_accepted 𝓓 fit (plain_head 𝓓) (plain-head 𝓓 fit zero)
