-- What bytes that pass the checks 1 to 8 are: one head and its edges, nothing after, and a drawing in range.
use Prim.Native.Nat.{ℕ, ◌+◌, ◌*◌, ◌-◌, ◌≤◌, ◌<◌}
use mathlib.Core.Path.{◌≡◌}
use mathlib.Core.Logic.{◌⊎◌}
use mathlib.Core.List.{List, [], ◌∷◌, ◌++◌}
use native.Mathlib.Omega.{arith}
use lib.ListN.{length, get_or}
use lib.IntN.{pos, ◌+ℤ◌}
use lib.Signed.{◌≤ℤ◌}
use Rattle.refusals.specs.Order.{Check, ◌when◌, NoneOf, FirstOf, in_turn}
use Rattle.refusals.proofs.Order.{none_append, append_none, none_in_turn, in-turn-none, first_left, first_right, first_in_turn}
use Rattle.maps.specs.Dart.{rev}
use Rattle.maps.specs.Check.{InRange}
use Rattle.records.specs.Record.{record_checks}
use Rattle.records.specs.Check.{CapacityOutside, number_checks, edge_checks}
use Rattle.records.specs.Sheet.{kind_of, headLength, nodes_of, edges_of, outer_of, edge_at, capacity_of, sheet_map, sheet_drawing}
use Rattle.records.specs.Sheet.{head_record_checks, head_checks, edge_record_checks, byte_checks}
use Rattle.records.proofs.Record.{record_kind, edge_body}
use Rattle.records.proofs.Heads.{head_kind, head_lengths, head_body}
use Rattle.records.proofs.Drawing.{counts_range, outer_range, drawing_range, drawing_capacities, drawing_pairs}

-- ── the head ──
module _ (s : List ℕ) (passed : NoneOf (head_checks s)) where
  head_record : NoneOf (head_record_checks s)
  unfolding head_checks
  head_record = (append_none (head_record_checks s) (number_checks (nodes_of s) (edges_of s) (outer_of s)) passed).0

  pub head_kinds : (kind_of s ≡ 1) ⊎ (kind_of s ≡ 4)
  head_kinds = head_kind s head_record

  pub head_whole : (headLength s ≤ length s) × (5 ≤ headLength s) × (headLength s ≤ 7)
  head_whole = let l = head_lengths s head_kinds in (head_body s head_record, l.0, l.1)

  pub head_range : NoneOf (number_checks (nodes_of s) (edges_of s) (outer_of s))
  unfolding head_checks
  head_range = (append_none (head_record_checks s) (number_checks (nodes_of s) (edges_of s) (outer_of s)) passed).1

  pub head_counts : (2 ≤ nodes_of s) × (nodes_of s ≤ 513) × (1 ≤ edges_of s) × (edges_of s ≤ 512)
  head_counts = counts_range (nodes_of s) (edges_of s) (outer_of s) head_range

  head_outer : outer_of s < 2 * edges_of s
  head_outer = outer_range (nodes_of s) (edges_of s) (outer_of s) head_range

-- ── an edge ──
module _ (s : List ℕ) (e : ℕ) (passed : NoneOf (edge_record_checks s e)) where
  edge_record : NoneOf (record_checks s 2 (edge_at s e))
  unfolding edge_record_checks
  edge_record = (append_none (record_checks s 2 (edge_at s e)) (edge_checks (sheet_drawing s) e) passed).0

  edge_rest : NoneOf (edge_checks (sheet_drawing s) e)
  unfolding edge_record_checks
  edge_rest = (append_none (record_checks s 2 (edge_at s e)) (edge_checks (sheet_drawing s) e) passed).1

  pub edge_whole : edge_at s e + 17 ≤ length s
  edge_whole = edge_body s e edge_record

-- ── all: the phases of the checks ──
abbrev leftOver : List ℕ → List Check
leftOver s = (8 when edge_at s (edges_of s) < length s) ∷ []

abbrev edges : List ℕ → List Check
edges s = in_turn (edges_of s) (edge_record_checks s)

module _ (s : List ℕ) (passed : NoneOf (byte_checks s)) where
  pub bytes_head : NoneOf (head_checks s)
  unfolding byte_checks
  bytes_head = (append_none (head_checks s) (edges s ++ leftOver s) passed).0

  after_head : NoneOf (edges s ++ leftOver s)
  unfolding byte_checks
  after_head = (append_none (head_checks s) (edges s ++ leftOver s) passed).1

  pub bytes_edge : (e : ℕ) → e < edges_of s → NoneOf (edge_record_checks s e)
  bytes_edge = in-turn-none (edges_of s) (edge_record_checks s) (append_none (edges s) (leftOver s) after_head).0

  nothing_after : length s ≤ edge_at s (edges_of s)
  unfolding NoneOf
  nothing_after = omega (arith, (append_none (edges s) (leftOver s) after_head).1.0)

  pub bytes_counts : (2 ≤ nodes_of s) × (nodes_of s ≤ 513) × (1 ≤ edges_of s) × (edges_of s ≤ 512)
  bytes_counts = head_counts s bytes_head

  pub bytes_outer : outer_of s < 2 * edges_of s
  bytes_outer = head_outer s bytes_head

  pub bytes_length : length s ≡ edge_at s (edges_of s)
  bytes_length =
      let some = bytes_counts.2 in
      let last = edges_of s - 1 in
      omega (arith, nothing_after, edge_whole s last (bytes_edge last (omega arith)))

  pub bytes_kinds : ((kind_of s ≡ 1) ⊎ (kind_of s ≡ 4)) × ((e : ℕ) → e < edges_of s → get_or s (edge_at s e) 0 ≡ 2)
  bytes_kinds = (head_kinds s bytes_head, λ e l. record_kind s 2 (edge_at s e) (edge_record s e (bytes_edge e l)))

  pub bytes_drawn : (e : ℕ) → e < edges_of s → NoneOf (edge_checks (sheet_drawing s) e)
  bytes_drawn e l = edge_rest s e (bytes_edge e l)

  pub bytes_range : InRange (sheet_map s)
  bytes_range = drawing_range (sheet_drawing s) bytes_drawn

  pub bytes_capacities : (d : ℕ) → d < 2 * edges_of s → CapacityOutside (capacity_of s d) → ⊥
  bytes_capacities = drawing_capacities (sheet_drawing s) bytes_drawn

  pub bytes_pairs : (d : ℕ) → d < 2 * edges_of s → pos 0 ≤ℤ (capacity_of s d +ℤ capacity_of s (rev d))
  bytes_pairs = drawing_pairs (sheet_drawing s) bytes_drawn

-- ── a verdict of a phase is the verdict of all ──
module _ (s : List ℕ) where
  pub refused_head : (k p : ℕ) → FirstOf (head_checks s) k p → FirstOf (byte_checks s) k p
  unfolding byte_checks
  refused_head k p h = first_left (head_checks s) (edges s ++ leftOver s) k p h

  module _ (head : NoneOf (head_checks s)) where
    pub refused_edge : (e k p : ℕ) → e < edges_of s → ((i : ℕ) → i < e → NoneOf (edge_record_checks s i))
        → FirstOf (edge_record_checks s e) k p → FirstOf (byte_checks s) k p
    unfolding byte_checks
    refused_edge e k p l h g =
        first_right (head_checks s) (edges s ++ leftOver s) k p head
        (first_left (edges s) (leftOver s) k p (first_in_turn (edges_of s) (edge_record_checks s) e k p l h g))

    pub refused_left : ((i : ℕ) → i < edges_of s → NoneOf (edge_record_checks s i)) → FirstOf (leftOver s) 8 0 → FirstOf (byte_checks s) 8 0
    unfolding byte_checks
    refused_left h g =
        first_right (head_checks s) (edges s ++ leftOver s) 8 0 head
        (first_right (edges s) (leftOver s) 8 0 (none_in_turn (edges_of s) (edge_record_checks s) h) g)

    pub all_passed : ((i : ℕ) → i < edges_of s → NoneOf (edge_record_checks s i)) → NoneOf (leftOver s) → NoneOf (byte_checks s)
    unfolding byte_checks
    all_passed h g =
        none_append (head_checks s) (edges s ++ leftOver s) head (none_append (edges s) (leftOver s) (none_in_turn (edges_of s) (edge_record_checks s) h) g)
