-- A practice sheet as it is written: the head of kind 1, the edges one behind another, and the ways out of the operation.
use mathlib.Core.Path.{◌≡◌, refl, sym, ◌∙◌, ap, ap₂}
use mathlib.Core.Logic.{◌⊎◌, inl, inr}
use mathlib.Core.Bool.{cond}
use mathlib.Core.List.{List, [], ◌∷◌, ◌++◌, append_assoc, append-nil}
use Prim.Native.Nat.{ℕ, ◌+◌, ◌*◌, ◌-◌, ◌/◌, ◌%◌, ◌≤◌, ◌<◌}
use native.Mathlib.Omega.{arith}
use native.Mathlib.Numerals.{add-one}
use lib.ListN.{length, drop}
use lib.IntN.{pos}
use Rattle.integers.proofs.Tests.{ltb_true, ltb_false}
use Rattle.refusals.specs.Order.{NoneOf, FirstOf}
use Rattle.fields.specs.Fields.{put, le16}
use Rattle.fields.proofs.Laws.{put_after, put_length}
use Rattle.maps.specs.Drawing.{Drawing}
use Rattle.records.specs.Record.{record_length}
use Rattle.records.specs.Sheet.{edge_after}
use Rattle.records.specs.Check.{Outside}
use Rattle.records.specs.Encode.{headBytes, edge_bytes, plain_head, encode_edge, encode_edges, encode_plain}
use Rattle.records.proofs.Drawing.{not_left, not_right}
use Rattle.records.proofs.Places.{front_length, edge_length}
use Rattle.sheets.proofs.Placing.{Placed, placed_first}
use Rattle.sheets.proofs.PlacedRecords.{placed_16}
use Rattle.practice.specs.Grid.{placed, grid_edges, beginning, ending, place_of, node_at, rotation_at, grid_tail, grid_rotation}
use Rattle.practice.specs.declared.Side.TheVariants.{North, East, South, West}
use Rattle.practice.specs.Seed.{forward_of}
use Rattle.practice.specs.Practice.{grid_drawing, practice_length, practice_checks}
use Rattle.practice.proofs.Coordinates.{place_even, place_odd}
use Rattle.practice.proofs.Accepted.{forward_is, backward_is}

-- ── the head: its kind, the nodes, the edges ──
pub head_placed : (old : List ℕ) {l₁ l₂ l₃ : List ℕ} (nodes edges : ℕ)
    → record_length 1 ≤ length old
    → l₁ ≡ put 0 (1 ∷ []) old
    → l₂ ≡ put 1 (le16 nodes) l₁
    → l₃ ≡ put 3 (le16 edges) l₂
    → l₃ ≡ put 0 (headBytes nodes edges) old
head_placed old {l₁} {l₂} {l₃} nodes edges room e₁ e₂ e₃ = whole.bytes ∙ ap (λ bs. put 0 bs old) (simp append_assoc)
  where
    whole : Placed old 0 (((1 ∷ []) ++ le16 nodes) ++ le16 edges) 5 l₃
    whole = placed_16 (placed_16 (placed_first e₁ refl) nodes e₂ (omega arith)) edges e₃ (omega arith)

-- it leaves the length as it was
pub head_kept : (nodes edges : ℕ) (old l : List ℕ) → l ≡ put 0 (headBytes nodes edges) old → record_length 1 ≤ length old → length l ≡ length old
unfolding le16
head_kept nodes edges old l h room = ap length h ∙ put_length 0 (headBytes nodes edges) old room

-- and stands at the front of what was there
pub head_written : (𝓓 : Drawing) (old l : List ℕ) (nodes edges : ℕ) → nodes ≡ 𝓓.map.nodes → edges ≡ 𝓓.map.edges → l ≡ put 0 (headBytes nodes edges) old
    → l ≡ plain_head 𝓓 ++ drop (record_length 1) old
unfolding put plain_head le16
head_written 𝓓 old l nodes edges n e h = h ∙ ap₂ (λ m k. headBytes m k ++ drop (record_length 1) old) n e

-- ── edges written one after another ──
-- the head and the records of n edges, in front of what the output held
abbrev pub Front : Drawing → ℕ → (old l : List ℕ) → Type 0
Front 𝓓 n old l = l ≡ (plain_head 𝓓 ++ encode_edges 𝓓 n) ++ drop (edge_after (record_length 1) n) old

module _ (𝓓 : Drawing) (old : List ℕ) where
  pub front_start : (l : List ℕ) → l ≡ plain_head 𝓓 ++ drop (record_length 1) old → Front 𝓓 0 old l
  unfolding encode_edges
  front_start l e = e ∙ ap (λ x. x ++ drop (record_length 1) old) (sym (append-nil (plain_head 𝓓)))

  pub front_step : (e : ℕ) (l next : List ℕ) → Front 𝓓 e old l → next ≡ put (edge_after (record_length 1) e) (encode_edge 𝓓 e) l → Front 𝓓 (e + 1) old next
  unfolding encode_edges plain_head le16
  front_step e l next so_far h =
      h
      ∙ put_after (edge_after (record_length 1) e) (plain_head 𝓓 ++ encode_edges 𝓓 e) (encode_edge 𝓓 e) old l so_far (front_length (plain_head 𝓓) 𝓓 e)
      ∙ ap₂ (λ x k. x ++ drop k old)
      (append_assoc (plain_head 𝓓) (encode_edges 𝓓 e) (encode_edge 𝓓 e) ∙ ap (λ n. plain_head 𝓓 ++ encode_edges 𝓓 n) (sym (add-one e))) ends
    where
      ends : edge_after (record_length 1) e + length (encode_edge 𝓓 e) ≡ edge_after (record_length 1) (e + 1)
      ends = omega (arith, edge_length 𝓓 e)

  pub front_end : (e : ℕ) (l : List ℕ) → e ≡ 𝓓.map.edges → Front 𝓓 e old l → l ≡ encode_plain 𝓓 ++ drop (edge_after (record_length 1) 𝓓.map.edges) old
  unfolding encode_plain
  front_end e l h so_far = so_far ∙ ap (λ n. (plain_head 𝓓 ++ encode_edges 𝓓 n) ++ drop (edge_after (record_length 1) n) old) h

-- ── where an edge begins and ends ──
module _ (R C e : ℕ) where
  pub begins_across : e < R * (C - 1) → beginning R C e ≡ placed (e / (C - 1)) (e % (C - 1)) East
  unfolding beginning
  begins_across l = rw (ltb_true e (R * (C - 1)) l)

  pub ends_across : e < R * (C - 1) → ending R C e ≡ placed (e / (C - 1)) (e % (C - 1) + 1) West
  unfolding ending
  ends_across l = rw (ltb_true e (R * (C - 1)) l)

  pub begins_down : R * (C - 1) ≤ e → beginning R C e ≡ placed ((e - R * (C - 1)) / C) ((e - R * (C - 1)) % C) South
  unfolding beginning
  begins_down l = rw (ltb_false e (R * (C - 1)) l)

  pub ends_down : R * (C - 1) ≤ e → ending R C e ≡ placed ((e - R * (C - 1)) / C + 1) ((e - R * (C - 1)) % C) North
  unfolding ending
  ends_down l = rw (ltb_false e (R * (C - 1)) l)

-- ── the record of an edge of the grid ──
module _ (R C seed e : ℕ) (l : e < grid_edges R C) where
  even_in : 2 * e < 2 * grid_edges R C
  even_in = omega arith

  odd_in : 2 * e + 1 < 2 * grid_edges R C
  odd_in = omega arith

  tail_even : grid_tail R C (2 * e) ≡ node_at R C (beginning R C e)
  unfolding grid_tail
  tail_even =
      ap (λ b. cond b (node_at R C (place_of R C (2 * e))) 0) (ltb_true (2 * e) (2 * grid_edges R C) even_in) ∙ ap (node_at R C) (place_even R C e)

  tail_odd : grid_tail R C (2 * e + 1) ≡ node_at R C (ending R C e)
  unfolding grid_tail
  tail_odd =
      ap (λ b. cond b (node_at R C (place_of R C (2 * e + 1))) 0) (ltb_true (2 * e + 1) (2 * grid_edges R C) odd_in) ∙ ap (node_at R C) (place_odd R C e)

  rotation_even : grid_rotation R C (2 * e) ≡ rotation_at R C (beginning R C e)
  unfolding grid_rotation
  rotation_even =
      ap (λ b. cond b (rotation_at R C (place_of R C (2 * e))) 0) (ltb_true (2 * e) (2 * grid_edges R C) even_in) ∙ ap (rotation_at R C) (place_even R C e)

  rotation_odd : grid_rotation R C (2 * e + 1) ≡ rotation_at R C (ending R C e)
  unfolding grid_rotation
  rotation_odd =
      ap (λ b. cond b (rotation_at R C (place_of R C (2 * e + 1))) 0) (ltb_true (2 * e + 1) (2 * grid_edges R C) odd_in) ∙ ap (rotation_at R C)
      (place_odd R C e)

  pub grid_record : encode_edge (grid_drawing R C seed) e
      ≡ edge_bytes (node_at R C (beginning R C e)) (node_at R C (ending R C e)) (rotation_at R C (beginning R C e)) (rotation_at R C (ending R C e))
      (pos (forward_of seed e)) (pos 0)
  unfolding encode_edge
  grid_record = λ i. edge_bytes (tail_even i) (tail_odd i) (rotation_even i) (rotation_odd i) (forward_is R C seed e l i) (backward_is R C seed e l i)

-- ── the ways out ──
module _ (rows columns seed : ℕ) (out : List ℕ) where
  abbrev Unmade : Type 0
  Unmade = Outside 2 16 rows ⊎ (Outside 2 16 columns ⊎ (2147483648 ≤ seed))

  pub practice_refused : Unmade → FirstOf (practice_checks rows columns seed out) 23 0
  unfolding FirstOf practice_checks
  practice_refused h = inl (h, refl, refl)

  pub practice_short : (Unmade → ⊥) → length out < practice_length rows columns → FirstOf (practice_checks rows columns seed out) 16 0
  unfolding FirstOf practice_checks
  practice_short h l = inr (h, inl (l, refl, refl))

  pub practice_passes : (Unmade → ⊥) → practice_length rows columns ≤ length out → NoneOf (practice_checks rows columns seed out)
  unfolding NoneOf practice_checks
  practice_passes h room = (h, ((λ l. omega arith), tt))

  -- what 23 leaves
  pub made_sizes : (Unmade → ⊥) → (2 ≤ rows) × (rows ≤ 16) × (2 ≤ columns) × (columns ≤ 16) × (seed < 2147483648)
  made_sizes h =
      let r = not_left h in
      let c = not_left (not_right h) in
      let s = not_right (not_right h) in
      (omega (arith, not_left r), omega (arith, not_right r), omega (arith, not_left c), omega (arith, not_right c), omega arith)

-- what the ways out stand on: the refusals in order, what 23 leaves, and the head
pub ruleset practice_steps = (practice_refused, practice_short, made_sizes, head_kept)
