-- Write: slices as a drawing, edges written one after another, and the ways out of the operation as verdicts of its whole list of checks.
use mathlib.Core.Path.{◌≡◌, refl, sym, ◌∙◌, ap, ap₂, fun_ext}
use mathlib.Core.Logic.{◌⊎◌, inl, inr, ◌≢◌}
use mathlib.Core.List.{List, [], ◌∷◌, ◌++◌, append_assoc}
use Prim.Native.Nat.{ℕ, ◌+◌, ◌-◌, ◌%◌, ◌≤◌, ◌<◌}
use native.Mathlib.Omega.{arith}
use native.Mathlib.Decide.{dec_lt}
use native.Mathlib.Numerals.{add-one}
use lib.ListN.{length, drop, replicate, get_or-append, get_or-eq_default}
use lib.Seq.{get_or-append-add, get_or-drop}
use lib.IntN.{ℤ}
use Rattle.refusals.specs.Order.{Check, ◌when◌, in_turn, NoneOf, FirstOf}
use Rattle.refusals.proofs.Order.{none_append, append_none, in-turn-none, first_left, first_right, neither}
use Rattle.fields.specs.Fields.{put, le16}
use Rattle.fields.proofs.Laws.{put_after}
use Rattle.maps.specs.Check.{InRange}
use Rattle.arrays.specs.At.{at}
use Rattle.arrays.specs.Maps.{map_of}
use Rattle.rotations.specs.MapChecks.{map_checks}
use Rattle.maps.specs.Drawing.{Drawing}
use Rattle.records.specs.Check.{number_checks, edge_checks}
use Rattle.records.specs.Record.{record_length}
use Rattle.records.specs.Encode.{outer_head_bytes, encode_head, encode_edge, encode_edges, encode, encode_length}
use Rattle.records.proofs.Drawing.{counts_range, drawing_range}
use Rattle.records.proofs.Places.{head-length, front_length, edge_length}
use Rattle.sheets.specs.Write.{edges_in, slices_drawing, drawing_checks, write_checks}
use Rattle.arrays.proofs.FillLoops.{same_everywhere}
use Rattle.sheets.proofs.PlacedRecords.{head_kept}

-- ── arrays loaded from slices ──
-- a slice copied in front of zeros, as a function of the index
loaded : {front : List ℕ} (from : List ℕ) (k n : ℕ) → front ≡ from → (d : ℕ) → at (front ++ drop k (replicate n 0)) d ≡ at from d
loaded from k n same d = rw same (go (dec_lt d (length from)))
  where
    go : Dec (d < length from) → at (from ++ drop k (replicate n 0)) d ≡ at from d
    go (yes l) = get_or-append from (drop k (replicate n 0)) 0 d l
    go (no l) =
        let far : d ≡ length from + (d - length from) = omega (arith, l) in
        ap (at (from ++ drop k (replicate n 0))) far
        ∙ get_or-append-add from (drop k (replicate n 0)) (d - length from) 0
        ∙ get_or-drop k (replicate n 0) (d - length from) 0
        ∙ same_everywhere n 0 (k + (d - length from))
        ∙ sym (get_or-eq_default from 0 {n = d} (omega (arith, l)))

pub loaded_map : (nodes : ℕ) (tails rotations : List ℕ) {front front' : List ℕ} → front ≡ tails → front' ≡ rotations
    → map_of nodes (edges_in tails) (front ++ drop (length tails) (replicate 1024 0)) (front' ++ drop (length tails) (replicate 1024 0))
    ≡ map_of nodes (edges_in tails) tails rotations
loaded_map nodes tails rotations p q =
    λ i. record {
      nodes = nodes;
      edges = edges_in tails;
      tail = fun_ext (loaded tails (length tails) 1024 p) i;
      rotation = fun_ext (loaded rotations (length tails) 1024 q) i;
    }

-- ── the checks on slices ──
module _ (𝓓 : Drawing) where
  abbrev numbers : List Check
  numbers = number_checks 𝓓.map.nodes 𝓓.map.edges 𝓓.outer

  abbrev turns : List Check
  turns = in_turn 𝓓.map.edges (edge_checks 𝓓)

  pub turns_range : NoneOf turns → InRange 𝓓.map
  turns_range h = drawing_range 𝓓 (in-turn-none 𝓓.map.edges (edge_checks 𝓓) h)

  -- what the whole list leaves
  pub drawing_parts : NoneOf (drawing_checks 𝓓) → NoneOf numbers × ((e : ℕ) → e < 𝓓.map.edges → NoneOf (edge_checks 𝓓 e)) × NoneOf (map_checks 𝓓.map)
  unfolding drawing_checks
  drawing_parts h =
      let p = append_none numbers (turns ++ map_checks 𝓓.map) h in
      let q = append_none turns (map_checks 𝓓.map) p.1 in
      (p.0, in-turn-none 𝓓.map.edges (edge_checks 𝓓) q.0, q.1)

-- ── edges written one after another ──
-- the head and the records of n edges, in front of what the output held
abbrev pub Front : Drawing → ℕ → (old l : List ℕ) → Type 0
Front 𝓓 n old l = l ≡ (encode_head 𝓓 ++ encode_edges 𝓓 n) ++ drop (encode_length n) old

module _ (𝓓 : Drawing) (old : List ℕ) where
  pub write_start : (l : List ℕ) → l ≡ encode_head 𝓓 ++ drop (record_length 4) old → l ≡ (encode_head 𝓓 ++ encode_edges 𝓓 0) ++ drop (encode_length 0) old
  unfolding encode_edges
  write_start l e = e ∙ ap (λ x. x ++ drop (record_length 4) old) (sym (mathlib.Core.List.append-nil (encode_head 𝓓)))

  pub write_step : (e : ℕ) (l next : List ℕ) → l ≡ (encode_head 𝓓 ++ encode_edges 𝓓 e) ++ drop (encode_length e) old
      → next ≡ put (encode_length e) (encode_edge 𝓓 e) l
      → next ≡ (encode_head 𝓓 ++ encode_edges 𝓓 (e + 1)) ++ drop (encode_length (e + 1)) old
  unfolding encode_edges
  write_step e l next so_far h =
      h
      ∙ put_after (encode_length e) (encode_head 𝓓 ++ encode_edges 𝓓 e) (encode_edge 𝓓 e) old l so_far
      (omega (arith, front_length (encode_head 𝓓) 𝓓 e, head-length 𝓓))
      ∙ ap₂ (λ x k. x ++ drop k old)
      (append_assoc (encode_head 𝓓) (encode_edges 𝓓 e) (encode_edge 𝓓 e) ∙ ap (λ n. encode_head 𝓓 ++ encode_edges 𝓓 n) (sym (add-one e))) ends
    where
      ends : encode_length e + length (encode_edge 𝓓 e) ≡ encode_length (e + 1)
      ends = omega (arith, edge_length 𝓓 e)

  pub write_end : (e : ℕ) (l : List ℕ) → e ≡ 𝓓.map.edges → l ≡ (encode_head 𝓓 ++ encode_edges 𝓓 e) ++ drop (encode_length e) old
      → l ≡ encode 𝓓 ++ drop (encode_length 𝓓.map.edges) old
  unfolding encode
  write_end e l h so_far = so_far ∙ ap (λ n. (encode_head 𝓓 ++ encode_edges 𝓓 n) ++ drop (encode_length n) old) h

-- the head, at the front of what was there
pub head_written : (𝓓 : Drawing) (old l : List ℕ) (edges : ℕ) → edges ≡ 𝓓.map.edges → l ≡ put 0 (outer_head_bytes 𝓓.map.nodes edges 𝓓.outer) old
    → l ≡ encode_head 𝓓 ++ drop (record_length 4) old
unfolding put encode_head le16
head_written 𝓓 old l edges e h = h ∙ ap (λ m. outer_head_bytes 𝓓.map.nodes m 𝓓.outer ++ drop (record_length 4) old) e

-- ── the ways out ──
module _ (nodes outer : ℕ) (tails rotations : List ℕ) (capacities : List ℤ) (out : List ℕ) where
  abbrev drawn : Drawing
  drawn = slices_drawing nodes outer tails rotations capacities

  abbrev Uneven : Type 0
  Uneven = (length rotations ≢ length tails) ⊎ ((length capacities ≢ length tails) ⊎ (length tails % 2 ≢ 0))

  abbrev short : List Check
  short = (16 when length out < encode_length (edges_in tails)) ∷ []

  pub write_uneven : Uneven → FirstOf (write_checks nodes outer tails rotations capacities out) 16 0
  unfolding write_checks FirstOf
  write_uneven u = inl (u, refl, refl)

  module _ (r : length rotations ≡ length tails) (c : length capacities ≡ length tails) (t : length tails % 2 ≡ 0) where
    even : Uneven → ⊥
    even = neither (λ h. h r) (neither (λ h. h c) (λ h. h t))

    pub write_refused : (k p : ℕ) → FirstOf (drawing_checks drawn) k p → FirstOf (write_checks nodes outer tails rotations capacities out) k p
    unfolding write_checks FirstOf
    write_refused k p h = inr (even, first_left (drawing_checks drawn) short k p h)

    pub write_short : NoneOf (drawing_checks drawn) → length out < encode_length (edges_in tails)
        → FirstOf (write_checks nodes outer tails rotations capacities out) 16 0
    unfolding write_checks FirstOf
    write_short h l = inr (even, first_right (drawing_checks drawn) short 16 0 h (inl (l, refl, refl)))

    pub write_whole : NoneOf (drawing_checks drawn) → encode_length (edges_in tails) ≤ length out → NoneOf
        (write_checks nodes outer tails rotations capacities out)
    unfolding write_checks NoneOf
    write_whole h l = (even, none_append (drawing_checks drawn) short h ((λ s. omega arith), tt))

-- what the ways out of Write stand on: what a drawing that passed has, then the refusals in order
pub ruleset write_steps = (drawing_parts, counts_range, write_uneven, write_refused, write_short, write_whole, head_written, head_kept)
