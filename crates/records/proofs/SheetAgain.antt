-- A sheet with a head of kind 4 that the checks on bytes accept is the bytes that Write writes of the drawing read from it. What Write writes of a sheet of
-- kind 1 has the kind 4, the same counts, dart 0, and the same edges (document 02, Job 6).
use mathlib.Core.Path.{◌≡◌, refl, sym, ◌∙◌, ap, ap₂}
use mathlib.Core.List.{List, ◌∷◌, ◌++◌}
use Prim.Native.Nat.{ℕ, zero, suc, ◌+◌, ◌*◌, ◌≤◌, ◌<◌}
use native.Mathlib.Omega.{arith}
use native.Mathlib.Numerals.{add-one}
use lib.ListN.{length, get_or, take, drop, take-append-drop, length-drop}
use lib.Seq.{take_all, drop-cons, take-add, drop-drop}
use Rattle.refusals.specs.Order.{NoneOf}
use Rattle.fields.specs.Fields.{u16_at, i32_at, le16, le32}
use Rattle.fields.proofs.Laws.{u16_again, i32_again}
use Rattle.records.specs.Sheet.{kind_of, headLength, nodes_of, edges_of, edge_at, sheet_drawing, byte_checks}
use Rattle.records.specs.Encode.{encode_head, encode_edge, encode_edges, encode}
use Rattle.records.proofs.Fields.{tail_even, tail_odd, rotation_even, rotation_odd, capacity_even, capacity_odd}
use Rattle.records.proofs.Bytes.{bytes_length, bytes_kinds}
use Rattle.records.proofs.Heads.{head_long, kind_one_outer, kind_four_outer}

-- ── the first field of what stands at `at`, and the m bytes after it ──
module _ (s : List ℕ) (bytes : (i : ℕ) → get_or s i 0 < 256) (at next m : ℕ) where
  byte_then : (kind : ℕ) → get_or s at 0 ≡ kind → at + 1 ≡ next → at < length s → take (suc m) (drop at s) ≡ kind ∷ take m (drop next s)
  byte_then kind k p h = rw (← k, ← p, add-one, drop-cons s at 0 h)

  u16_then : at + 2 ≡ next → at + 2 ≤ length s → take (2 + m) (drop at s) ≡ le16 (u16_at s at) ++ take m (drop next s)
  u16_then p h = take-add 2 m (drop at s) ∙ ap₂ (λ x y. x ++ take m y) (u16_again s at bytes h) (drop-drop 2 at s ∙ ap (λ k. drop k s) p)

  i32_then : at + 4 ≡ next → at + 4 ≤ length s → take (4 + m) (drop at s) ≡ le32 (i32_at s at) ++ take m (drop next s)
  i32_then p h = take-add 4 m (drop at s) ∙ ap₂ (λ x y. x ++ take m y) (i32_again s at bytes h) (drop-drop 4 at s ∙ ap (λ k. drop k s) p)

-- ── record by record ──
module _ (s : List ℕ) (bytes : (i : ℕ) → get_or s i 0 < 256) (passed : NoneOf (byte_checks s)) where
  size : length s ≡ edge_at s (edges_of s)
  size = bytes_length s passed

  module _ (e : ℕ) (h : e < edges_of s) where
    room : edge_at s e + 17 ≤ length s
    room = omega (arith, size)

    edge_again : encode_edge (sheet_drawing s) e ≡ take 17 (drop (edge_at s e) s)
    unfolding encode_edge
    edge_again =
        let at = edge_at s e in
        rw (tail_even s e h, tail_odd s e h, rotation_even s e h, rotation_odd s e h, capacity_even s e h, capacity_odd s e h)
        (sym (
        byte_then s bytes at (at + 1) 16 2 ((bytes_kinds s passed).1 e h) refl (omega (arith, room))
        ∙ ap (λ l. 2 ∷ l) (u16_then s bytes (at + 1) (at + 3) 14 (omega arith) (omega (arith, room))
        ∙ ap (λ l. le16 (u16_at s (at + 1)) ++ l) (u16_then s bytes (at + 3) (at + 5) 12 (omega arith) (omega (arith, room))
        ∙ ap (λ l. le16 (u16_at s (at + 3)) ++ l) (u16_then s bytes (at + 5) (at + 7) 10 (omega arith) (omega (arith, room))
        ∙ ap (λ l. le16 (u16_at s (at + 5)) ++ l) (u16_then s bytes (at + 7) (at + 9) 8 (omega arith) (omega (arith, room))
        ∙ ap (λ l. le16 (u16_at s (at + 7)) ++ l) (i32_then s bytes (at + 9) (at + 13) 4 (omega arith) (omega (arith, room))
        ∙ ap (λ l. le32 (i32_at s (at + 9)) ++ l) (i32_again s (at + 13) bytes (omega (arith, room))))))))
        ))

  edges_again : (n : ℕ) → n ≤ edges_of s → encode_edges (sheet_drawing s) n ≡ take (17 * n) (drop (headLength s) s)
  unfolding encode_edges
  edges_again zero h = refl
  edges_again (suc n) h =
      let next : 17 * n + 17 ≡ 17 * suc n = omega arith in
      ap₂ (λ x y. x ++ y) (edges_again n (omega arith)) (edge_again n h ∙ ap (take 17) (sym (drop-drop (17 * n) (headLength s) s)))
      ∙ sym (take-add (17 * n) 17 (drop (headLength s) s))
      ∙ ap (λ k. take k (drop (headLength s) s)) next

  all_again : encode_edges (sheet_drawing s) (edges_of s) ≡ drop (headLength s) s
  all_again = edges_again (edges_of s) (omega arith) ∙ take_all (17 * edges_of s) (drop (headLength s) s) (omega (arith, size, length-drop (headLength s) s))

  -- both counts, which stand behind the kind
  counts_again : 5 ≤ length s → le16 (nodes_of s) ++ le16 (edges_of s) ≡ take 4 (drop 1 s)
  counts_again h = sym (u16_then s bytes 1 3 2 (omega arith) (omega arith) ∙ ap (λ l. le16 (nodes_of s) ++ l) (u16_again s 3 bytes (omega arith)))

  module _ (four : kind_of s ≡ 4) where
    seven : headLength s ≡ 7
    seven = head_long s 4 four

    outer_head_again : encode_head (sheet_drawing s) ≡ take 7 s
    unfolding encode_head
    outer_head_again =
        rw (kind_four_outer s four)
        (sym (
        byte_then s bytes 0 1 6 4 four (omega arith) (omega (arith, size, seven))
        ∙ ap (λ l. 4 ∷ l) (u16_then s bytes 1 3 4 (omega arith) (omega (arith, size, seven))
        ∙ ap (λ l. le16 (nodes_of s) ++ l) (u16_then s bytes 3 5 2 (omega arith) (omega (arith, size, seven))
        ∙ ap (λ l. le16 (edges_of s) ++ l) (u16_again s 5 bytes (omega (arith, size, seven)))))
        ))

    pub encode_sheet : encode (sheet_drawing s) ≡ s
    unfolding encode
    encode_sheet = ap₂ (λ x y. x ++ y) outer_head_again (all_again ∙ ap (λ n. drop n s) seven) ∙ take-append-drop 7 s

  module _ (one : kind_of s ≡ 1) where
    five : headLength s ≡ 5
    five = head_long s 1 one

    counts_here : le16 (nodes_of s) ++ le16 (edges_of s) ≡ take 4 (drop 1 s)
    counts_here = counts_again (omega (arith, size, five))

    edges_here : encode_edges (sheet_drawing s) (edges_of s) ≡ drop 5 s
    edges_here = all_again ∙ ap (λ n. drop n s) five

    pub kind_one_encoded : encode (sheet_drawing s) ≡ 4 ∷ (take 4 (drop 1 s) ++ (0 ∷ 0 ∷ drop 5 s))
    unfolding encode encode_head le16
    kind_one_encoded =
        ap (λ o. 4 ∷ (le16 (nodes_of s) ++ (le16 (edges_of s) ++ (le16 o ++ encode_edges (sheet_drawing s) (edges_of s))))) (kind_one_outer s one)
        ∙ ap₂ (λ x y. 4 ∷ (x ++ (0 ∷ 0 ∷ y))) counts_here edges_here
