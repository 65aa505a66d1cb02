-- Bytes that are alike as far as they matter: the first n the same, and more after them on both sides. The checks that look no further agree one by one, and a
-- sheet longer than any that is accepted is refused by one of those.
use Prim.Native.Nat.{ℕ, ◌+◌, ◌*◌, ◌≤◌, ◌<◌}
use mathlib.Core.Path.{◌≡◌, refl, sym, ◌∙◌, ap, ap₂, subst}
use mathlib.Core.Logic.{◌⊎◌, inl, inr}
use mathlib.Core.Bool.{cond}
use mathlib.Core.List.{List, [], ◌∷◌, ◌++◌}
use native.Mathlib.Omega.{arith}
use native.Mathlib.Decide.{dec_le, ℕ_discrete}
use lib.Dec.{eqb}
use lib.ListN.{length, get_or, take, drop, length-drop}
use lib.Seq.{length-take-le, get_or-take, get_or-drop}
use mir.Syntax.{w32}
use mir.Val.{to_z}
use Rattle.refusals.specs.Order.{Check, ◌when◌, NoneOf, FirstOf, in_turn}
use Rattle.refusals.proofs.Order.{append_first, first_left, first_right}
use Rattle.refusals.proofs.Same.{Same, same_refl, same_append, same_in_turn, none_same, first_same}
use Rattle.fields.specs.Fields.{u16_at, u32_at, i32_at}
use Rattle.rotations.specs.MapChecks.{map_checks}
use Rattle.records.specs.Record.{record_length, body_length, record_checks}
use Rattle.records.specs.Check.{number_checks, edge_checks}
use Rattle.records.specs.Sheet.{kind_of, headLength, nodes_of, edges_of, outer_of, edge_after, edge_at, sheet_map, sheet_drawing}
use Rattle.records.specs.Sheet.{head_record_checks, head_checks, edge_record_checks, byte_checks}
use Rattle.records.proofs.Heads.{head_at_most, head_lengths}
use Rattle.records.proofs.Bytes.{head_kinds, head_whole, head_counts, bytes_head, bytes_counts, bytes_length}
use Rattle.records.proofs.Fields.{edge_fields}
use Rattle.sheets.specs.Open.{sheet_checks}

pub record Alike (n : ℕ) (s s' : List ℕ) : Type 0 where
  pub longer : n < length s
  pub longer' : n < length s'
  pub byte : (i : ℕ) → i < n → get_or s i 0 ≡ get_or s' i 0

-- ── made ──
pub alike_sym : {n : ℕ} {s s' : List ℕ} → Alike n s s' → Alike n s' s
alike_sym h = record { longer = h.longer'; longer' = h.longer; byte = λ i l. sym (h.byte i l) }

-- what is cut off lies beyond
pub alike_take : (n m : ℕ) (s : List ℕ) → n < m → m ≤ length s → Alike n s (take m s)
alike_take n m s l g =
    record { longer = omega arith; longer' = omega (arith, length-take-le m s g); byte = λ i h. sym (get_or-take m s i 0 (omega arith)) }

pub alike_drop : (k n : ℕ) (s s' : List ℕ) → Alike (k + n) s s' → Alike n (drop k s) (drop k s')
alike_drop k n s s' h =
    record {
      longer = omega (arith, length-drop k s, h.longer);
      longer' = omega (arith, length-drop k s', h.longer');
      byte = λ i l. get_or-drop k s i 0 ∙ h.byte (k + i) (omega arith) ∙ sym (get_or-drop k s' i 0);
    }

-- ── fields within the first n bytes ──
module _ (n : ℕ) (s s' : List ℕ) (h : Alike n s s') where
  u16_alike : (at : ℕ) → at + 2 ≤ n → u16_at s at ≡ u16_at s' at
  unfolding u16_at
  u16_alike at l = ap₂ (λ x y. x + y * 256) (h.byte at (omega arith)) (h.byte (at + 1) (omega arith))

  bits_alike : (at : ℕ) → at + 4 ≤ n → u32_at s at ≡ u32_at s' at
  unfolding u32_at
  bits_alike at l = rw (h.byte at (omega arith), h.byte (at + 1) (omega arith), h.byte (at + 2) (omega arith), h.byte (at + 3) (omega arith))

  i32_alike : (at : ℕ) → at + 4 ≤ n → i32_at s at ≡ i32_at s' at
  unfolding i32_at
  i32_alike at l = ap (to_z w32) (bits_alike at l)

-- ── checks that agree ──
same_if : (cs ds : List Check) → cs ≡ ds → Same cs ds
same_if cs ds e = subst (Same cs) e (same_refl cs)

module _ (n : ℕ) (s s' : List ℕ) (h : Alike n s s') where
  -- a record within the first n bytes is cut short on neither side
  pub record_alike : (kind at : ℕ) → at + 1 + body_length kind ≤ n → Same (record_checks s kind at) (record_checks s' kind at)
  unfolding Same record_checks
  record_alike kind at l =
      let more = h.longer in
      let more' = h.longer' in
      let same = h.byte at (omega arith) in (
        refl,
        refl,
        (λ g. omega arith),
        (λ g. omega arith),
        (
          refl,
          refl,
          (λ g e. g (same ∙ e)),
          (λ g e. g (sym same ∙ e)),
          (refl, refl, (λ g. omega arith), (λ g. omega arith), tt),
        ),
      )

  -- the head: its kind says how long it is and whether it names an outer dart
  kind_alike : 1 ≤ n → kind_of s ≡ kind_of s'
  kind_alike l = h.byte 0 (omega arith)

  length_alike : 1 ≤ n → headLength s ≡ headLength s'
  unfolding headLength
  length_alike l = ap record_length (kind_alike l)

  outer_alike : 7 ≤ n → outer_of s ≡ outer_of s'
  unfolding outer_of
  outer_alike l = ap₂ (λ k o. cond (eqb k 4) o 0) (kind_alike (omega arith)) (u16_alike n s s' h 5 (omega arith))

  head_record_alike : 17 ≤ n → Same (head_record_checks s) (head_record_checks s')
  unfolding Same head_record_checks
  head_record_alike l =
      let more = h.longer in
      let more' = h.longer' in
      let same = kind_alike (omega arith) in (
        refl,
        refl,
        (λ g. omega arith),
        (λ g. omega arith),
        (
          refl,
          refl,
          (λ g. ((λ e. g.0 (same ∙ e)), (λ e. g.1 (same ∙ e)))),
          (λ g. ((λ e. g.0 (sym same ∙ e)), (λ e. g.1 (sym same ∙ e)))),
          (refl, refl, (λ g. omega (arith, head_at_most s)), (λ g. omega (arith, head_at_most s')), tt),
        ),
      )

  head_alike : 17 ≤ n → Same (head_checks s) (head_checks s')
  unfolding head_checks
  head_alike l =
      same_append (head_record_checks s) (head_record_checks s')
      (number_checks (nodes_of s) (edges_of s) (outer_of s)) (number_checks (nodes_of s') (edges_of s') (outer_of s'))
      (head_record_alike l)
      (same_if _ _ (λ i. number_checks (u16_alike n s s' h 1 (omega arith) i) (u16_alike n s s' h 3 (omega arith) i) (outer_alike (omega arith) i)))

  module _ (enough : 17 ≤ n) (within : edge_at s (edges_of s) ≤ n) where
    begin_alike : headLength s ≡ headLength s'
    begin_alike = length_alike (omega arith)

    nodes_alike : nodes_of s ≡ nodes_of s'
    nodes_alike = u16_alike n s s' h 1 (omega arith)

    edges_alike : edges_of s ≡ edges_of s'
    edges_alike = u16_alike n s s' h 3 (omega arith)

    -- the fields of an edge, which stand behind the head in both
    u16_in_edge : (e : ℕ) → e < edges_of s → (k : ℕ) → k ≤ 15 → u16_at s (edge_at s e + k) ≡ u16_at s' (edge_at s' e + k)
    u16_in_edge e l k m = u16_alike n s s' h (edge_at s e + k) (omega arith) ∙ ap (λ b. u16_at s' (edge_after b e + k)) begin_alike

    i32_in_edge : (e : ℕ) → e < edges_of s → (k : ℕ) → k ≤ 13 → i32_at s (edge_at s e + k) ≡ i32_at s' (edge_at s' e + k)
    i32_in_edge e l k m = i32_alike n s s' h (edge_at s e + k) (omega arith) ∙ ap (λ b. i32_at s' (edge_after b e + k)) begin_alike

    drawn_alike : (e : ℕ) → e < edges_of s → edge_checks (sheet_drawing s) e ≡ edge_checks (sheet_drawing s') e
    drawn_alike e l =
        let u = u16_in_edge e l in
        let i = i32_in_edge e l in
        edge_fields s e l
        ∙ (rw (nodes_alike, edges_alike, u 1 (omega arith), u 3 (omega arith), u 5 (omega arith), u 7 (omega arith), i 9 (omega arith), i 13 (omega arith)))
        ∙ sym (edge_fields s' e (omega (arith, edges_alike)))

    edge_alike : (e : ℕ) → e < edges_of s → Same (edge_record_checks s e) (edge_record_checks s' e)
    unfolding edge_record_checks
    edge_alike e l =
        same_append (record_checks s 2 (edge_at s e)) (record_checks s' 2 (edge_at s' e)) (edge_checks (sheet_drawing s) e) (edge_checks (sheet_drawing s') e)
        (subst (λ b. Same (record_checks s 2 (edge_at s e)) (record_checks s' 2 (edge_after b e))) begin_alike (record_alike 2 (edge_at s e) (omega arith)))
        (same_if _ _ (drawn_alike e l))

    in-turn-alike : Same (in_turn (edges_of s) (edge_record_checks s)) (in_turn (edges_of s') (edge_record_checks s'))
    in-turn-alike =
        subst (λ m. Same (in_turn (edges_of s) (edge_record_checks s)) (in_turn m (edge_record_checks s'))) edges_alike
        (same_in_turn (edges_of s) (edge_record_checks s) (edge_record_checks s') edge_alike)

    -- both have bytes left over
    left_alike : Same ((8 when edge_at s (edges_of s) < length s) ∷ []) ((8 when edge_at s' (edges_of s') < length s') ∷ [])
    unfolding Same
    left_alike =
        let more = h.longer in
        let more' = h.longer' in
        let same = edges_alike in
        let begin = begin_alike in
        (refl, refl, (λ g. omega arith), (λ g. omega arith), tt)

    bytes_alike : Same (byte_checks s) (byte_checks s')
    unfolding byte_checks
    bytes_alike =
        same_append (head_checks s) (head_checks s') _ _ (head_alike enough)
        (same_append (in_turn (edges_of s) (edge_record_checks s)) (in_turn (edges_of s') (edge_record_checks s')) _ _ in-turn-alike left_alike)

-- ── the first check that holds ──
-- where some check of the first list holds, what follows that list decides nothing
pub first_within : (cs ds es fs : List Check) (k p : ℕ) → (NoneOf cs → ⊥) → (FirstOf cs k p → FirstOf ds k p) → FirstOf (cs ++ es) k p → FirstOf (ds ++ fs) k p
first_within cs ds es fs k p some over h = go (append_first cs es k p h)
  where
    go : FirstOf cs k p ⊎ (NoneOf cs × FirstOf es k p) → FirstOf (ds ++ fs) k p
    go (inl g) = first_left ds fs k p (over g)
    go (inr g) = absurd (some g.0)

-- a list that agrees, and then one whose first carries over
pub first_after : (cs ds es fs : List Check) (k p : ℕ) → Same cs ds → (FirstOf es k p → FirstOf fs k p) → FirstOf (cs ++ es) k p → FirstOf (ds ++ fs) k p
first_after cs ds es fs k p same over h = go (append_first cs es k p h)
  where
    go : FirstOf cs k p ⊎ (NoneOf cs × FirstOf es k p) → FirstOf (ds ++ fs) k p
    go (inl g) = first_left ds fs k p (first_same cs ds k p same g)
    go (inr g) = first_right ds fs k p (none_same cs ds same g.0) (over g.1)

-- a sheet that is accepted has at most 7 + 17 · 512 bytes
pub longest_bytes : (s : List ℕ) → NoneOf (byte_checks s) → length s ≤ 8711
longest_bytes s none = let most = (bytes_counts s none).3 in omega (arith, bytes_length s none, (head_whole s (bytes_head s none)).2)

-- both are too long, so a check on bytes holds: 2 if the head is of another kind, 3 if it says more than 512 edges, at the latest 8
module _ (s s' : List ℕ) (h : Alike 8711 s s') where
  first_bytes : (k p : ℕ) → FirstOf (byte_checks s) k p → FirstOf (byte_checks s') k p
  unfolding byte_checks
  first_bytes k p f = go (ℕ_discrete (kind_of s) 1) (ℕ_discrete (kind_of s) 4) (dec_le (edges_of s) 512)
    where
      by_head : (NoneOf (head_checks s) → ⊥) → FirstOf (byte_checks s') k p
      by_head some =
          first_within (head_checks s) (head_checks s') _ _ k p some
          (first_same (head_checks s) (head_checks s') k p (head_alike 8711 s s' h (omega arith))) f

      by_all : headLength s ≤ 7 → edges_of s ≤ 512 → FirstOf (byte_checks s') k p
      by_all short few = first_same (byte_checks s) (byte_checks s') k p (bytes_alike 8711 s s' h (omega arith) (omega arith)) f

      no_kind : (kind_of s ≡ 1 → ⊥) → (kind_of s ≡ 4 → ⊥) → (kind_of s ≡ 1) ⊎ (kind_of s ≡ 4) → ⊥
      no_kind p q (inl e) = p e
      no_kind p q (inr e) = q e

      go : Dec (kind_of s ≡ 1) → Dec (kind_of s ≡ 4) → Dec (edges_of s ≤ 512) → FirstOf (byte_checks s') k p
      go one four (no l) = by_head (λ none. l (head_counts s none).3)
      go (yes one) four (yes l) = by_all (head_lengths s (inl one)).1 l
      go (no one) (yes four) (yes l) = by_all (head_lengths s (inr four)).1 l
      go (no one) (no four) (yes l) = by_head (λ none. no_kind one four (head_kinds s none))

  pub first_sheet : (k p : ℕ) → FirstOf (sheet_checks s) k p → FirstOf (sheet_checks s') k p
  unfolding sheet_checks
  first_sheet k p =
      first_within (byte_checks s) (byte_checks s') (map_checks (sheet_map s)) (map_checks (sheet_map s')) k p
      (λ none. let most = longest_bytes s none in let more = h.longer in omega arith) (first_bytes k p)
