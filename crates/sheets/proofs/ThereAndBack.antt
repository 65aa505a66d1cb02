-- Read and Write undo each other, from their contracts alone. Document 01, "Operations": "Each of Read and Write undoes the other." From accepted bytes to
-- slices to the same bytes where the head is of kind 4, and to the same drawing where it is of kind 1; from accepted slices to bytes, which the sheet checks
-- accept, to the same slices.
use mathlib.Core.Path.{◌≡◌, refl, sym, ◌∙◌, ap, ap₂, subst, fun_ext}
use mathlib.Core.Logic.{inl, inr}
use mathlib.Core.List.{List, ◌++◌}
use Prim.Native.Nat.{ℕ, ◌+◌, ◌*◌, ◌%◌, ◌≤◌, ◌<◌}
use native.Mathlib.Omega.{arith}
use native.Mathlib.Decide.{dec_lt}
use lib.ListN.{length, get_or, take, drop, get_or-eq_default}
use lib.Seq.{take_at}
use lib.IntN.{ℤ, pos}
use Rattle.std.specs.Prelude.{Result, Ok, Err}
use Rattle.refusals.specs.Order.{NoneOf, in_turn}
use Rattle.refusals.specs.declared.Refusal.{Refusal}
use Rattle.refusals.proofs.Order.{none_append, none_in_turn, first_none}
use Rattle.rotations.specs.MapChecks.{map_checks}
use Rattle.maps.specs.Drawing.{Drawing}
use Rattle.records.specs.Check.{number_checks, edge_checks}
use Rattle.records.specs.Sheet.{kind_of, nodes_of, edges_of, outer_of, tail_of, rotation_of, capacity_of, sheet_map, sheet_drawing, byte_checks}
use Rattle.records.specs.Encode.{encode_head, encode, encode_length}
use Rattle.arrays.specs.Filled.{tabulate}
use Rattle.arrays.proofs.Tabulate.{length_tabulate, get_d_tabulate, get_d_past, tabulate_get_d}
use Rattle.records.proofs.Fields.{tail_past, rotation_past, capacity_past}
use Rattle.records.proofs.Bytes.{bytes_length, bytes_head, head_range, bytes_drawn}
use Rattle.records.proofs.Heads.{head_long}
use Rattle.records.proofs.SheetAgain.{encode_sheet, kind_one_encoded}
use Rattle.records.proofs.Encodable.{ZeroPast, Encodable, sheet_zero_past, encodable_of_checks}
use Rattle.records.proofs.Places.{encode-length}
use Rattle.records.proofs.Decode.{sheet_encode}
use Rattle.records.proofs.EncodeAccepted.{encode_accepted}
use Rattle.sheets.specs.Open.{sheet_checks}
use Rattle.sheets.specs.Read.{read_checks, Reads}
use Rattle.sheets.specs.Write.{edges_in, slices_drawing, drawing_checks, write_checks, Writes}
use Rattle.sheets.specs.Statements.{as_kind_four}
use Rattle.sheets.specs.declared.Counts.{Counts}
use Rattle.sheets.proofs.Reading.{read_whole}
use Rattle.sheets.proofs.Accepted.{sheet_bytes, sheet-map}
use Rattle.sheets.proofs.Writing.{drawing_parts, write_whole}

-- ── from bytes to slices to bytes ──
-- a table of a function that is z past n is that function
table_at : {A : Type 0} (z : A) (n : ℕ) (f : ℕ → A) → ((d : ℕ) → n ≤ d → f d ≡ z) → (d : ℕ) → get_or (tabulate n f) d z ≡ f d
table_at z n f past d = go (dec_lt d n)
  where
    go : Dec (d < n) → get_or (tabulate n f) d z ≡ f d
    go (yes l) = get_d_tabulate n d f z l
    go (no l) = get_d_past n d f z (omega (arith, l)) ∙ sym (past d (omega (arith, l)))

module _ (s : List ℕ) where
  abbrev m : ℕ
  m = 2 * edges_of s

  abbrev tails : List ℕ
  tails = tabulate m (tail_of s)

  abbrev rotations : List ℕ
  rotations = tabulate m (rotation_of s)

  abbrev capacities : List ℤ
  capacities = tabulate m (capacity_of s)

  half : edges_in tails ≡ edges_of s
  half = omega (arith, length_tabulate m (tail_of s))

  -- the slices that Read fills describe the sheet's drawing
  slices_are : slices_drawing (nodes_of s) (outer_of s) tails rotations capacities ≡ sheet_drawing s
  slices_are = λ i. record {
    map = record {
      nodes = nodes_of s;
      edges = half i;
      tail = fun_ext (table_at 0 m (tail_of s) (tail_past s)) i;
      rotation = fun_ext (table_at 0 m (rotation_of s) (rotation_past s)) i;
    };
    capacity = fun_ext (table_at (pos 0) m (capacity_of s) (capacity_past s)) i;
    outer = outer_of s;
  }

  module _ (accepted : NoneOf (sheet_checks s)) where
    passed : NoneOf (byte_checks s)
    passed = sheet_bytes s accepted

    drawn : NoneOf (drawing_checks (sheet_drawing s))
    unfolding drawing_checks
    drawn =
        none_append (number_checks (nodes_of s) (edges_of s) (outer_of s))
        (in_turn (edges_of s) (edge_checks (sheet_drawing s)) ++ map_checks (sheet_map s)) (head_range s (bytes_head s passed))
        (none_append (in_turn (edges_of s) (edge_checks (sheet_drawing s))) (map_checks (sheet_map s))
        (none_in_turn (edges_of s) (edge_checks (sheet_drawing s)) (bytes_drawn s passed)) (sheet-map s accepted))

    size : encode_length (edges_in tails) ≡ encode_length (edges_of s)
    size = ap encode_length half

    -- Write, given what Read gave, writes the bytes of the sheet's drawing
    written_again : (out out' : List ℕ) → encode_length (edges_of s) ≤ length out → (a : Result ℕ Refusal)
        → Writes (nodes_of s) (outer_of s) tails rotations capacities out out' a
        → (a ≡ Ok (encode_length (edges_of s))) × (out' ≡ encode (sheet_drawing s) ++ drop (encode_length (edges_of s)) out)
    written_again out out' room (Err f) h =
        absurd (first_none (write_checks (nodes_of s) (outer_of s) tails rotations capacities out) f.number f.place h.0 whole)
      where
        whole : NoneOf (write_checks (nodes_of s) (outer_of s) tails rotations capacities out)
        whole =
            write_whole (nodes_of s) (outer_of s) tails rotations capacities out
            (length_tabulate m (rotation_of s) ∙ sym (length_tabulate m (tail_of s)))
            (length_tabulate m (capacity_of s) ∙ sym (length_tabulate m (tail_of s)))
            (omega (arith, length_tabulate m (tail_of s)))
            (subst (λ 𝓓. NoneOf (drawing_checks 𝓓)) (sym slices_are) drawn)
            (omega (arith, size))
    written_again out out' room (Ok n) h =
        (ap Ok (h.1 ∙ size), h.2 ∙ ap₂ (λ b k. b ++ drop k out) (ap encode slices_are) (h.1 ∙ size))

    -- those are the sheet, where its head is of kind 4
    pub write_undoes_read : ((i : ℕ) → get_or s i 0 < 256) → kind_of s ≡ 4 → (out out' : List ℕ) → length s ≤ length out → (a : Result ℕ Refusal)
        → Writes (nodes_of s) (outer_of s) tails rotations capacities out out' a
        → (a ≡ Ok (length s)) × (out' ≡ s ++ drop (length s) out)
    write_undoes_read bytes four out out' room a h =
        let long : encode_length (edges_of s) ≡ length s = omega (arith, bytes_length s passed, head_long s 4 four) in
        let w = written_again out out' (omega arith) a h in
        (w.0 ∙ ap Ok long, w.1 ∙ ap₂ (λ b k. b ++ drop k out) (encode_sheet s bytes passed four) long)

    -- and the sheet with a head of kind 4 that names dart 0, where it is of kind 1: the same drawing
    fits_sheet : Encodable (sheet_drawing s)
    fits_sheet = encodable_of_checks (sheet_drawing s) (head_range s (bytes_head s passed)) (bytes_drawn s passed) (sheet_zero_past s)

    pub kind_one_again : ((i : ℕ) → get_or s i 0 < 256) → kind_of s ≡ 1 → (out out' : List ℕ) → length s + 2 ≤ length out → (a : Result ℕ Refusal)
        → Writes (nodes_of s) (outer_of s) tails rotations capacities out out' a
        → (a ≡ Ok (length s + 2)) × (out' ≡ as_kind_four s ++ drop (length s + 2) out) × (sheet_drawing (as_kind_four s) ≡ sheet_drawing s)
    kind_one_again bytes one out out' room a h =
        let long : encode_length (edges_of s) ≡ length s + 2 = omega (arith, bytes_length s passed, head_long s 1 one) in
        let w = written_again out out' (omega arith) a h in
        let again = kind_one_encoded s bytes passed one in (
          w.0 ∙ ap Ok long,
          w.1 ∙ ap₂ (λ b k. b ++ drop k out) again long,
          subst (λ b. sheet_drawing b ≡ sheet_drawing s) again (sheet_encode (sheet_drawing s) fits_sheet),
        )

-- ── from slices to bytes to slices ──
module _ (nodes outer : ℕ) (tails rotations : List ℕ) (capacities : List ℤ) (out : List ℕ)
    (accepted : NoneOf (write_checks nodes outer tails rotations capacities out)) where
  abbrev drawing : Drawing
  drawing = slices_drawing nodes outer tails rotations capacities

  same_lengths : (length rotations ≡ length tails) × (length capacities ≡ length tails) × (length tails % 2 ≡ 0)
  unfolding write_checks NoneOf
  same_lengths = (
    stable (native.Mathlib.Decide.ℕ_discrete (length rotations) (length tails)) (λ h. accepted.0 (inl h)),
    stable (native.Mathlib.Decide.ℕ_discrete (length capacities) (length tails)) (λ h. accepted.0 (inr (inl h))),
    stable (native.Mathlib.Decide.ℕ_discrete (length tails % 2) 0) (λ h. accepted.0 (inr (inr h))),
  )
    where
      stable : {P : Type 0} → Dec P → ((P → ⊥) → ⊥) → P
      stable (yes p) h = p
      stable (no p) h = absurd (h p)

  checked : NoneOf (drawing_checks drawing)
  unfolding write_checks NoneOf
  checked = (Rattle.refusals.proofs.Order.append_none (drawing_checks drawing) _ accepted.1).0

  whole_length : 2 * edges_in tails ≡ length tails
  whole_length = omega (arith, same_lengths.2)

  zero_past : ZeroPast drawing
  zero_past = record {
    tail_zero = λ d l. get_or-eq_default tails 0 {n = d} (omega (arith, whole_length));
    rotation_zero = λ d l. get_or-eq_default rotations 0 {n = d} (omega (arith, whole_length, same_lengths.0));
    capacity_zero = λ d l. get_or-eq_default capacities (pos 0) {n = d} (omega (arith, whole_length, same_lengths.1));
  }

  fits : Encodable drawing
  fits = let p = drawing_parts drawing checked in encodable_of_checks drawing p.0 p.1 zero_past

  -- what Write writes is a sheet that the checks accept
  pub written_accepted : NoneOf (sheet_checks (encode drawing))
  unfolding sheet_checks
  written_accepted =
      let p = drawing_parts drawing checked in
      none_append (byte_checks (encode drawing)) (map_checks (sheet_map (encode drawing)))
      (encode_accepted drawing fits p.0 p.1)
      (subst (λ 𝓓. NoneOf (map_checks 𝓓.map)) (sym (sheet_encode drawing fits)) p.2)

  -- of kind 4
  pub written_kind : kind_of (encode drawing) ≡ 4
  unfolding encode encode_head
  written_kind = refl

  -- and it stands at the front of the output
  pub written_front : (out' : List ℕ) (n : ℕ) → Writes nodes outer tails rotations capacities out out' (Ok n) → take n out' ≡ encode drawing
  written_front out' n h = ap (take n) h.2 ∙ take_at (encode drawing) (drop n out) n (encode-length drawing ∙ sym h.1)

  -- Read, given those bytes, fills the slices that Write was given
  module _ (t r t' r' : List ℕ) (c c' : List ℤ) (room-t : length tails ≤ length t) (room-r : length tails ≤ length r) (room-c : length tails ≤ length c) where
    read_again : sheet_drawing (encode drawing) ≡ drawing
    read_again = sheet_encode drawing fits

    same_edges : 2 * edges_of (encode drawing) ≡ length tails
    same_edges = ap (λ 𝓓. 2 * 𝓓.map.edges) read_again ∙ whole_length

    table_again : {A : Type 0} (z : A) (n : ℕ) (l : List A) (f : ℕ → A) → f ≡ (λ d. get_or l d z) → n ≡ length l → tabulate n f ≡ l
    table_again z n l f e h = ap₂ tabulate h e ∙ tabulate_get_d (length l) l z refl

    counts_are : {n e o : ℕ} {told : Counts} → told.nodes ≡ n → told.edges ≡ e → told.outer ≡ o
        → ◌≡◌ {A = Result Counts Refusal} (Ok told) (Ok (record { nodes = n; edges = e; outer = o }))
    counts_are p q r = λ i. Ok (record { nodes = p i; edges = q i; outer = r i })

    pub read_undoes_write : (a : Result Counts Refusal) → Reads (encode drawing) t r c t' r' c' a
        → (a ≡ Ok (record { nodes = nodes; edges = edges_in tails; outer = outer }))
        × (t' ≡ tails ++ drop (length tails) t) × (r' ≡ rotations ++ drop (length rotations) r) × (c' ≡ capacities ++ drop (length capacities) c)
    read_undoes_write (Err f) h = absurd (first_none (read_checks (encode drawing) t r c) f.number f.place h.0 whole)
      where
        whole : NoneOf (read_checks (encode drawing) t r c)
        whole = read_whole (encode drawing) t r c written_accepted (omega (arith, same_edges)) (omega (arith, same_edges)) (omega (arith, same_edges))
    read_undoes_write (Ok told) h = (
      counts_are (h.1 ∙ ap (λ 𝓓. 𝓓.map.nodes) read_again) (h.2 ∙ ap (λ 𝓓. 𝓓.map.edges) read_again) (h.3 ∙ ap (λ 𝓓. 𝓓.outer) read_again),
      h.4 ∙ ap₂ (λ x k. x ++ drop k t) (table_again 0 _ tails (tail_of (encode drawing)) (ap (λ 𝓓. 𝓓.map.tail) read_again) same_edges) same_edges,
      h.5
          ∙ ap₂ (λ x k. x ++ drop k r)
          (table_again 0 _ rotations (rotation_of (encode drawing)) (ap (λ 𝓓. 𝓓.map.rotation) read_again) (same_edges ∙ sym same_lengths.0))
          (same_edges ∙ sym same_lengths.0),
      h.6
          ∙ ap₂ (λ x k. x ++ drop k c)
          (table_again (pos 0) _ capacities (capacity_of (encode drawing)) (ap (λ 𝓓. 𝓓.capacity) read_again) (same_edges ∙ sym same_lengths.1))
          (same_edges ∙ sym same_lengths.1),
    )
