-- The sheets of the table: which drawing each of them holds, and that the sheet checks accept it, or refuse it by 12. A sheet's bytes are those of its drawing,
-- so what is known of drawings and maps carries over.
use mathlib.Core.Path.{◌≡◌, refl, sym, subst}
use mathlib.Core.Logic.{inl, inr}
use mathlib.Core.List.{List, [], ◌∷◌}
use mathlib.Core.Bool.{true}
use Prim.Native.Nat.{ℕ, zero, suc, ◌+◌, ◌*◌, ◌<◌}
use native.Mathlib.Omega.{arith}
use lib.Dec.{eqb}
use lib.ListN.{length, get_or-eq_default}
use lib.IntN.{ℤ, pos, negsuc, ◌+ℤ◌}
use lib.Signed.{◌≤ℤ◌, le_z}
use Rattle.integers.specs.Sum.{sum}
use Rattle.integers.proofs.Laws.{lt_le_clash}
use Rattle.integers.proofs.Tests.{every, every_below, every_equal, every_two, every_at_most, eqb_true, eqb_eq}
use Rattle.integers.proofs.Injections.{find}
use Rattle.refusals.specs.Order.{NoneOf, FirstOf}
use Rattle.refusals.proofs.Order.{none_append, first_right, neither}
use Rattle.fields.specs.Fields.{le16, le_bits, le32}
use Rattle.maps.specs.Dart.{rev}
use Rattle.maps.specs.Orbit.{iter, lowest, is_lowest, orbits}
use Rattle.maps.specs.Map.{Map}
use Rattle.maps.specs.Face.{faces}
use Rattle.maps.specs.Walk.{Walk, here, along, Connected}
use Rattle.maps.specs.Flat.{Flat}
use Rattle.maps.specs.Check.{InRange, Sound}
use Rattle.maps.proofs.Walks.{walk_append, walk_back}
use Rattle.maps.proofs.Parts.{flat_connected}
use Rattle.maps.proofs.Examples as maps
use Rattle.rotations.specs.MapChecks.{map_checks}
use Rattle.rotations.proofs.Accepted.{no_rotation_fault, no_node_fault, passes}
use Rattle.maps.specs.Drawing.{Drawing}
use Rattle.records.specs.Check.{number_checks, field_checks, edge_checks}
use Rattle.records.specs.Sheet.{sheet_drawing, sheet_map, byte_checks}
use Rattle.records.specs.Encode.{plain_head, encode_edge, encode_edges, encode_plain}
use Rattle.records.proofs.Encodable.{ZeroPast, encodable_of_checks}
use Rattle.records.proofs.Decode.{sheet_encode_plain}
use Rattle.records.proofs.EncodeAccepted.{plain_accepted}
use Rattle.arrays.specs.At.{atℤ}
use Rattle.sheets.specs.Open.{sheet_checks}
use Rattle.starred.specs.Drawings.{A, least_two, all_five, twisted, B}

-- ── any sheet ──
-- the sheet's bytes pass the checks 1 to 8, and hold this drawing
record Known (s : List ℕ) (𝓓 : Drawing) : Type 0 where
  bytes : NoneOf (byte_checks s)
  drawing : sheet_drawing s ≡ 𝓓

-- the sheet is accepted, and holds this drawing
pub record Good (s : List ℕ) (𝓓 : Drawing) : Type 0 where
  pub accepted : NoneOf (sheet_checks s)
  pub drawing : sheet_drawing s ≡ 𝓓

-- what the checks 6 and 7 ask of the capacities
record Fair (edges : ℕ) (c : ℕ → ℤ) : Type 0 where
  low : (d : ℕ) → d < 2 * edges → negsuc 999999 ≤ℤ c d
  high : (d : ℕ) → d < 2 * edges → c d ≤ℤ pos 1000000
  pairs : (e : ℕ) → e < edges → pos 0 ≤ℤ (c (2 * e) +ℤ c (2 * e + 1))

module _ (𝓓 : Drawing) (range : InRange 𝓓.map) (fair : Fair 𝓓.map.edges 𝓓.capacity) where
  edge_passes : (e : ℕ) → e < 𝓓.map.edges → NoneOf (edge_checks 𝓓 e)
  unfolding NoneOf edge_checks field_checks
  edge_passes e l =
      let even : 2 * e < 2 * 𝓓.map.edges = omega arith in
      let odd : 2 * e + 1 < 2 * 𝓓.map.edges = omega arith in (
        neither (λ h. omega (arith, range.tail_in (2 * e) even)) (λ h. omega (arith, range.tail_in (2 * e + 1) odd)),
        (
          neither (λ h. omega (arith, range.rotation_in (2 * e) even)) (λ h. omega (arith, range.rotation_in (2 * e + 1) odd)),
          (
            neither
                (neither (λ h. lt_le_clash h (fair.low (2 * e) even)) (λ h. lt_le_clash h (fair.high (2 * e) even)))
                (neither (λ h. lt_le_clash h (fair.low (2 * e + 1) odd)) (λ h. lt_le_clash h (fair.high (2 * e + 1) odd))),
            ((λ h. lt_le_clash h (fair.pairs e l)), tt),
          ),
        ),
      )

  -- the sheets of document 01 have heads of kind 1, which name no outer dart: it is dart 0
  known : (s : List ℕ) → encode_plain 𝓓 ≡ s → 𝓓.outer ≡ 0 → NoneOf (number_checks 𝓓.map.nodes 𝓓.map.edges 𝓓.outer) → ZeroPast 𝓓 → Known s 𝓓
  known s e first numbers past =
      let fit = encodable_of_checks 𝓓 numbers edge_passes past in
      record {
        bytes = subst (λ (b : List ℕ). NoneOf (byte_checks b)) e (plain_accepted 𝓓 fit first numbers edge_passes);
        drawing = subst (λ (b : List ℕ). sheet_drawing b ≡ 𝓓) e (sheet_encode_plain 𝓓 fit first);
      }

-- the checks 9 to 12 of the drawing's map are those of the sheet's
module _ {s : List ℕ} {𝓓 : Drawing} (k : Known s 𝓓) where
  known_good : NoneOf (map_checks 𝓓.map) → Good s 𝓓
  unfolding sheet_checks
  known_good h = record {
    accepted = none_append (byte_checks s) (map_checks (sheet_map s)) k.bytes (subst (λ (𝓔 : Drawing). NoneOf (map_checks 𝓔.map)) (sym k.drawing) h);
    drawing = k.drawing;
  }

  known_bad : (n p : ℕ) → FirstOf (map_checks 𝓓.map) n p → FirstOf (sheet_checks s) n p
  unfolding sheet_checks
  known_bad n p h =
      first_right (byte_checks s) (map_checks (sheet_map s)) n p k.bytes (subst (λ (𝓔 : Drawing). FirstOf (map_checks 𝓔.map) n p) (sym k.drawing) h)

fair_by_tests : (edges : ℕ) (c : ℕ → ℤ) → every (2 * edges) (λ d. le_z (negsuc 999999) (c d)) ≡ true → every (2 * edges) (λ d. le_z (c d) (pos 1000000)) ≡ true
    → every edges (λ e. le_z (pos 0) (c (2 * e) +ℤ c (2 * e + 1))) ≡ true → Fair edges c
fair_by_tests edges c low high pairs = record {
  low = every_at_most (2 * edges) (λ d. negsuc 999999) c low;
  high = every_at_most (2 * edges) c (λ d. pos 1000000) high;
  pairs = every_at_most edges (λ e. pos 0) (λ e. c (2 * e) +ℤ c (2 * e + 1)) pairs;
}

-- ── A, its map with other capacities, and A twisted ──
-- a map with the capacities of a list
abbrev pub drawn : Map → List ℤ → Drawing
drawn 𝓜 capacities = record { map = 𝓜; capacity = atℤ capacities; outer = 0 }

abbrev pub a_capacities : List ℤ
a_capacities = pos 5 ∷ pos 0 ∷ pos 3 ∷ pos 0 ∷ pos 4 ∷ pos 0 ∷ []

abbrev pub least_two_capacities : List ℤ
least_two_capacities = pos 5 ∷ pos 0 ∷ pos 3 ∷ negsuc 1 ∷ pos 4 ∷ pos 0 ∷ []

abbrev pub all_five_capacities : List ℤ
all_five_capacities = pos 5 ∷ pos 5 ∷ pos 5 ∷ pos 5 ∷ pos 5 ∷ pos 5 ∷ []

two_three : NoneOf (number_checks 2 3 0)
unfolding NoneOf number_checks
two_three = (neither (neither (λ h. omega arith) (λ h. omega arith)) (neither (λ h. omega arith) (λ h. omega arith)), ((λ h. omega arith), tt))

three_two : NoneOf (number_checks 3 2 0)
unfolding NoneOf number_checks
three_two = (neither (neither (λ h. omega arith) (λ h. omega arith)) (neither (λ h. omega arith) (λ h. omega arith)), ((λ h. omega arith), tt))

a_checked : NoneOf (map_checks maps.A)
a_checked = passes maps.a_sound maps.a_flat

-- A's map with other capacities
a_with : (s : List ℕ) (capacities : List ℤ) → length capacities ≡ 6
    → encode_plain (drawn maps.A capacities) ≡ s → Fair 3 (atℤ capacities) → Good s (drawn maps.A capacities)
a_with s capacities six e fair =
    known_good
    (known (drawn maps.A capacities) (maps.a_sound).range fair s e refl two_three
    (record {
      tail_zero = λ d h. get_or-eq_default (0 ∷ 1 ∷ 0 ∷ 1 ∷ 0 ∷ 1 ∷ []) 0 h;
      rotation_zero = λ d h. get_or-eq_default (2 ∷ 5 ∷ 4 ∷ 1 ∷ 0 ∷ 3 ∷ []) 0 h;
      capacity_zero = λ d h. get_or-eq_default capacities (pos 0) (omega (arith, six));
    }))
    a_checked

pub a_good : Good A (drawn maps.A a_capacities)
unfolding A encode_plain plain_head encode_edges encode_edge le16 le32 le_bits every
a_good = a_with A a_capacities refl refl (fair_by_tests 3 (atℤ a_capacities) refl refl refl)

pub least_two_good : Good least_two (drawn maps.A least_two_capacities)
unfolding least_two encode_plain plain_head encode_edges encode_edge le16 le32 le_bits every
least_two_good = a_with least_two least_two_capacities refl refl (fair_by_tests 3 (atℤ least_two_capacities) refl refl refl)

pub all_five_good : Good all_five (drawn maps.A all_five_capacities)
unfolding all_five encode_plain plain_head encode_edges encode_edge le16 le32 le_bits every
all_five_good = a_with all_five all_five_capacities refl refl (fair_by_tests 3 (atℤ all_five_capacities) refl refl refl)

-- sound, but not flat: 12 is the first check that holds
twisted_checked : FirstOf (map_checks maps.twisted_a) 12 0
unfolding FirstOf map_checks
twisted_checked =
    inr (
      no_rotation_fault maps.twisted_sound,
      inr (no_node_fault maps.twisted_sound, inl (maps.twisted_not_flat, refl, refl)),
    )

pub twisted_bad : FirstOf (sheet_checks twisted) 12 0
unfolding twisted encode_plain plain_head encode_edges encode_edge le16 le32 le_bits every
twisted_bad =
    known_bad
    (known (drawn maps.twisted_a a_capacities) (maps.twisted_sound).range (fair_by_tests 3 (atℤ a_capacities) refl refl refl) twisted refl refl two_three
    (record {
      tail_zero = λ d h. get_or-eq_default (0 ∷ 1 ∷ 0 ∷ 1 ∷ 0 ∷ 1 ∷ []) 0 h;
      rotation_zero = λ d h. get_or-eq_default (2 ∷ 3 ∷ 4 ∷ 5 ∷ 0 ∷ 1 ∷ []) 0 h;
      capacity_zero = λ d h. get_or-eq_default a_capacities (pos 0) h;
    }))
    12 0 twisted_checked

-- ── B ──
abbrev pub b_capacities : List ℤ
b_capacities = pos 5 ∷ pos 0 ∷ pos 3 ∷ negsuc 0 ∷ []

-- the steps of the rotation from c to d, and the dart of a node
abbrev steps : ℕ → ℕ → ℕ
steps c d = find 4 (λ j. eqb (iter (maps.B).rotation j c) d)

abbrev dart_of : ℕ → ℕ
dart_of v = find 4 (λ d. eqb ((maps.B).tail d) v)

b_sound : Sound maps.B
unfolding every iter find
b_sound = record {
  range = record { tail_in = every_below 4 (maps.B).tail (λ d. 3) refl; rotation_in = every_below 4 (maps.B).rotation (λ d. 4) refl };
  same_tail = every_equal 4 (λ d. (maps.B).tail ((maps.B).rotation d)) (maps.B).tail refl;
  injective = λ c d lc ld e.
      eqb_eq c d (every_two 4 (λ c d. eqb ((maps.B).rotation c) ((maps.B).rotation d)) eqb refl c d lc ld
      (eqb_true ((maps.B).rotation c) ((maps.B).rotation d) e));
  one_round = λ c d lc ld e. (
    steps c d,
    eqb_eq (iter (maps.B).rotation (steps c d) c) d
        (every_two 4 (λ c d. eqb ((maps.B).tail c) ((maps.B).tail d)) (λ c d. eqb (iter (maps.B).rotation (steps c d) c) d)
        refl c d lc ld (eqb_true ((maps.B).tail c) ((maps.B).tail d) e)),
  );
  has_dart = λ v l. (dart_of v, every_below 3 dart_of (λ v. 4) refl v l, every_equal 3 (λ v. (maps.B).tail (dart_of v)) (λ v. v) refl v l);
}

b_connected : Connected maps.B
unfolding rev
b_connected v w lv lw = walk_append (from_zero v lv) (walk_back (from_zero w lw))
  where
    from_zero : (v : ℕ) → v < 3 → Walk maps.B v 0
    from_zero zero l = here
    from_zero (suc zero) l = along 1 (omega arith) refl here
    from_zero (suc (suc zero)) l = along 3 (omega arith) refl here
    from_zero (suc (suc (suc v))) l = absurd (omega arith)

b_total : (maps.B).nodes + faces maps.B ≡ (maps.B).edges + 2
unfolding faces orbits is_lowest lowest iter sum rev
b_total = refl

b_flat : Flat maps.B
b_flat = flat_connected (omega arith) b_connected b_total

pub b_good : Good B (drawn maps.B b_capacities)
unfolding B encode_plain plain_head encode_edges encode_edge le16 le32 le_bits every
b_good =
    known_good
    (known (drawn maps.B b_capacities) b_sound.range (fair_by_tests 2 (atℤ b_capacities) refl refl refl) B refl refl three_two
    (record {
      tail_zero = λ d h. get_or-eq_default (0 ∷ 1 ∷ 0 ∷ 2 ∷ []) 0 h;
      rotation_zero = λ d h. get_or-eq_default (2 ∷ 1 ∷ 0 ∷ 3 ∷ []) 0 h;
      capacity_zero = λ d h. get_or-eq_default b_capacities (pos 0) h;
    }))
    (passes b_sound b_flat)
