-- The table, proved: line by line, by the tests of proofs/Lines.antt, which are computed (`refl`).
-- What a line says, its numbers too, is taken from the table (`_`).
use mathlib.Core.Path.{◌≡◌, refl, ◌∙◌}
use mathlib.Core.List.{[], ◌∷◌, ◌++◌}
use Prim.Native.Nat.{ℕ}
use native.Mathlib.Omega.{arith}
use lib.Count.{ones, ones_in}
use lib.IntN.{ℤ, pos}
use Rattle.integers.specs.Sum.{sum}
use Rattle.integers.proofs.Tests.{every, eq_z}
use Rattle.fields.specs.Fields.{u16_at, u32_at, i32_at, le16, le_bits, le32}
use Rattle.maps.specs.Dart.{rev}
use Rattle.maps.specs.Orbit.{iter, lowest, is_lowest, orbits, orbit_of}
use Rattle.maps.specs.Face.{left}
use Rattle.maps.specs.Flow.{net}
use Rattle.maps.specs.Cut.{cut}
use Rattle.maps.proofs.Examples as maps
use Rattle.flows.specs.Settings.{on_darts}
use Rattle.flows.specs.ProvingSet.{bound, size}
use Rattle.texts.specs.Decimal.{digits, decimal, number}
use Rattle.arrays.specs.At.{atℤ}
use Rattle.texts.specs.Lines.{lines}
use Rattle.key_text.specs.Text.{edge_line, node_line, can_line, can_text, cannot_line, cannot_text, refused_text}
use Rattle.starred.specs.Drawings.{A, twisted, question}
use Rattle.starred.specs.Texts.{can_six, cannot_thirteen, refused_twelve}
use Rattle.starred.specs.Table.{Starred}
use Rattle.starred.proofs.Sheets.{
  drawn,
  a_capacities,
  least_two_capacities,
  all_five_capacities,
  b_capacities,
  a_good,
  least_two_good,
  all_five_good,
  twisted_bad,
  b_good,
}
use Rattle.starred.proofs.Answers.{solve_refused, opened, refused_open}
use Rattle.starred.proofs.Keys.{OnlyKey, key_prints, question_whole, key_can, key_cannot, key_refused}
use Rattle.starred.proofs.Lines.{in-range, can_on_a, can-line, cannot_by, cannot-line, largest_line, none_line, levels_line}

-- ── the key's texts ──
six_text : can_text (pos 6) 3 (atℤ (pos 0 ∷ pos 2 ∷ pos 4 ∷ [])) ≡ can_six
unfolding can_text can_line lines edge_line number decimal digits
six_text = refl

thirteen_text : cannot_text (pos 13) (size (1 ∷ [])) 2 (1 ∷ []) ≡ cannot_thirteen
unfolding cannot_text cannot_line lines node_line number decimal digits size ones ones_in
thirteen_text = refl

twelve_text : refused_text 12 ≡ refused_twelve
unfolding refused_text decimal digits
twelve_text = refl

six_only : OnlyKey (question 0 1 (pos 6) ++ A) can_six
unfolding question le16 le32 le_bits u16_at u32_at i32_at every on_darts net sum
six_only t key =
    key_can (question 0 1 (pos 6) ++ A) (question_whole 0 1 (pos 6) A) a_good (in-range (pos 6) refl) (pos 0 ∷ pos 2 ∷ pos 4 ∷ [])
    (can_on_a a_capacities (pos 0) (pos 2) (pos 4) (pos 6) refl refl refl refl) t key
    ∙ six_text

thirteen_only : OnlyKey (question 0 1 (pos 13) ++ A) cannot_thirteen
unfolding question le16 le32 le_bits u16_at u32_at i32_at every cut bound sum rev
thirteen_only t key =
    key_cannot (question 0 1 (pos 13) ++ A) (question_whole 0 1 (pos 13) A) a_good (in-range (pos 13) refl) (1 ∷ [])
    (cannot_by (drawn maps.A a_capacities) (omega arith) (omega arith) (pos 13) 1 refl refl) t key
    ∙ thirteen_text

twisted_only : (source sink : ℕ) (value : ℤ) → OnlyKey (question source sink value ++ twisted) refused_twelve
unfolding question le16 le32 le_bits
twisted_only source sink value t key =
    key_refused (question source sink value ++ twisted) (question_whole source sink value twisted) 12 twisted_bad t key ∙ twelve_text

-- ── all ──
pub starred : Starred
unfolding every on_darts net cut bound sum rev size ones ones_in left orbits orbit_of is_lowest lowest iter eq_z
starred = record {
  faces_of_a = λ n h.
      let o = opened a_good n h in
      let at_left = o.1 in (
        o.0,
        (at_left 0 (omega arith), at_left 5 (omega arith)),
        (at_left 1 (omega arith), at_left 2 (omega arith)),
        (at_left 3 (omega arith), at_left 4 (omega arith)),
      );
  six = can-line a_capacities _ _ _ _ a_good refl refl refl refl refl;
  six_key = key_prints _ _ six_only;
  twelve = can-line a_capacities _ _ _ _ a_good refl refl refl refl refl;
  thirteen = cannot-line (drawn maps.A a_capacities) (omega arith) (omega arith) a_good _ _ _ refl refl refl refl;
  thirteen_key = key_prints _ _ thirteen_only;
  zero = can-line a_capacities _ _ _ _ a_good refl refl refl refl refl;
  minus_one = cannot-line (drawn maps.A a_capacities) (omega arith) (omega arith) a_good _ _ _ refl refl refl refl;
  largest_of_a = largest_line a_capacities _ _ _ _ _ a_good refl refl refl refl refl refl refl refl refl;
  least-two = can-line least_two_capacities _ _ _ _ least_two_good refl refl refl refl refl;
  least_one = cannot-line (drawn maps.A least_two_capacities) (omega arith) (omega arith) least_two_good _ _ _ refl refl refl refl;
  levels_of_five = levels_line all_five_capacities _ _ _ _ _ _ all_five_good (λ more. refl) (λ more. refl) (λ more. refl) refl;
  twisted_opened = refused_open twisted 12 twisted_bad;
  twisted_refused = solve_refused twisted 12 twisted_bad;
  twisted_key = λ source sink value. key_prints _ _ (twisted_only source sink value);
  largest_of_b = none_line (drawn maps.B b_capacities) (omega arith) (omega arith) b_good _ refl refl refl;
}
