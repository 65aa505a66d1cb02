-- What is said of limits from a capture, from the contract: the window's least is that of some record, and demand 3 on the drawing with the limits found.
use mathlib.Core.Path.{◌≡◌, refl}
use mathlib.Core.Logic.{◌⊎◌, inl, inr}
use mathlib.Core.List.{List}
use Prim.Native.Nat.{ℕ, ◌*◌}
use native.Mathlib.Omega.{arith}
use lib.IntN.{ℤ, pos}
use lib.Signed.{◌≤ℤ◌}
use Rattle.refusals.specs.Order.{NoneOf}
use Rattle.refusals.proofs.Order.{append_none}
use Rattle.maps.specs.Drawing.{Drawing}
use Rattle.arrays.proofs.FillLoops.{filled_front}
use Rattle.records.specs.Sheet.{nodes_of, edges_of, capacity_of, sheet_drawing}
use Rattle.sheets.specs.Open.{sheet_checks}
use Rattle.questions.specs.Question.{end_checks}
use Rattle.capture.specs.Entry.{channel_of, limit_of}
use Rattle.capture.specs.Window.{Seen, unseen, least, first_of, count_of, forward_of, seen_in, or_else}
use Rattle.capture.specs.Capture.{taking_checks, last_checks, capture_checks, found_drawing}
use Rattle.capture.proofs.Taking.{laid_forward, laid_backward}
use Rattle.capture.proofs.Least.{LeastOf, least_of}
use Rattle.analyser.specs.After.{after_checks}
use Rattle.analyser.specs.Statements.{InWindow, LimitsOfCapture}
use Rattle.analyser.proofs.SheetPlane.{plane}
use Rattle.analyser.proofs.OnDrawing as on

-- ── an accepted run: the sheet is accepted, and the ends are two nodes ──
module _ (s b : List ℕ) (w n source sink : ℕ) (limits flows : List ℤ) (set : List ℕ) (asked : NoneOf (after_checks s b w n source sink limits flows set)) where
  parts : NoneOf (sheet_checks s) × NoneOf (capture_checks (sheet_drawing s) b w n source sink limits flows set)
  unfolding after_checks
  parts = append_none (sheet_checks s) _ asked

  sheet : NoneOf (sheet_checks s)
  sheet = parts.0

  two : NoneOf (end_checks (nodes_of s) source sink)
  unfolding capture_checks last_checks
  two = (append_none (end_checks (nodes_of s) source sink) _ (append_none (taking_checks (edges_of s) (capacity_of s) b w n) _ parts.1).1).0

abbrev drawing : (s b : List ℕ) (w n : ℕ) → Drawing
drawing s b w n = found_drawing (sheet_drawing s) b w n

-- ── the window ──
window_least : (s b : List ℕ) (w n e : ℕ)
    → ((i : ℕ) × InWindow w n i × (channel_of b i ≡ e) × (forward_of (capacity_of s) b w n e ≡ limit_of b i)
    × ((j : ℕ) → InWindow w n j → channel_of b j ≡ e → forward_of (capacity_of s) b w n e ≤ℤ limit_of b j))
    ⊎ (((i : ℕ) → InWindow w n i → channel_of b i ≡ e → ⊥) × (forward_of (capacity_of s) b w n e ≡ capacity_of s (2 * e)))
window_least s b w n e = by (seen_in b e (first_of w n) (count_of w n)) (least_of b e (first_of w n) (count_of w n))
  where
    by : (r : Seen) → LeastOf b e (first_of w n) (count_of w n) r
        → ((i : ℕ) × InWindow w n i × (channel_of b i ≡ e) × (or_else r (capacity_of s (2 * e)) ≡ limit_of b i)
        × ((j : ℕ) → InWindow w n j → channel_of b j ≡ e → or_else r (capacity_of s (2 * e)) ≤ℤ limit_of b j))
        ⊎ (((i : ℕ) → InWindow w n i → channel_of b i ≡ e → ⊥) × (or_else r (capacity_of s (2 * e)) ≡ capacity_of s (2 * e)))
    by unseen h = inr ((λ i m c. h i (omega (arith, m.0, m.1)) (omega (arith, m.0, m.1)) c), refl)
    by (least x) h =
        inl (
          h.0,
          (omega (arith, h.1, h.2), omega (arith, h.1, h.2)),
          h.3,
          h.4,
          λ j m c. h.5 j (omega (arith, m.0, m.1)) (omega (arith, m.0, m.1)) c,
        )

-- ── all ──
pub limits_of_capture : LimitsOfCapture
limits_of_capture = record {
  window_least = window_least;
  found_forward = λ s b w n e. laid_forward (capacity_of s) b (first_of w n) (count_of w n) e;
  found_backward = λ s b w n e. laid_backward (capacity_of s) b (first_of w n) (count_of w n) e;
  limits_given = λ s b w n source sink limits limits' flows flows' set set' v h e l. filled_front (pos 0) (edges_of s) _ limits limits' h.0 e l;
  limits_given_none = λ s b w n source sink limits limits' flows flows' set set' h e l. filled_front (pos 0) (edges_of s) _ limits limits' h.0 e l;
  largest_carries = λ s b w n source sink limits limits' flows flows' set set' v h.
      let a = h.1.0 in
      on.largest_carries (drawing s b w n) (plane s (sheet s b w n source sink limits flows set a)) source sink (two s b w n source sink limits flows set a)
      (after_checks s b w n source sink limits flows set) flows flows' set set' v h.1;
  nothing_greater = λ s b w n source sink limits limits' flows flows' set set' v h value p.
      let a = h.1.0 in
      on.nothing_greater (drawing s b w n) (plane s (sheet s b w n source sink limits flows set a)) source sink (two s b w n source sink limits flows set a)
      (after_checks s b w n source sink limits flows set) flows flows' set set' v h.1 value p.0 p.1;
  next_impossible = λ s b w n source sink limits limits' flows flows' set set' v h. h.1.2;
  set_excludes = λ s b w n source sink limits flows set a value S p q.
      on.excludes (drawing s b w n) (plane s (sheet s b w n source sink limits flows set a)) source sink (two s b w n source sink limits flows set a)
      value S p q.0 q.1;
  none_exactly = λ s b w n source sink limits limits' flows flows' set set' answer a h.
      let e = on.none_exactly (drawing s b w n) (plane s (sheet s b w n source sink limits flows set a)) source sink
      (two s b w n source sink limits flows set a)
      (after_checks s b w n source sink limits flows set) flows flows' set set' a answer h.1 in
      ((λ q value p. e.0 q value p.0 p.1), (λ nothing. e.1 (λ value x d. nothing value (x, d))));
  none_proves = λ s b w n source sink limits limits' flows flows' set set' h.
      let a = h.1.0 in (
        h.1.2.0,
        h.1.2.1,
        on.none_proves (drawing s b w n) (plane s (sheet s b w n source sink limits flows set a)) source sink (two s b w n source sink limits flows set a)
            (after_checks s b w n source sink limits flows set) flows flows' set set' h.1,
      );
}
