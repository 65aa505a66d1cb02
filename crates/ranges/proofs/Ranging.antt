-- The ways out as verdicts of the whole list of checks.
use mathlib.Core.List.{List, ◌++◌}
use Prim.Native.Nat.{ℕ}
use lib.ListN.{length}
use lib.IntN.{ℤ}
use Rattle.refusals.specs.Order.{Check, NoneOf, FirstOf}
use Rattle.refusals.proofs.Order.{none_append, append_none, first_left, first_right}
use Rattle.questions.specs.Question.{end_checks, room_checks}
use Rattle.questions.proofs.Asked.{room_flows}
use Rattle.ranges.specs.Range.{span_checks}

module _ (nodes edges source sink : ℕ) (low : List ℤ) (below : List ℕ) (high : List ℤ) (above : List ℕ) where
  abbrev ends : List Check
  ends = end_checks nodes source sink

  abbrev lower : List Check
  lower = room_checks nodes edges (length low) (length below)

  abbrev upper : List Check
  upper = room_checks nodes edges (length high) (length above)

  pub range_ends : (k p : ℕ) → FirstOf ends k p → FirstOf (span_checks nodes edges source sink low below high above) k p
  unfolding span_checks
  range_ends k p h = first_left ends (lower ++ upper) k p h

  module _ (two : NoneOf ends) where
    pub range_lower : (k p : ℕ) → FirstOf lower k p → FirstOf (span_checks nodes edges source sink low below high above) k p
    unfolding span_checks
    range_lower k p h = first_right ends (lower ++ upper) k p two (first_left lower upper k p h)

    module _ (room : NoneOf lower) where
      pub range_upper : (k p : ℕ) → FirstOf upper k p → FirstOf (span_checks nodes edges source sink low below high above) k p
      unfolding span_checks
      range_upper k p h = first_right ends (lower ++ upper) k p two (first_right lower upper k p room h)

      pub range_none : NoneOf upper → NoneOf (span_checks nodes edges source sink low below high above)
      unfolding span_checks
      range_none h = none_append ends (lower ++ upper) two (none_append lower upper room h)

  -- what an accepted question is known of
  pub record Spanned : Type 0 where
    pub ends_two : NoneOf (end_checks nodes source sink)
    pub low_room : NoneOf (room_checks nodes edges (length low) (length below))
    pub high_room : NoneOf (room_checks nodes edges (length high) (length above))

  pub spanned : NoneOf (span_checks nodes edges source sink low below high above) → Spanned
  unfolding span_checks
  spanned h =
      let a = append_none ends (lower ++ upper) h in
      let b = append_none lower upper a.1 in
      record { ends_two = a.0; low_room = b.0; high_room = b.1 }

-- what the operation stands on
pub ruleset range_steps = (range_ends, range_lower, range_upper, room_flows)
