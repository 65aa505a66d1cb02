-- The checks that stand last: the ends, then room in three slices.
use mathlib.Core.Path.{refl}
use mathlib.Core.Logic.{inl, inr}
use mathlib.Core.List.{List}
use Prim.Native.Nat.{ℕ, ◌≤◌, ◌<◌}
use native.Mathlib.Omega.{arith}
use lib.ListN.{length}
use lib.IntN.{ℤ}
use Rattle.refusals.specs.Order.{NoneOf, FirstOf, Judged}
use Rattle.std.specs.Prelude.{Result, Ok, Err}
use Rattle.refusals.specs.declared.Refusal.{Refusal}
use Rattle.refusals.proofs.Order.{first_left, first_right, none_append, append_none, neither}
use Rattle.questions.specs.Question.{end_checks, room_checks}
use Rattle.questions.specs.Largest.{search_checks}
use Rattle.capture.specs.Capture.{last_checks}

module _ (nodes edges source sink : ℕ) (limits flows : List ℤ) (set : List ℕ) where
  pub ends_refused : (k p : ℕ) → FirstOf (end_checks nodes source sink) k p → FirstOf (last_checks nodes edges source sink limits flows set) k p
  unfolding last_checks
  ends_refused k p h = first_left (end_checks nodes source sink) _ k p h

  module _ (two : NoneOf (end_checks nodes source sink)) where
    pub limits_short : length limits < edges → FirstOf (last_checks nodes edges source sink limits flows set) 16 0
    unfolding last_checks FirstOf
    limits_short l = first_right (end_checks nodes source sink) _ 16 0 two (inl (inl l, refl, refl))

    pub room_judged : edges ≤ length limits → (v : Result Unit Refusal) → Judged (room_checks nodes edges (length flows) (length set)) v
        → Judged (last_checks nodes edges source sink limits flows set) v
    unfolding last_checks FirstOf NoneOf room_checks
    room_judged l (Ok done) h = none_append (end_checks nodes source sink) _ two (neither (λ m. omega arith) h.0, tt)
    room_judged l (Err r) (inl h) = first_right (end_checks nodes source sink) _ r.number r.place two (inl (inr h.0, h.1, h.2))
    room_judged l (Err r) (inr h) = absurd h.1

  -- what they leave: the checks of Largest, and room for the limits
  pub last_search : NoneOf (last_checks nodes edges source sink limits flows set)
      → NoneOf (search_checks nodes edges source sink flows set) × (edges ≤ length limits)
  unfolding last_checks NoneOf search_checks room_checks
  last_search h =
      let p = append_none (end_checks nodes source sink) _ h in
      let short = p.1.0 in
      let room : length limits < edges → ⊥ = λ l. short (inl l) in
      (none_append (end_checks nodes source sink) _ p.0 ((λ s. short (inr s)), tt), omega (arith, room))
