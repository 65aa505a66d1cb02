-- Solve: its ways out as verdicts of its whole list of checks; its ends as the solver takes them; and what the solver decided, of the slice lent.
use mathlib.Core.Path.{◌≡◌, refl, subst}
use mathlib.Core.Logic.{inl}
use mathlib.Core.Bool.{Bool, true, false}
use mathlib.Core.List.{List, ◌++◌}
use Prim.Native.Nat.{ℕ, ◌-◌}
use lib.ListN.{length, take, drop}
use lib.IntN.{ℤ}
use Rattle.refusals.specs.Order.{Check, NoneOf, FirstOf, Judged}
use Rattle.std.specs.Prelude.{Result}
use Rattle.refusals.specs.declared.Refusal.{Refusal}
use Rattle.refusals.proofs.Order.{none_append, first_left, first_right}
use Rattle.maps.specs.Map.{Map}
use Rattle.balance.proofs.Parts.{part_kept, part_filled}
use Rattle.solver.specs.inner.Ends.{Ends}
use Rattle.solver.specs.inner.Decision.{Decided}
use Rattle.questions.specs.Question.{end_checks, ValueOutside, value_checks, room_checks}
use Rattle.questions.specs.Solve.{question_checks}
use Rattle.questions.proofs.Asked.{ends_in, ends_differ, room_flows}

-- ── the ways out ──
module _ (nodes edges source sink : ℕ) (value : ℤ) (flows : List ℤ) (set : List ℕ) where
  abbrev ends : List Check
  ends = end_checks nodes source sink

  abbrev asked : List Check
  asked = value_checks value

  abbrev room : List Check
  room = room_checks nodes edges (length flows) (length set)

  pub solve_ends : (k p : ℕ) → FirstOf ends k p → FirstOf (question_checks nodes edges source sink value flows set) k p
  unfolding question_checks
  solve_ends k p h = first_left ends (asked ++ room) k p h

  module _ (two : NoneOf ends) where
    rest : (k p : ℕ) → FirstOf (asked ++ room) k p → FirstOf (question_checks nodes edges source sink value flows set) k p
    unfolding question_checks
    rest k p h = first_right ends (asked ++ room) k p two h

    pub solve_value : ValueOutside value → FirstOf (question_checks nodes edges source sink value flows set) 15 0
    unfolding FirstOf value_checks
    solve_value out = rest 15 0 (first_left asked room 15 0 (inl (out, refl, refl)))

    module _ (inside : NoneOf asked) where
      pub solve_room : (k p : ℕ) → FirstOf room k p → FirstOf (question_checks nodes edges source sink value flows set) k p
      solve_room k p h = rest k p (first_right asked room k p inside h)

      pub solve_none : NoneOf room → NoneOf (question_checks nodes edges source sink value flows set)
      unfolding question_checks
      solve_none h = none_append ends (asked ++ room) two (none_append asked room inside h)

pub value_inside : (value : ℤ) → (ValueOutside value → ⊥) → NoneOf (value_checks value)
unfolding NoneOf value_checks
value_inside value inside = (inside, tt)

-- ── the ends ──
-- at the width of an index
pub ends_as : {a b source sink : ℕ} → a ≡ source → b ≡ sink → (nodes : ℕ) (v : Result Unit Refusal) → Judged (end_checks nodes a b) v
    → Judged (end_checks nodes source sink) v
ends_as p q nodes v j = rw (← p, ← q) j

-- as the solver takes them
pub ends_for : (𝓜 : Map) (source sink : ℕ) → NoneOf (end_checks 𝓜.nodes source sink) → Ends 𝓜 source sink
ends_for 𝓜 source sink two =
    let r = ends_in 𝓜.nodes source sink two in
    record { source_in = r.0; sink_in = r.1; two = ends_differ 𝓜.nodes source sink two }

-- ── the flows are lent from the front of a slice: what was decided of that part is decided of the slice ──
pub decided_back : (𝓜 : Map) (outer : ℕ) (c : ℕ → ℤ) (s t : ℕ) (value : ℤ) (flows y : List ℤ) (inside : List ℕ) {r answer : Bool} → r ≡ answer
    → Decided 𝓜 outer c s t value (take (𝓜.edges - 0) flows) y inside r → Decided 𝓜 outer c s t value flows (y ++ drop (𝓜.edges - 0) flows) inside answer
decided_back 𝓜 outer c s t value flows y inside {r} {answer} same d =
    go answer (subst (Decided 𝓜 outer c s t value (take (𝓜.edges - 0) flows) y inside) same d)
  where
    go : (b : Bool) → Decided 𝓜 outer c s t value (take (𝓜.edges - 0) flows) y inside b
        → Decided 𝓜 outer c s t value flows (y ++ drop (𝓜.edges - 0) flows) inside b
    go true d = (d.0, d.1, part_filled 𝓜.edges flows d.0 y d.2)
    go false d = (part_kept 𝓜.edges flows y d.0, d.1)

-- what Solve stands on
pub ruleset solve_steps = (solve_ends, solve_value, solve_room, value_inside, room_flows)
