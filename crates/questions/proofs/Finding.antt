-- Largest: its ways out as verdicts of its whole list of checks; and what was found, of the question.
use mathlib.Core.Path.{◌≡◌, sym, subst}
use mathlib.Core.List.{List, ◌++◌}
use Prim.Native.Nat.{ℕ, ◌-◌, ◌≤◌, ◌<◌}
use native.Mathlib.Omega.{arith}
use lib.ListN.{length, take, drop}
use lib.IntN.{ℤ}
use mir.Syntax.{w32}
use mir.Val.{to_z, of_z}
use Rattle.integers.specs.inner.Limited.{Limited}
use Rattle.refusals.specs.Order.{Check, NoneOf, FirstOf}
use Rattle.refusals.proofs.Order.{none_append, first_left, first_right}
use Rattle.signed.proofs.Limits.{same_bits}
use Rattle.maps.specs.Map.{Map, darts}
use Rattle.maps.specs.Cut.{cut}
use Rattle.flows.specs.Highest.{Highest}
use Rattle.flows.proofs.ValueBound.{cut_small}
use Rattle.arrays.specs.inner.Flags.{flagged}
use Rattle.arrays.specs.inner.Sizes.{most_on_sheet}
use Rattle.balance.proofs.Parts.{part_kept, part_filled}
use Rattle.maximum.specs.inner.Maximum.{Maximized}
use Rattle.std.specs.Prelude.{Option, Some, None}
use Rattle.questions.specs.Question.{end_checks, room_checks}
use Rattle.questions.specs.Largest.{search_checks}
use Rattle.questions.proofs.Asked.{room_flows}

-- ── the ways out ──
module _ (nodes edges source sink : ℕ) (flows : List ℤ) (set : List ℕ) where
  abbrev ends : List Check
  ends = end_checks nodes source sink

  abbrev room : List Check
  room = room_checks nodes edges (length flows) (length set)

  pub largest_ends : (k p : ℕ) → FirstOf ends k p → FirstOf (search_checks nodes edges source sink flows set) k p
  unfolding search_checks
  largest_ends k p h = first_left ends room k p h

  module _ (two : NoneOf ends) where
    pub largest_room : (k p : ℕ) → FirstOf room k p → FirstOf (search_checks nodes edges source sink flows set) k p
    unfolding search_checks
    largest_room k p h = first_right ends room k p two h

    pub largest_none : NoneOf room → NoneOf (search_checks nodes edges source sink flows set)
    unfolding search_checks
    largest_none h = none_append ends room two h

-- ── what was found ──
-- the value comes as the number of its bits
pub told_value : (𝓜 : Map) (c : ℕ → ℤ) → 𝓜.edges ≤ 512 → ((d : ℕ) → d < darts 𝓜 → Limited most_on_sheet (c d))
    → (v : ℤ) (inside : List ℕ) → v ≡ cut 𝓜 c (flagged inside) → to_z w32 (of_z w32 v) ≡ v
told_value 𝓜 c few small v inside e = same_bits (omega arith) (subst (Limited 512000000) (sym e) (cut_small 𝓜 c few small (flagged inside)))

pub highest_as : {𝓜 : Map} {outer : ℕ} {c : ℕ → ℤ} {s t : ℕ} {v w : ℤ} {x : ℕ → ℤ} → v ≡ w → Highest 𝓜 outer c s t v x → Highest 𝓜 outer c s t w x
highest_as {𝓜} {outer} {c} {s} {t} {x = x} e h = subst (λ v. Highest 𝓜 outer c s t v x) e h

-- the flows are lent from the front of a slice: what was found with that part is found with the slice
pub maximized_back : (𝓜 : Map) (outer : ℕ) (c : ℕ → ℤ) (s t : ℕ) (flows y : List ℤ) (inside : List ℕ) {r answer : Option ℤ} → r ≡ answer
    → Maximized 𝓜 outer c s t (take (𝓜.edges - 0) flows) y inside r → Maximized 𝓜 outer c s t flows (y ++ drop (𝓜.edges - 0) flows) inside answer
maximized_back 𝓜 outer c s t flows y inside {r} {answer} same m =
    go answer (subst (Maximized 𝓜 outer c s t (take (𝓜.edges - 0) flows) y inside) same m)
  where
    go : (a : Option ℤ) → Maximized 𝓜 outer c s t (take (𝓜.edges - 0) flows) y inside a
        → Maximized 𝓜 outer c s t flows (y ++ drop (𝓜.edges - 0) flows) inside a
    go (Some v) m = ((m.0.0, m.0.1, part_filled 𝓜.edges flows m.0.0 y m.0.2), m.1, m.2)
    go None m = (part_kept 𝓜.edges flows y m.0, m.1, m.2)

-- what Largest stands on
pub ruleset largest_steps = (largest_ends, largest_room, room_flows)
