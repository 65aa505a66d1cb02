-- Demand 3, of Solve and Largest: "For every accepted flat drawing and question: "cannot" exactly when no whole-number settings carry the delivery,
-- with a set of nodes that proves it; the largest delivery is carried by the settings given, nothing greater can be, and its set proves the next one
-- impossible; "none" exactly when nothing at all can be delivered, with a set that proves it." Everything here follows from the contracts, `Solves` and
-- `FindsLargest`, and from nothing else; a sheet that is accepted is flat, because 12 is among its checks. Settings are any function from
-- edges to whole numbers, deliveries any whole number: no bound is assumed of them.
use mathlib.Core.Path.{◌≡◌, refl, sym, subst}
use mathlib.Core.Logic.{◌≢◌}
use mathlib.Core.List.{List}
use Prim.Native.Nat.{ℕ, ◌<◌}
use lib.IntN.{ℤ, pos, ◌+ℤ◌}
use lib.Signed.{◌≤ℤ◌}
use Rattle.std.specs.Prelude.{Option, Some, None, Result, Ok, Err}
use Rattle.integers.specs.inner.Limited.{Limited}
use Rattle.refusals.specs.Order.{NoneOf}
use Rattle.refusals.proofs.Order.{first_none}
use Rattle.refusals.specs.declared.Refusal.{Refusal}
use Rattle.flows.specs.Highest.{Highest}
use Rattle.flows.specs.ProvingSet.{Proves, member, size}
use Rattle.flows.proofs.Agreement.{highest_agrees}
use Rattle.flows.proofs.ValueBound.{value_small}
use Rattle.records.specs.Sheet.{nodes_of, edges_of, capacity_of, outer_of, sheet_map, sheet_drawing}
use Rattle.arrays.specs.At.{atℤ}
use Rattle.questions.specs.Question.{SetWritten}
use Rattle.analyser.specs.Solve.{solve_checks, Solves}
use Rattle.questions.specs.declared.Solution.{Solution}
use Rattle.questions.specs.declared.Solution.TheVariants.{Can, Cannot}
use Rattle.analyser.specs.Largest.{largest_checks, FindsLargest}
use Rattle.questions.proofs.Asked.{ends_in, ends_differ}
use Rattle.analyser.specs.Statements.{Delivers}
use Rattle.analyser.proofs.SheetPlane.{plane, capacity_small}
use Rattle.arrays.proofs.FillLoops.{filled_front}
use Rattle.sheets.proofs.Accepted.{sheet_counts}
use Rattle.analyser.proofs.Accepted.{accepted, Sought, sought}
use Rattle.analyser.proofs.Asked.{excludes, one_highest}
use Rattle.analyser.proofs.OnDrawing as on

-- a proving set excludes every settings, whoever gives it
pub set_excludes : (s : List ℕ) (source sink : ℕ) (value : ℤ) (flows : List ℤ) (set : List ℕ) → NoneOf (solve_checks s source sink value flows set)
    → (words : List ℕ) → Proves (sheet_map s) (capacity_of s) source sink value (member words) → (x : ℕ → ℤ) → Delivers s source sink value x → ⊥
set_excludes s source sink value flows set h words p x carries =
    let a = accepted s source sink value flows set h in
    excludes s a.sheet source sink a.ends_two value (member words) p x carries

module _ (s : List ℕ) (source sink : ℕ) (value : ℤ) (flows flows' : List ℤ) (set set' : List ℕ)
    (asked : NoneOf (solve_checks s source sink value flows set)) where
  -- ── an accepted question is answered ──
  pub never_refused : (r : Refusal) → Solves s source sink value flows flows' set set' (Err r) → ⊥
  never_refused r h = first_none (solve_checks s source sink value flows set) r.number r.place h.0 asked

  -- ── "can": the settings given carry the delivery; they are the highest answer, and there is one ──
  pub can_highest : Solves s source sink value flows flows' set set' (Ok Can)
      → Highest (sheet_map s) (outer_of s) (capacity_of s) source sink value (atℤ flows')
  can_highest h =
      let x = h.1.0 in
      highest_agrees (sheet_map s) x (atℤ flows') (λ e l. sym (filled_front (pos 0) (edges_of s) x flows flows' h.1.2 e l)) h.1.1

  pub can_carries : Solves s source sink value flows flows' set set' (Ok Can) → Delivers s source sink value (atℤ flows')
  can_carries h = (can_highest h).carries

  pub can_only : Solves s source sink value flows flows' set set' (Ok Can) → (y : ℕ → ℤ)
      → Highest (sheet_map s) (outer_of s) (capacity_of s) source sink value y → (e : ℕ) → e < edges_of s → atℤ flows' e ≡ y e
  can_only h y highest =
      let a = accepted s source sink value flows set asked in
      one_highest s a.sheet source sink a.ends_two value (atℤ flows') y (can_highest h) highest

  -- ── "cannot": the set given proves it, its size is the number of ones, and nothing carries the delivery ──
  pub cannot_proves : (n : ℕ) → Solves s source sink value flows flows' set set' (Ok (Cannot n))
      → (words : List ℕ) × SetWritten (nodes_of s) words set set' × Proves (sheet_map s) (capacity_of s) source sink value (member words) × (n ≡ size words)
  cannot_proves n h = h.1

  pub cannot_none : (n : ℕ) → Solves s source sink value flows flows' set set' (Ok (Cannot n)) → (x : ℕ → ℤ) → Delivers s source sink value x → ⊥
  cannot_none n h = set_excludes s source sink value flows set asked h.1.0 h.1.2

  -- ── exactly when ──
  module _ (answer : Result Solution Refusal) (solved : Solves s source sink value flows flows' set set' answer) where
    -- "can" exactly when some settings carry the delivery
    pub can_exactly : (answer ≡ Ok Can → (x : ℕ → ℤ) × Delivers s source sink value x) × ((x : ℕ → ℤ) → Delivers s source sink value x → answer ≡ Ok Can)
    can_exactly = ((λ e. (atℤ flows', can_carries (subst (Solves s source sink value flows flows' set set') e solved))), (λ x d. by answer solved x d))
      where
        by : (a : Result Solution Refusal) → Solves s source sink value flows flows' set set' a → (x : ℕ → ℤ) → Delivers s source sink value x → a ≡ Ok Can
        by (Ok Can) h x d = refl
        by (Ok (Cannot n)) h x d = absurd (cannot_none n h x d)
        by (Err r) h x d = absurd (never_refused r h)

    -- "cannot" exactly when no settings do
    pub cannot_exactly : ((n : ℕ) → answer ≡ Ok (Cannot n) → (x : ℕ → ℤ) → Delivers s source sink value x → ⊥)
        × (((x : ℕ → ℤ) → Delivers s source sink value x → ⊥) → (n : ℕ) × (answer ≡ Ok (Cannot n)))
    cannot_exactly = ((λ n e. cannot_none n (subst (Solves s source sink value flows flows' set set') e solved)), (λ none. by answer solved none))
      where
        by : (a : Result Solution Refusal) → Solves s source sink value flows flows' set set' a
            → ((x : ℕ → ℤ) → Delivers s source sink value x → ⊥) → (n : ℕ) × (a ≡ Ok (Cannot n))
        by (Ok Can) h none = absurd (none (atℤ flows') (can_carries h))
        by (Ok (Cannot n)) h none = (n, refl)
        by (Err r) h none = absurd (never_refused r h)

-- ── Largest, by what holds on any plane drawing ──
module _ (s : List ℕ) (source sink : ℕ) (flows flows' : List ℤ) (set set' : List ℕ) (asked : NoneOf (largest_checks s source sink flows set)) where
  known : Sought s source sink flows set
  known = sought s source sink flows set asked

  ends : (source < nodes_of s) × (sink < nodes_of s)
  ends = ends_in (nodes_of s) source sink known.ends_two

  apart : source ≢ sink
  apart = ends_differ (nodes_of s) source sink known.ends_two

  pub largest_answered : (r : Refusal) → FindsLargest s source sink flows flows' set set' (Err r) → ⊥
  largest_answered r h = first_none (largest_checks s source sink flows set) r.number r.place h.0 asked

  -- ── the largest delivery is carried by the settings given, the highest answer, of which there is one ──
  module _ (v : ℤ) (h : FindsLargest s source sink flows flows' set set' (Ok (Some v))) where
    pub largest_highest : Highest (sheet_map s) (outer_of s) (capacity_of s) source sink v (atℤ flows')
    largest_highest =
        on.largest_highest (sheet_drawing s) (plane s known.sheet) source sink known.ends_two
        (largest_checks s source sink flows set) flows flows' set set' v h

    pub largest_carries : Delivers s source sink v (atℤ flows')
    largest_carries = largest_highest.carries

    pub largest_only : (y : ℕ → ℤ) → Highest (sheet_map s) (outer_of s) (capacity_of s) source sink v y → (i : ℕ) → i < edges_of s → atℤ flows' i ≡ y i
    largest_only y = one_highest s known.sheet source sink known.ends_two v (atℤ flows') y largest_highest

    -- ── its set proves the next one impossible ──
    pub next_impossible : (words : List ℕ) × SetWritten (nodes_of s) words set set' × Proves (sheet_map s) (capacity_of s) source sink (v +ℤ pos 1)
        (member words)
    next_impossible = h.2

    -- ── nothing greater can be delivered ──
    pub nothing_greater : (w : ℤ) (x : ℕ → ℤ) → Delivers s source sink w x → w ≤ℤ v
    nothing_greater =
        on.nothing_greater (sheet_drawing s) (plane s known.sheet) source sink known.ends_two
        (largest_checks s source sink flows set) flows flows' set set' v h

    -- it lies within ±512,000,000
    pub largest_small : Limited 512000000 v
    largest_small =
        value_small (plane s known.sheet).sound.range ends.0 ends.1 apart (capacity_of s)
        (sheet_counts s known.sheet).3 (λ d l. (capacity_small s known.sheet d l).high) v (atℤ flows') largest_carries

  -- ── "none": the set given proves each delivery impossible, of every whole number ──
  module _ (h : FindsLargest s source sink flows flows' set set' (Ok None)) where
    pub none_proves : (value : ℤ) → Proves (sheet_map s) (capacity_of s) source sink value (member h.2.0)
    none_proves =
        on.none_proves (sheet_drawing s) (plane s known.sheet) source sink known.ends_two (largest_checks s source sink flows set) flows flows' set set' h

    pub none_delivered : (value : ℤ) (x : ℕ → ℤ) → Delivers s source sink value x → ⊥
    none_delivered =
        on.none_delivered (sheet_drawing s) (plane s known.sheet) source sink known.ends_two
        (largest_checks s source sink flows set) flows flows' set set' h

  -- ── exactly when ──
  module _ (answer : Result (Option ℤ) Refusal) (found : FindsLargest s source sink flows flows' set set' answer) where
    pub none_exactly : (answer ≡ Ok None → (value : ℤ) (x : ℕ → ℤ) → Delivers s source sink value x → ⊥)
        × (((value : ℤ) (x : ℕ → ℤ) → Delivers s source sink value x → ⊥) → answer ≡ Ok None)
    none_exactly =
        on.none_exactly (sheet_drawing s) (plane s known.sheet) source sink known.ends_two (largest_checks s source sink flows set) flows flows' set set'
        asked answer found

    -- a value is given exactly when something can be delivered
    pub value_exactly : ((v : ℤ) → answer ≡ Ok (Some v) → Delivers s source sink v (atℤ flows'))
        × ((value : ℤ) (x : ℕ → ℤ) → Delivers s source sink value x → (v : ℤ) × (answer ≡ Ok (Some v)))
    value_exactly =
        on.value_exactly (sheet_drawing s) (plane s known.sheet) source sink known.ends_two (largest_checks s source sink flows set) flows flows' set set'
        asked answer found
