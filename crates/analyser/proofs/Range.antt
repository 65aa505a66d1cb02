-- The least and the largest value (document 02, Job 4), from the contract `FindsRange` alone. Such an answer
-- is one of Largest, and with the ends exchanged one of Largest again: what is proved of Largest holds at both
-- ends. What lies between is carried by the potentials of the two flows, weighed (flows/proofs/Between.antt).
use mathlib.Core.Path.{◌≡◌, refl, sym, ap, subst}
use mathlib.Core.Logic.{◌≢◌}
use mathlib.Core.List.{List}
use Prim.Native.Nat.{ℕ, ◌<◌}
use native.Mathlib.Omega.{arith}
use lib.IntN.{ℤ, pos, neg_ℤ, ◌+ℤ◌, ◌-ℤ◌}
use lib.Signed.{◌≤ℤ◌}
use Rattle.std.specs.Prelude.{Option, Some, None, Result, Ok, Err}
use Rattle.integers.proofs.Omega.{atoms₁, atoms₂, parts, equal, at_most, from_at_most}
use Rattle.integers.proofs.Laws.{le_antisym}
use Rattle.refusals.specs.Order.{NoneOf}
use Rattle.refusals.proofs.Order.{append_none, first_none}
use Rattle.refusals.specs.declared.Refusal.{Refusal}
use Rattle.flows.specs.ProvingSet.{Proves, member}
use Rattle.flows.proofs.Agreement.{highest_agrees}
use Rattle.flows.proofs.Interval.{beside_proves}
use Rattle.flows.proofs.Between.{between}
use Rattle.flows.proofs.Swapped.{carries_back, highest_back, proves_back}
use Rattle.arrays.specs.At.{atℤ}
use Rattle.arrays.proofs.FillLoops.{filled_front}
use Rattle.records.specs.Sheet.{nodes_of, edges_of, capacity_of, outer_of, sheet_map}
use Rattle.sheets.specs.Open.{sheet_checks}
use Rattle.questions.specs.Question.{end_checks}
use Rattle.questions.specs.Question.{end_checks}
use Rattle.questions.proofs.Asked.{ends_in, ends_differ}
use Rattle.ranges.specs.Range.{span_checks}
use Rattle.ranges.specs.declared.Range.{Range}
use Rattle.ranges.proofs.Exchanged.{ends_exchanged}
use Rattle.ranges.proofs.Ranging as ranging
use Rattle.analyser.specs.Largest.{largest_checks, FindsLargest}
use Rattle.analyser.specs.Range.{range_checks, FindsRange}
use Rattle.analyser.specs.Statements.{Delivers, HighestFor, Possible, Impossible, LeastAndLargest}
use Rattle.analyser.proofs.SheetPlane.{plane, outer_in}
use Rattle.analyser.proofs.Accepted.{largest_none}
use Rattle.analyser.proofs.Demand3 as demand

module _ (s : List ℕ) (source sink : ℕ) (low low' : List ℤ) (below below' : List ℕ) (high high' : List ℤ) (above above' : List ℕ) where
  abbrev Found : Result (Option Range) Refusal → Type 0
  Found = FindsRange s source sink low low' below below' high high' above above'

  module _ (asked : NoneOf (range_checks s source sink low below high above)) where
    -- ── what an accepted question is known of ──
    apart : NoneOf (sheet_checks s) × NoneOf (span_checks (nodes_of s) (edges_of s) source sink low below high above)
    unfolding range_checks
    apart = append_none (sheet_checks s) _ asked

    span : ranging.Spanned (nodes_of s) (edges_of s) source sink low below high above
    span = ranging.spanned (nodes_of s) (edges_of s) source sink low below high above apart.1

    ends : (source < nodes_of s) × (sink < nodes_of s)
    ends = ends_in (nodes_of s) source sink span.ends_two

    differ : source ≢ sink
    differ = ends_differ (nodes_of s) source sink span.ends_two

    pub range_accepted : NoneOf (sheet_checks s) × NoneOf (end_checks (nodes_of s) source sink)
    range_accepted = (apart.0, span.ends_two)

    -- ── Largest is accepted there and back ──
    asked_there : NoneOf (largest_checks s source sink high above)
    asked_there = largest_none s source sink high above (record { sheet = apart.0; ends_two = span.ends_two; has_room = span.high_room })

    asked_back : NoneOf (largest_checks s sink source low below)
    asked_back =
        largest_none s sink source low below
        (record { sheet = apart.0; ends_two = ends_exchanged (nodes_of s) source sink span.ends_two; has_room = span.low_room })

    answered : (r : Refusal) → Found (Err r) → ⊥
    answered r h = first_none (range_checks s source sink low below high above) r.number r.place h.0 asked

    -- ── two values: an answer of Largest at either end ──
    module _ (r : Range) (h : Found (Ok (Some r))) where
      there : FindsLargest s source sink high high' above above' (Ok (Some r.largest))
      there = (asked_there, h.3, h.4)

      back : FindsLargest s sink source low low' below below' (Ok (Some (neg_ℤ r.least)))
      back = (
        asked_back,
        (h.1.0, highest_back (plane s apart.0).sound.range ends.0 ends.1 differ h.1.1, h.1.2),
        (
          h.2.0,
          h.2.1,
          subst (λ z. Proves (sheet_map s) (capacity_of s) sink source z (member h.2.0)) next
              (proves_back (sheet_map s) (capacity_of s) sink source (r.least -ℤ pos 1) (member h.2.0) h.2.2),
        ),
      )
        where
          next : neg_ℤ (r.least -ℤ pos 1) ≡ neg_ℤ r.least +ℤ pos 1
          next = let a = atoms₁ r.least in equal (search parts) (omega arith)

      pub least_highest : HighestFor s source sink r.least (atℤ low')
      least_highest =
          highest_agrees (sheet_map s) h.1.0 (atℤ low')
          (λ e l. sym (filled_front (pos 0) (edges_of s) h.1.0 low low' h.1.2 e l)) h.1.1

      pub largest_highest : HighestFor s source sink r.largest (atℤ high')
      largest_highest = demand.largest_highest s source sink high high' above above' asked_there r.largest there

      pub least_carries : Delivers s source sink r.least (atℤ low')
      least_carries = least_highest.carries

      pub largest_carries : Delivers s source sink r.largest (atℤ high')
      largest_carries = largest_highest.carries

      pub nothing_greater : (value : ℤ) (x : ℕ → ℤ) → Delivers s source sink value x → value ≤ℤ r.largest
      nothing_greater = demand.nothing_greater s source sink high high' above above' asked_there r.largest there

      pub nothing_less : (value : ℤ) (x : ℕ → ℤ) → Delivers s source sink value x → r.least ≤ℤ value
      nothing_less value x d =
          let l = demand.nothing_greater s sink source low low' below below' asked_back (neg_ℤ r.least) back (neg_ℤ value) x
          (carries_back (plane s apart.0).sound.range ends.0 ends.1 differ x d) in
          let a = atoms₂ r.least value in at_most (search parts) (omega (arith, from_at_most l (search parts)))

      pub between_exactly : (value : ℤ)
          → (Possible s source sink value → (r.least ≤ℤ value) × (value ≤ℤ r.largest))
          × ((r.least ≤ℤ value) × (value ≤ℤ r.largest) → Possible s source sink value)
      between_exactly value = (
        (λ p. (nothing_less value p.0 p.1, nothing_greater value p.0 p.1)),
        (λ l.
            between (plane s apart.0) ends.0 ends.1 differ (outer_of s) (outer_in s apart.0) (capacity_of s) r.least value r.largest l.0 l.1
            (atℤ low') (atℤ high') least_carries largest_carries),
      )

    -- ── none: an answer of Largest too ──
    there_none : Found (Ok None) → FindsLargest s source sink high high' above above' (Ok None)
    there_none h = (asked_there, h.2, (h.3.0, h.3.2, h.3.3))

    pub none_delivered : Found (Ok None) → (value : ℤ) → Impossible s source sink value
    none_delivered h = demand.none_delivered s source sink high high' above above' asked_there (there_none h)

    pub none_exactly : (answer : Result (Option Range) Refusal) → Found answer
        → (answer ≡ Ok None → (value : ℤ) → Impossible s source sink value) × (((value : ℤ) → Impossible s source sink value) → answer ≡ Ok None)
    none_exactly answer found = ((λ e. none_delivered (subst Found e found)), by answer found)
      where
        by : (r : Result (Option Range) Refusal) → Found r → ((value : ℤ) → Impossible s source sink value) → r ≡ Ok None
        by (Ok (Some r)) h nothing = absurd (nothing r.largest (atℤ high') (largest_carries r h))
        by (Ok None) h nothing = refl
        by (Err r) h nothing = absurd (answered r h)

  -- ── beside Largest, with slices of its own ──
  module _ (flows flows' : List ℤ) (set set' : List ℕ) (asked : NoneOf (largest_checks s source sink flows set)) where
    pub same_largest : (r : Range) → Found (Ok (Some r)) → (answer : Result (Option ℤ) Refusal) → FindsLargest s source sink flows flows' set set' answer
        → answer ≡ Ok (Some r.largest)
    same_largest r h (Ok (Some z)) l =
        ap (λ v. Ok (Some v)) (le_antisym
        (nothing_greater h.0 r h z (atℤ flows') (demand.largest_carries s source sink flows flows' set set' asked z l))
        (demand.nothing_greater s source sink flows flows' set set' asked z l r.largest (atℤ high') (largest_carries h.0 r h)))
    same_largest r h (Ok None) l =
        absurd (demand.none_delivered s source sink flows flows' set set' asked l r.largest (atℤ high') (largest_carries h.0 r h))
    same_largest r h (Err q) l = absurd (demand.largest_answered s source sink flows flows' set set' asked q l)

    pub same_none : (answer : Result (Option Range) Refusal) → NoneOf (range_checks s source sink low below high above) → Found answer
        → (other : Result (Option ℤ) Refusal) → FindsLargest s source sink flows flows' set set' other
        → (other ≡ Ok None → answer ≡ Ok None) × (answer ≡ Ok None → other ≡ Ok None)
    same_none answer spanned found other sought =
        let a = none_exactly spanned answer found in
        let b = demand.none_exactly s source sink flows flows' set set' asked other sought in
        ((λ e. a.1 (b.0 e)), (λ e. b.1 (a.0 e)))

-- ── all ──
pub least_and_largest : LeastAndLargest
least_and_largest = record {
  least_carries = λ s source sink low low' below below' high high' above above' r h.
      least_carries s source sink low low' below below' high high' above above' h.0 r h;
  largest_carries = λ s source sink low low' below below' high high' above above' r h.
      largest_carries s source sink low low' below below' high high' above above' h.0 r h;
  least_highest = λ s source sink low low' below below' high high' above above' r h.
      least_highest s source sink low low' below below' high high' above above' h.0 r h;
  largest_highest = λ s source sink low low' below below' high high' above above' r h.
      largest_highest s source sink low low' below below' high high' above above' h.0 r h;
  next_lower_impossible = λ s source sink low low' below below' high high' above above' r h. h.2;
  next_greater_impossible = λ s source sink low low' below below' high high' above above' r h. h.4;
  between_exactly = λ s source sink low low' below below' high high' above above' r h.
      between_exactly s source sink low low' below below' high high' above above' h.0 r h;
  none_exactly = λ s source sink low low' below below' high high' above above' answer asked h.
      none_exactly s source sink low low' below below' high high' above above' asked answer h;
  none_proves = λ s source sink low low' below below' high high' above above' h.
      (h.3.0, h.3.1, h.3.2, beside_proves (sheet_map s) (capacity_of s) source sink (member h.3.0) h.3.3.0 h.3.3.1);
  same_largest = λ s source sink low low' below below' high high' above above' r h flows flows' set set' answer asked l.
      same_largest s source sink low low' below below' high high' above above' flows flows' set set' asked r h answer l;
  same_none = λ s source sink low low' below below' high high' above above' answer spanned found flows flows' set set' other asked sought.
      same_none s source sink low low' below below' high high' above above' flows flows' set set' asked answer spanned found other sought;
}
