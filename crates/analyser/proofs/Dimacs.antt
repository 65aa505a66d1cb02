-- The DIMACS text (document 02, Job 2), from the contract `WritesDimacs` alone: the bytes written are the text, which reads back as the drawing's problem,
-- whose greatest flow is the largest value that settings carry; and that is what Largest reports. Where no limit is below zero, settings of zero carry 0, so
-- Largest is never none.
use mathlib.Core.Path.{◌≡◌, refl, sym, ◌∙◌, ap, subst}
use mathlib.Core.Logic.{◌≢◌}
use mathlib.Core.List.{List}
use Prim.Native.Nat.{ℕ, ◌≤◌, ◌<◌}
use native.Mathlib.Omega.{arith}
use lib.ListN.{take, drop}
use lib.Seq.{take_at}
use lib.IntN.{ℤ, pos, negsuc}
use lib.Signed.{◌≤ℤ◌}
use Rattle.std.specs.Prelude.{Option, Some, None, Result, Ok, Err}
use Rattle.integers.proofs.Omega.{parts, from_at_most}
use Rattle.refusals.specs.Order.{NoneOf}
use Rattle.refusals.proofs.Order.{append_none}
use Rattle.refusals.specs.declared.Refusal.{Refusal}
use Rattle.maps.specs.Map.{darts}
use Rattle.flows.specs.ProvingSet.{member}
use Rattle.arrays.specs.At.{atℤ}
use Rattle.records.specs.Sheet.{nodes_of, capacity_of, sheet_map, sheet_drawing}
use Rattle.sheets.specs.Open.{sheet_checks}
use Rattle.sheets.proofs.Accepted.{sheet_counts}
use Rattle.questions.specs.Question.{end_checks}
use Rattle.questions.proofs.Asked.{ends_in, ends_differ}
use Rattle.dimacs.specs.Problem.{WellPosed, Greatest, NoneGreaterInParts}
use Rattle.dimacs.specs.Reading.{problem_of}
use Rattle.dimacs.specs.Text.{natural, dimacs_text}
use Rattle.dimacs.specs.Drawn.{drawn_problem}
use Rattle.dimacs.specs.Write.{BelowZero, text_of}
use Rattle.dimacs.proofs.Settling.{NotBelowZero}
use Rattle.dimacs.proofs.Largest.{zero_carries}
use Rattle.dimacs.proofs.ReadBack as text
use Rattle.dimacs.proofs.Greatest as greatest
use Rattle.dimacs.proofs.Posed.{posed}
use Rattle.dimacs.proofs.Length.{text_short}
use Rattle.dimacs.proofs.Writing.{text_known}
use Rattle.analyser.specs.Largest.{largest_checks, FindsLargest}
use Rattle.analyser.specs.Dimacs.{dimacs_checks, WritesDimacs}
use Rattle.analyser.specs.Statements.{DimacsTexts}
use Rattle.analyser.proofs.SheetPlane.{plane, capacity_small}
use Rattle.analyser.proofs.Demand3 as demand

natural_small : (c : ℤ) → c ≤ℤ pos 1000000 → natural c ≤ 1000000
unfolding natural
natural_small (pos n) h = omega (arith, from_at_most h (search parts))
natural_small (negsuc n) h = omega arith

module _ (s : List ℕ) (source sink : ℕ) (out out' : List ℕ) (n : ℕ) (w : WritesDimacs s source sink out out' (Ok n)) where
  -- ── what a written sheet is known of ──
  apart : NoneOf (sheet_checks s) × (NoneOf (end_checks (nodes_of s) source sink) × (BelowZero (darts (sheet_map s)) (capacity_of s) → ⊥))
  unfolding dimacs_checks
  apart = let a = append_none (sheet_checks s) _ w.0 in (a.0, text_known (sheet_drawing s) source sink out a.1)

  good : NotBelowZero (sheet_map s) (capacity_of s)
  good = greatest.not_below_zero (sheet_map s) (capacity_of s) apart.1.1

  ends : (source < nodes_of s) × (sink < nodes_of s)
  ends = ends_in (nodes_of s) source sink apart.1.0

  differ : source ≢ sink
  differ = ends_differ (nodes_of s) source sink apart.1.0

  -- ── the bytes are the text ──
  bytes : take n out' ≡ dimacs_text (sheet_map s) (capacity_of s) source sink
  bytes = ap (take n) w.2 ∙ take_at (text_of (sheet_drawing s) source sink) (drop n out) n (sym w.1)

  pub reads_back : problem_of (take n out') ≡ drawn_problem (sheet_map s) (capacity_of s) source sink
  reads_back = ap problem_of bytes ∙ text.reads_back (sheet_map s) (capacity_of s) source sink

  pub well_posed : WellPosed (problem_of (take n out'))
  well_posed =
      subst WellPosed (sym reads_back) (posed (sheet_map s) (capacity_of s) source sink (plane s apart.0).sound.range ends.0 ends.1 differ)

  pub longest : n ≤ 18463
  longest =
      let k = sheet_counts s apart.0 in
      omega (
        arith,
        w.1,
        text_short (sheet_map s) (capacity_of s) source sink (plane s apart.0).sound.range (omega (arith, k.1)) k.3 ends.0 ends.1
            (λ d l. natural_small (capacity_of s d) (capacity_small s apart.0 d l).high),
      )

  -- ── beside Largest ──
  module _ (flows flows' : List ℤ) (set set' : List ℕ) where
    abbrev Found : Result (Option ℤ) Refusal → Type 0
    Found = FindsLargest s source sink flows flows' set set'

    pub value_greatest : (v : ℤ) → Found (Ok (Some v)) → Greatest (problem_of (take n out')) v
    value_greatest v h =
        subst (λ t. Greatest (problem_of t) v) (sym bytes)
        ((greatest.greatest_is_largest (sheet_map s) (capacity_of s) source sink good v).0 (
          (atℤ flows', demand.largest_carries s source sink flows flows' set set' h.0 v h),
          demand.nothing_greater s source sink flows flows' set set' h.0 v h,
        ))

    pub none_greater_in_parts : (v : ℤ) → Found (Ok (Some v)) → (k : ℕ) → NoneGreaterInParts k (problem_of (take n out')) v
    none_greater_in_parts v h k =
        subst (λ t. NoneGreaterInParts k (problem_of t) v) (sym bytes)
        (greatest.none_greater_in_parts (sheet_map s) (capacity_of s) source sink good (plane s apart.0).sound.range ends.0 ends.1 differ
        v h.1.0 h.1.1.carries (member h.2.0) h.2.2 k)

    module _ (asked : NoneOf (largest_checks s source sink flows set)) where
      pub never_none : (answer : Result (Option ℤ) Refusal) → Found answer → (v : ℤ) × (answer ≡ Ok (Some v))
      never_none (Ok (Some v)) h = (v, refl)
      never_none (Ok None) h =
          absurd (demand.none_delivered s source sink flows flows' set set' asked h (pos 0) (λ e. pos 0)
          (zero_carries (sheet_map s) (capacity_of s) source sink good))
      never_none (Err r) h = absurd (demand.largest_answered s source sink flows flows' set set' asked r h)

      pub greatest_is_largest : (answer : Result (Option ℤ) Refusal) → Found answer → (v : ℤ)
          → (Greatest (problem_of (take n out')) v → answer ≡ Ok (Some v)) × (answer ≡ Ok (Some v) → Greatest (problem_of (take n out')) v)
      greatest_is_largest answer h v = (
        (λ g.
            let a = never_none answer h in
            a.1 ∙ ap (λ v. Ok (Some v)) (greatest.greatest_unique (problem_of (take n out')) a.0 v (value_greatest a.0 (subst Found a.1 h)) g)),
        (λ e. value_greatest v (subst Found e h)),
      )

-- ── all ──
pub dimacs_texts : DimacsTexts
dimacs_texts = record {
  reads_back = reads_back;
  well_posed = well_posed;
  greatest_is_largest = λ s source sink out out' n w flows flows' set set' answer asked h.
      greatest_is_largest s source sink out out' n w flows flows' set set' asked answer h;
  never_none = λ s source sink out out' n w flows flows' set set' answer asked h. never_none s source sink out out' n w flows flows' set set' asked answer h;
  none_greater_in_parts = λ s source sink out out' n w flows flows' set set' v h.
      none_greater_in_parts s source sink out out' n w flows flows' set set' v h;
  longest = longest;
}
