-- Job 13's statements: each "cannot" names a proving set, and what a set excludes it excludes in parts too (flows/proofs/Parts.antt).
use mathlib.Core.Path.{◌≡◌, refl, subst}
use mathlib.Core.Logic.{◌↔◌}
use mathlib.Core.Bool.{Bool}
use mathlib.Core.List.{List}
use Prim.Native.Nat.{ℕ, ◌<◌}
use lib.IntN.{ℤ, pos, ◌+ℤ◌, ◌*ℤ◌}
use lib.Signed.{◌≤ℤ◌}
use Rattle.std.specs.Prelude.{Some, None, Result, Ok, Err}
use Rattle.refusals.specs.Order.{NoneOf}
use Rattle.refusals.proofs.Order.{first_none}
use Rattle.refusals.specs.declared.Refusal.{Refusal}
use Rattle.flows.specs.Settings.{Carries}
use Rattle.flows.specs.Parts.{ExcludedInParts}
use Rattle.flows.specs.ProvingSet.{Proves, member}
use Rattle.flows.proofs.Parts as parts
use Rattle.flows.proofs.Interval.{beside_proves}
use Rattle.arrays.specs.At.{atℤ}
use Rattle.records.specs.Sheet.{nodes_of, capacity_of, sheet_map}
use Rattle.sheets.specs.Open.{sheet_checks}
use Rattle.questions.specs.Question.{end_checks}
use Rattle.questions.specs.declared.Solution.{Solution}
use Rattle.questions.specs.declared.Solution.TheVariants.{Can, Cannot}
use Rattle.questions.proofs.Asked.{ends_in, ends_differ}
use Rattle.raising.specs.Raised.{raised}
use Rattle.analyser.specs.Solve.{solve_checks, Solves}
use Rattle.analyser.specs.Largest.{FindsLargest}
use Rattle.analyser.specs.Drops.{DeliversInParts, NotEvenInDrops, InDrops}
use Rattle.analyser.proofs.SheetPlane.{plane}
use Rattle.analyser.proofs.Accepted.{accepted, sought}
use Rattle.analyser.proofs.Range.{range_accepted}
use Rattle.analyser.proofs.Raise.{raise_accepted}
use Rattle.analyser.proofs.ByThePage.{by_the_page}
use Rattle.analyser.proofs.Demand3 as demand

-- ── a proving set of an accepted sheet with two ends, whatever the capacities ──
module _ (s : List ℕ) (sheet : NoneOf (sheet_checks s)) (source sink : ℕ) (two : NoneOf (end_checks (nodes_of s) source sink)) (c : ℕ → ℤ) where
  pub set_in_drops : (value : ℤ) (S : ℕ → Bool) → Proves (sheet_map s) c source sink value S → ExcludedInParts (sheet_map s) c source sink value
  set_in_drops value S =
      let e = ends_in (nodes_of s) source sink two in
      parts.proves_excluded (plane s sheet).sound.range e.0 e.1 (ends_differ (nodes_of s) source sink two) c value S

  most : (v : ℤ) (x : ℕ → ℤ) → Carries (sheet_map s) c source sink v x → (S : ℕ → Bool) → Proves (sheet_map s) c source sink (v +ℤ pos 1) S
      → (n : ℕ) (w : ℤ) (y : ℕ → ℤ) → Carries (sheet_map s) (λ d. pos n *ℤ c d) source sink w y → w ≤ℤ (pos n *ℤ v)
  most =
      let e = ends_in (nodes_of s) source sink two in
      parts.most_in_parts (plane s sheet).sound.range e.0 e.1 (ends_differ (nodes_of s) source sink two) c

-- ── Solve ──
module _ (s : List ℕ) (source sink : ℕ) (value : ℤ) (flows flows' : List ℤ) (set set' : List ℕ) where
  pub cannot_in_drops : (k : ℕ) → Solves s source sink value flows flows' set set' (Ok (Cannot k)) → NotEvenInDrops s source sink value
  cannot_in_drops k h =
      let a = accepted s source sink value flows set h.0 in
      set_in_drops s a.sheet source sink a.ends_two (capacity_of s) value (member h.1.0) h.1.2

  can_exactly_in_parts : (answer : Result Solution Refusal) → NoneOf (solve_checks s source sink value flows set)
      → Solves s source sink value flows flows' set set' answer → (n : ℕ) → 0 < n → (answer ≡ Ok Can) ↔ ((x : ℕ → ℤ) × DeliversInParts n s source sink value x)
  can_exactly_in_parts answer asked h n some = (there, λ d. by answer h d)
    where
      there : answer ≡ Ok Can → (x : ℕ → ℤ) × DeliversInParts n s source sink value x
      there e =
          let d = (demand.can_exactly s source sink value flows flows' set set' asked answer h).0 e in
          (_, parts.whole_in_parts (sheet_map s) (capacity_of s) source sink value d.0 n some d.1)

      by : (r : Result Solution Refusal) → Solves s source sink value flows flows' set set' r
          → (x : ℕ → ℤ) × DeliversInParts n s source sink value x → r ≡ Ok Can
      by (Ok Can) g d = refl
      by (Ok (Cannot k)) g d = absurd (cannot_in_drops k g n d.0 d.1)
      by (Err r) g d = absurd (first_none (solve_checks s source sink value flows set) r.number r.place g.0 asked)

-- ── Largest ──
module _ (s : List ℕ) (source sink : ℕ) (flows flows' : List ℤ) (set set' : List ℕ) where
  next_greater_in_drops : (v : ℤ) → FindsLargest s source sink flows flows' set set' (Ok (Some v)) → NotEvenInDrops s source sink (v +ℤ pos 1)
  next_greater_in_drops v h =
      let a = sought s source sink flows set h.0 in
      set_in_drops s a.sheet source sink a.ends_two (capacity_of s) (v +ℤ pos 1) (member h.2.0) h.2.2

  nothing_greater_in_parts : (v : ℤ) → FindsLargest s source sink flows flows' set set' (Ok (Some v))
      → (n : ℕ) (w : ℤ) (x : ℕ → ℤ) → Carries (sheet_map s) (λ d. pos n *ℤ capacity_of s d) source sink w x → w ≤ℤ (pos n *ℤ v)
  nothing_greater_in_parts v h =
      let a = sought s source sink flows set h.0 in
      most s a.sheet source sink a.ends_two (capacity_of s) v (atℤ flows')
      (demand.largest_carries s source sink flows flows' set set' h.0 v h) (member h.2.0) h.2.2

  none_in_drops : FindsLargest s source sink flows flows' set set' (Ok None) → (value : ℤ) → NotEvenInDrops s source sink value
  none_in_drops h value =
      let a = sought s source sink flows set h.0 in
      set_in_drops s a.sheet source sink a.ends_two (capacity_of s) value (member h.2.0)
      (demand.none_proves s source sink flows flows' set set' h.0 h value)

-- ── all ──
pub in-drops : InDrops
in-drops = record {
  one_part = λ s source sink value x. parts.one_part (sheet_map s) (capacity_of s) source sink value x;
  cannot_in_drops = cannot_in_drops;
  line_in_drops = λ s count question flows flows' sets sets' page h i l k e.
      cannot_in_drops s (question i).source (question i).sink (question i).value _ _ _ _ k
      (subst (Solves s (question i).source (question i).sink (question i).value _ _ _ _) e
      (by_the_page.line_solves s count question flows flows' sets sets' page h i l));
  can_exactly_in_parts = can_exactly_in_parts;
  next_greater_in_drops = λ s source sink v flows flows' set set' h. next_greater_in_drops s source sink flows flows' set set' v h;
  nothing_greater_in_parts = λ s source sink v flows flows' set set' h. nothing_greater_in_parts s source sink flows flows' set set' v h;
  none_in_drops = none_in_drops;
  range_in_drops = λ s source sink low low' below below' high high' above above' r h.
      let a = range_accepted s source sink low low' below below' high high' above above' h.0 in (
        set_in_drops s a.0 source sink a.1 (capacity_of s) _ (member h.2.0) h.2.2,
        set_in_drops s a.0 source sink a.1 (capacity_of s) _ (member h.4.0) h.4.2,
      );
  range_none_in_drops = λ s source sink low low' below below' high high' above above' h value.
      let a = range_accepted s source sink low low' below below' high high' above above' h.0 in
      set_in_drops s a.0 source sink a.1 (capacity_of s) value (member h.3.0)
      (beside_proves (sheet_map s) (capacity_of s) source sink (member h.3.0) h.3.3.0 h.3.3.1 value);
  raise_in_drops = λ s source sink value edge flows flows' set set' h.
      let a = raise_accepted s source sink value edge flows flows' set set' h.0 in
      set_in_drops s a.0 source sink a.1 (raised (capacity_of s) edge (pos 1000000)) value (member h.2.0) h.2.2;
}
