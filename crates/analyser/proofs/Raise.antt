-- What is said of a raised limit, from the contract: the limit given is the least that serves, none exactly when the greatest does not.
use mathlib.Core.Path.{◌≡◌, refl, sym, ap, subst}
use mathlib.Core.Logic.{◌⊎◌, ◌↔◌, inl, inr}
use mathlib.Core.List.{List}
use Prim.Native.Nat.{ℕ, ◌*◌}
use native.Mathlib.Omega.{arith}
use lib.IntN.{ℤ, pos}
use lib.Signed.{◌≤ℤ◌, ◌<ℤ◌}
use Rattle.std.specs.Prelude.{Option, Some, None, Result, Ok, Err}
use Rattle.integers.proofs.Laws.{le_antisym, lt_or_ge}
use Rattle.refusals.specs.Order.{NoneOf}
use Rattle.refusals.proofs.Order.{append_none, first_none}
use Rattle.refusals.specs.declared.Refusal.{Refusal}
use Rattle.flows.specs.Settings.{Carries}
use Rattle.flows.specs.Highest.{Highest}
use Rattle.flows.specs.ProvingSet.{member}
use Rattle.flows.proofs.Exact.{proves_excludes}
use Rattle.flows.proofs.Agreement.{highest_agrees}
use Rattle.arrays.specs.At.{atℤ}
use Rattle.arrays.proofs.FillLoops.{filled_front}
use Rattle.records.specs.Sheet.{nodes_of, edges_of, capacity_of, outer_of, sheet_map}
use Rattle.sheets.specs.Open.{sheet_checks}
use Rattle.questions.specs.Question.{end_checks}
use Rattle.questions.proofs.Asked.{ends_in, ends_differ}
use Rattle.raising.specs.Raised.{raised}
use Rattle.raising.specs.Raise.{limit_checks}
use Rattle.raising.proofs.Raised.{le_same, raised_more, raised_present}
use Rattle.raising.proofs.Raising.{Weighed, weighed, edge_in}
use Rattle.analyser.specs.Raise.{raise_checks, RaisesLimit}
use Rattle.analyser.specs.Statements.{Delivers, DeliversWith, Possible, PossibleWith, RaisedLimit}
use Rattle.analyser.proofs.SheetPlane.{plane, capacity_small}

module _ (s : List ℕ) (source sink : ℕ) (value : ℤ) (edge : ℕ) where
  greater_admits : (v w : ℤ) (x : ℕ → ℤ) → v ≤ℤ w → DeliversWith s source sink value edge v x → DeliversWith s source sink value edge w x
  greater_admits v w x l h = raised_more (capacity_of s) edge l x h

  present_same : (x : ℕ → ℤ) → DeliversWith s source sink value edge (capacity_of s (2 * edge)) x ↔ Delivers s source sink value x
  present_same x =
      let e = raised_present (capacity_of s) edge in (
        subst (λ c. Carries (sheet_map s) c source sink value x) e,
        subst (λ c. Carries (sheet_map s) c source sink value x) (sym e),
      )

  module _ (flows flows' : List ℤ) (set set' : List ℕ) where
    abbrev Answers : Result (Option ℤ) Refusal → Type 0
    Answers = RaisesLimit s source sink value edge flows flows' set set'

    -- ── a limit ──
    module _ (v : ℤ) (h : Answers (Ok (Some v))) where
      limit_highest : Highest (sheet_map s) (outer_of s) (raised (capacity_of s) edge v) source sink value (atℤ flows')
      limit_highest =
          highest_agrees (sheet_map s) h.3.0 (atℤ flows')
          (λ e l. sym (filled_front (pos 0) (edges_of s) h.3.0 flows flows' h.3.2 e l)) h.3.1

      limit_exactly : (w : ℤ) → capacity_of s (2 * edge) ≤ℤ w → PossibleWith s source sink value edge w ↔ (v ≤ℤ w)
      limit_exactly w from = (
        (λ p. by (lt_or_ge w v) p),
        (λ l. (atℤ flows', greater_admits v w (atℤ flows') l limit_highest.carries)),
      )
        where
          by : (w <ℤ v) ⊎ (v ≤ℤ w) → PossibleWith s source sink value edge w → v ≤ℤ w
          by (inl l) p = absurd (h.4 w from l p.0 p.1)
          by (inr l) p = l

    -- ── what an accepted question is known of ──
    module _ (asked : NoneOf (raise_checks s source sink value edge flows set)) where
      apart : NoneOf (sheet_checks s) × NoneOf (limit_checks (nodes_of s) (edges_of s) source sink value edge flows set)
      unfolding raise_checks
      apart = append_none (sheet_checks s) _ asked

      known : Weighed (nodes_of s) (edges_of s) source sink value edge flows set
      known = weighed (nodes_of s) (edges_of s) source sink value edge flows set apart.1

      pub raise_accepted : NoneOf (sheet_checks s) × NoneOf (end_checks (nodes_of s) source sink)
      raise_accepted = (apart.0, known.ends_two)

      -- the present limit is one of a sheet
      present_most : capacity_of s (2 * edge) ≤ℤ pos 1000000
      present_most = (capacity_small s apart.0 (2 * edge) (omega (arith, edge_in (edges_of s) edge known.is_edge))).high

      most_fails : Answers (Ok None) → PossibleWith s source sink value edge (pos 1000000) → ⊥
      most_fails h p =
          let e = ends_in (nodes_of s) source sink known.ends_two in
          proves_excludes (plane s apart.0).sound.range e.0 e.1 (ends_differ (nodes_of s) source sink known.ends_two)
          (raised (capacity_of s) edge (pos 1000000)) value (member h.2.0) h.2.2 p.0 p.1

      none_exactly : (answer : Result (Option ℤ) Refusal) → Answers answer → (answer ≡ Ok None) ↔ (PossibleWith s source sink value edge (pos 1000000) → ⊥)
      none_exactly answer found = ((λ e. most_fails (subst Answers e found)), by answer found)
        where
          by : (r : Result (Option ℤ) Refusal) → Answers r → (PossibleWith s source sink value edge (pos 1000000) → ⊥) → r ≡ Ok None
          by (Ok (Some v)) h fails = absurd (fails (atℤ flows', greater_admits v (pos 1000000) (atℤ flows') h.2 (limit_highest v h).carries))
          by (Ok None) h fails = refl
          by (Err r) h fails = absurd (first_none (raise_checks s source sink value edge flows set) r.number r.place h.0 asked)

      present_exactly : (answer : Result (Option ℤ) Refusal) → Answers answer → (answer ≡ Ok (Some (capacity_of s (2 * edge)))) ↔ Possible s source sink value
      present_exactly answer found = ((λ e. there (subst Answers e found)), by answer found)
        where
          there : Answers (Ok (Some (capacity_of s (2 * edge)))) → Possible s source sink value
          there h = (atℤ flows', (present_same (atℤ flows')).0 (limit_highest (capacity_of s (2 * edge)) h).carries)

          by : (r : Result (Option ℤ) Refusal) → Answers r → Possible s source sink value → r ≡ Ok (Some (capacity_of s (2 * edge)))
          by (Ok (Some v)) h p =
              ap (λ v. Ok (Some v)) (le_antisym
              ((limit_exactly v h (capacity_of s (2 * edge)) (le_same (capacity_of s (2 * edge)))).0 (p.0, (present_same p.0).1 p.1))
              h.1)
          by (Ok None) h p =
              absurd (most_fails h (p.0, greater_admits (capacity_of s (2 * edge)) (pos 1000000) p.0 present_most ((present_same p.0).1 p.1)))
          by (Err r) h p = absurd (first_none (raise_checks s source sink value edge flows set) r.number r.place h.0 asked)

-- ── all ──
pub raised_limit : RaisedLimit
raised_limit = record {
  greater_admits = greater_admits;
  present_same = present_same;
  limit_in_range = λ s source sink value edge flows flows' set set' v h. (h.1, h.2);
  limit_carries = λ s source sink value edge flows flows' set set' v h. (limit_highest s source sink value edge flows flows' set set' v h).carries;
  limit_highest = limit_highest;
  limit_exactly = limit_exactly;
  present_exactly = λ s source sink value edge flows flows' set set' answer asked h.
      present_exactly s source sink value edge flows flows' set set' asked answer h;
  none_exactly = λ s source sink value edge flows flows' set set' answer asked h. none_exactly s source sink value edge flows flows' set set' asked answer h;
  none_proves = λ s source sink value edge flows flows' set set' h. h.2;
}
