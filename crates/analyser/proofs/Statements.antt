-- The statements of specs/Statements.antt, proved: those of possible and impossible by proofs/Demand3.antt, those of settings from levels and of there and
-- back by proofs/ThereAndBack.antt; here what Mark accepts, and what becomes levels.
use mathlib.Core.Path.{◌≡◌, refl, sym, ◌∙◌, ap, ap₂, subst}
use mathlib.Core.Logic.{◌⊎◌, inl, inr}
use mathlib.Core.List.{List}
use Prim.Native.Nat.{ℕ, ◌≤◌, ◌<◌}
use native.Mathlib.Omega.{arith}
use lib.ListN.{length}
use lib.IntN.{ℤ, pos, ◌-ℤ◌}
use Rattle.std.specs.Prelude.{Result, Ok, Err}
use Rattle.refusals.specs.Order.{NoneOf}
use Rattle.refusals.proofs.Order.{none_append, first_none}
use Rattle.refusals.specs.declared.Refusal.{Refusal}
use Rattle.maps.specs.Face.{faces, left, right}
use Rattle.maps.proofs.Faces.{left_in, right_in, first_face}
use Rattle.flows.specs.ZeroFace.{LowestElsewhere, ZeroFace}
use Rattle.flows.specs.Check.{within_checks}
use Rattle.arrays.specs.At.{atℤ}
use Rattle.arrays.proofs.FillLoops.{filled_front}
use Rattle.balance.proofs.Within.{within_none}
use Rattle.balance.proofs.Balance.{circulation_none, none_carries, carries_none}
use Rattle.records.specs.Sheet.{nodes_of, edges_of, capacity_of, outer_of, sheet_map, sheet_drawing}
use Rattle.records.proofs.Heads.{kind_one_outer}
use Rattle.records.proofs.KindOne.{kind_one_judged}
use Rattle.sheets.specs.Open.{sheet_checks}
use Rattle.questions.specs.Question.{end_checks}
use Rattle.questions.specs.Mark.{paper_checks}
use Rattle.questions.proofs.Asked.{paper}
use Rattle.levels.proofs.Given.{balanced_none}
use Rattle.analyser.specs.Mark.{mark_checks, Marks}
use Rattle.analyser.specs.LevelsOf.{levels_checks, GivesLevels}
use Rattle.analyser.specs.Statements.{Delivers, BalancedWithin, LevelsFor, SettingsAndLevels, HighestAnswer, OuterFace, PossibleAndImpossible}
use Rattle.analyser.proofs.Accepted.{mark_parts, levels_none}
use Rattle.analyser.proofs.SheetPlane.{plane, zero_in, levels_unique}
use Rattle.analyser.proofs.Asked.{excludes}
use Rattle.analyser.proofs.Demand3 as demand
use Rattle.analyser.proofs.ThereAndBack as back

-- ── what Mark accepts ──
module _ (s : List ℕ) (source sink : ℕ) (flows : List ℤ) where
  marked_carries : (v : ℤ) → Marks s source sink flows (Ok v) → Delivers s source sink v (atℤ flows)
  marked_carries v h =
      let p = paper (sheet_drawing s) source sink flows (mark_parts s source sink flows h.0).1 in
      subst (λ w. Delivers s source sink w (atℤ flows)) (sym h.1)
      (none_carries (sheet_map s) (atℤ flows) (capacity_of s) source sink p.within p.balanced)

  module _ (sheet : NoneOf (sheet_checks s)) (ends : NoneOf (end_checks (nodes_of s) source sink)) (long : edges_of s ≤ length flows) (v : ℤ)
      (carried : Delivers s source sink v (atℤ flows)) where
    none_of_mark : NoneOf (mark_checks s source sink flows)
    unfolding mark_checks paper_checks NoneOf
    none_of_mark =
        let n = carries_none (sheet_map s) (atℤ flows) (capacity_of s) source sink v carried in
        none_append (sheet_checks s) _ sheet
        (none_append (end_checks (nodes_of s) source sink) _ ends
        ((λ l. omega arith), none_append (within_checks (edges_of s) (capacity_of s) (atℤ flows)) _ n.0 n.1))

    carries_marked : (answer : Result ℤ Refusal) → Marks s source sink flows answer → answer ≡ Ok v
    carries_marked (Ok w) h = ap Ok (h.1 ∙ carried.carries)
    carries_marked (Err r) h = absurd (first_none (mark_checks s source sink flows) r.number r.place h none_of_mark)

-- ── what becomes levels ──
module _ (s : List ℕ) (sheet : NoneOf (sheet_checks s)) where
  -- levels are known by what stands in front of a slice
  levels_front : (x ρ τ : ℕ → ℤ) → ((f : ℕ) → f < faces (sheet_map s) → τ f ≡ ρ f) → LevelsFor s x ρ → LevelsFor s x τ
  levels_front x ρ τ same are =
      let p = (plane s sheet).sound in
      record {
        differences = λ d l.
            are.differences d l
            ∙ ap₂ ◌-ℤ◌ (sym (same (left (sheet_map s) d) (left_in p d l))) (sym (same (right (sheet_map s) d) (right_in p d l)));
        rooted = λ f z. same f (zero_in s sheet f z) ∙ are.rooted f z;
      }

  balanced_leveled : (flows levels levels' : List ℤ) → edges_of s ≤ length flows → faces (sheet_map s) ≤ length levels → BalancedWithin s (atℤ flows)
      → (answer : Result Unit Refusal) → GivesLevels s flows levels levels' answer → (answer ≡ Ok tt) × LevelsFor s (atℤ flows) (atℤ levels')
  balanced_leveled flows levels levels' long room b (Ok done) h =
      (refl, levels_front (atℤ flows) h.1.0 (atℤ levels') (filled_front (pos 0) (faces (sheet_map s)) h.1.0 levels levels' h.1.2) h.1.1)
  balanced_leveled flows levels levels' long room b (Err r) h =
      absurd (first_none (levels_checks s flows levels) r.number r.place h.0
      (levels_none s flows levels sheet (balanced_none (sheet_drawing s) flows levels long room
      (within_none (sheet_map s) (capacity_of s) (atℤ flows) b.1) (circulation_none (sheet_map s) (atℤ flows) b.0))))

-- ── all ──
pub settings_and_levels : SettingsAndLevels
settings_and_levels = record {
  can_carries = λ s source sink value flows flows' set set' h. demand.can_carries s source sink value flows flows' set set' h.0 h;
  largest_carries = λ s source sink v flows flows' set set' h. demand.largest_carries s source sink flows flows' set set' h.0 v h;
  marked_carries = marked_carries;
  carries_marked = λ s source sink flows v answer sheet ends long d h. carries_marked s source sink flows sheet ends long v d answer h;
  balanced_leveled = λ s flows levels levels' answer sheet long room b h. balanced_leveled s sheet flows levels levels' long room b answer h;
  leveled_balanced = back.leveled_balanced;
  settings_again = λ s flows levels levels' given again again' answer room h. back.settings_again s flows levels levels' given again again' room answer h;
  levels_again = λ s levels flows flows' given again again' answer room h. back.levels_again s levels flows flows' given again again' room answer h;
  levels_unique = levels_unique;
}

pub highest_answer : HighestAnswer
highest_answer = record {
  can_highest = λ s source sink value flows flows' set set' h. demand.can_highest s source sink value flows flows' set set' h.0 h;
  can_only = λ s source sink value flows flows' set set' h. demand.can_only s source sink value flows flows' set set' h.0 h;
  largest_highest = λ s source sink v flows flows' set set' h. demand.largest_highest s source sink flows flows' set set' h.0 v h;
  largest_only = λ s source sink v flows flows' set set' h. demand.largest_only s source sink flows flows' set set' h.0 v h;
}

pub outer_face : OuterFace
outer_face = record {
  kind_one_outer = λ s sheet one f.
      let o = kind_one_outer s one in
      let zero = ap (left (sheet_map s)) o ∙ first_face (plane s sheet).sound in
      (there s f o zero, back s f o zero);
  kind_one_judged = kind_one_judged;
}
  where
    there : (s : List ℕ) (f : ℕ) → outer_of s ≡ 0 → left (sheet_map s) (outer_of s) ≡ 0
        → ZeroFace (sheet_map s) (outer_of s) f → (f ≡ 0) ⊎ LowestElsewhere (sheet_map s) 0 f
    there s f o zero (inl e) = inl (e ∙ zero)
    there s f o zero (inr r) = inr (subst (λ d. LowestElsewhere (sheet_map s) d f) o r)

    back : (s : List ℕ) (f : ℕ) → outer_of s ≡ 0 → left (sheet_map s) (outer_of s) ≡ 0
        → (f ≡ 0) ⊎ LowestElsewhere (sheet_map s) 0 f → ZeroFace (sheet_map s) (outer_of s) f
    back s f o zero (inl e) = inl (e ∙ sym zero)
    back s f o zero (inr r) = inr (subst (λ d. LowestElsewhere (sheet_map s) d f) (sym o) r)

pub possible_and_impossible : PossibleAndImpossible
possible_and_impossible = record {
  cannot_exactly = λ s source sink value flows flows' set set' answer asked h.
      let e = demand.cannot_exactly s source sink value flows flows' set set' asked answer h in ((λ c. e.0 c.0 c.1), e.1);
  can_exactly = λ s source sink value flows flows' set set' answer asked h.
      let e = demand.can_exactly s source sink value flows flows' set set' asked answer h in (e.0, λ p. e.1 p.0 p.1);
  cannot_proves = λ s source sink value flows flows' set set' n h. demand.cannot_proves s source sink value flows flows' set set' h.0 n h;
  set_excludes = λ s source sink value S sheet ends p. excludes s sheet source sink ends value S p;
  largest_carries = λ s source sink v flows flows' set set' h. demand.largest_carries s source sink flows flows' set set' h.0 v h;
  nothing_greater = λ s source sink v flows flows' set set' h w p. demand.nothing_greater s source sink flows flows' set set' h.0 v h w p.0 p.1;
  next_impossible = λ s source sink v flows flows' set set' h. demand.next_impossible s source sink flows flows' set set' h.0 v h;
  none_exactly = λ s source sink flows flows' set set' answer asked h. demand.none_exactly s source sink flows flows' set set' asked answer h;
  none_proves = λ s source sink flows flows' set set' h. (h.2.0, h.2.1, demand.none_proves s source sink flows flows' set set' h.0 h);
}
