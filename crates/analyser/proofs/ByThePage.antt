-- Job 1's statements, from the contract of a page alone.
use mathlib.Core.Path.{◌≡◌, refl, subst, ap₂}
use mathlib.Core.Logic.{◌⊎◌, inl, inr}
use mathlib.Core.List.{List}
use Prim.Native.Nat.{ℕ, ◌≤◌, ◌<◌, ◌*◌}
use native.Mathlib.Nat.{zero-mul}
use native.Mathlib.Omega.{arith}
use lib.ListN.{length, drop}
use lib.IntN.{ℤ}
use Rattle.std.specs.Prelude.{Result, Ok, Err}
use Rattle.refusals.specs.Order.{NoneOf, FirstOf}
use Rattle.refusals.proofs.Order.{append_none, none_append, append_first, first_none, first_one}
use Rattle.refusals.proofs.Same.{Same, same_refl, same_sym, same_append, none_same, first_same}
use Rattle.refusals.specs.declared.Refusal.{Refusal}
use Rattle.refusals.specs.Refused.{refused}
use Rattle.flows.specs.ProvingSet.{words_for}
use Rattle.records.specs.Sheet.{nodes_of, edges_of}
use Rattle.sheets.specs.Open.{sheet_checks}
use Rattle.questions.specs.Question.{end_checks, value_checks, room_checks}
use Rattle.questions.specs.Solve.{question_checks}
use Rattle.questions.specs.declared.Solution.{Solution}
use Rattle.questions.specs.declared.Solution.TheVariants.{Can, Cannot}
use Rattle.pages.specs.Stretch.{stretch, SameFrom}
use Rattle.pages.specs.Page.{list_checks, answer_at}
use Rattle.pages.specs.declared.Question.{Question}
use Rattle.pages.specs.declared.Page.{Page}
use Rattle.pages.proofs.Stretches.{part_length, stretch_room}
use Rattle.pages.proofs.Listing.{list_accepted}
use Rattle.analyser.specs.Solve.{solve_checks, Solves}
use Rattle.analyser.specs.Page.{page_checks, AnswersPage}
use Rattle.analyser.specs.Statements.{ByThePage}
use Rattle.analyser.proofs.Demand3 as demand

-- ── one question, put twice, with room both times ──
module _ (s : List ℕ) (source sink : ℕ) (value : ℤ) (own : List ℤ) (set : List ℕ) (other : List ℤ) (another : List ℕ)
    (Own-room : edges_of s ≤ length own) (set_room : words_for (nodes_of s) ≤ length set)
    (other-room : edges_of s ≤ length other) (another-room : words_for (nodes_of s) ≤ length another) where
  same_checks : Same (solve_checks s source sink value own set) (solve_checks s source sink value other another)
  unfolding solve_checks question_checks room_checks Same
  same_checks =
      same_append (sheet_checks s) (sheet_checks s) _ _ (same_refl (sheet_checks s))
      (same_append (end_checks (nodes_of s) source sink) (end_checks (nodes_of s) source sink) _ _ (same_refl (end_checks (nodes_of s) source sink))
      (same_append (value_checks value) (value_checks value) _ _ (same_refl (value_checks value))
      (refl, refl, (λ h. absurd (short own set Own-room set_room h)), (λ h. absurd (short other another other-room another-room h)), tt)))
    where
      short : (f : List ℤ) (t : List ℕ) → edges_of s ≤ length f → words_for (nodes_of s) ≤ length t
          → (length f < edges_of s) ⊎ (length t < words_for (nodes_of s)) → ⊥
      short f t fr tr (inl l) = omega arith
      short f t fr tr (inr l) = omega arith

refusal_of : (s : List ℕ) (source sink : ℕ) (value : ℤ) (flows flows' : List ℤ) (set set' : List ℕ) (answer : Result Solution Refusal) (k p : ℕ)
    → FirstOf (solve_checks s source sink value flows set) k p → Solves s source sink value flows flows' set set' answer → answer ≡ refused k p
refusal_of s source sink value flows flows' set set' (Ok Can) k p first h = absurd (first_none (solve_checks s source sink value flows set) k p first h.0)
refusal_of s source sink value flows flows' set set' (Ok (Cannot n)) k p first h =
    absurd (first_none (solve_checks s source sink value flows set) k p first h.0)
refusal_of s source sink value flows flows' set set' (Err r) k p first h =
    let e = first_one (solve_checks s source sink value flows set) r.number r.place k p h.0 first in
    ap₂ refused e.0 e.1

module _ (s : List ℕ) (source sink : ℕ) (value : ℤ) (own own' : List ℤ) (set set' : List ℕ) (answer : Result Solution Refusal)
    (other other' : List ℤ) (another another' : List ℕ) (answer' : Result Solution Refusal)
    (same : Same (solve_checks s source sink value own set) (solve_checks s source sink value other another))
    (h : Solves s source sink value own own' set set' answer) (g : Solves s source sink value other other' another another' answer') where
  refused_too : (k p : ℕ) → answer ≡ refused k p → answer' ≡ refused k p
  refused_too k p e =
      refusal_of s source sink value other other' another another' answer' k p
      (first_same (solve_checks s source sink value own set) _ k p same (subst (Solves s source sink value own own' set set') e h).0) g

  can_too : answer ≡ Ok Can → answer' ≡ Ok Can
  can_too e =
      let c = subst (Solves s source sink value own own' set set') e h in
      (demand.can_exactly s source sink value other other' another another' (none_same (solve_checks s source sink value own set) _ same c.0) answer' g).1 _
      (demand.can_carries s source sink value own own' set set' c.0 c)

-- ── a page ──
module _ (s : List ℕ) (n : ℕ) (question : ℕ → Question) (flows flows' : List ℤ) (sets sets' : List ℕ) (page : Page)
    (answers : AnswersPage s n question flows flows' sets sets' (Ok page)) where
  abbrev e : ℕ
  e = edges_of s

  abbrev w : ℕ
  w = words_for (nodes_of s)

  accepted : NoneOf (sheet_checks s) × NoneOf (list_checks (nodes_of s) e n flows sets)
  unfolding page_checks
  accepted = append_none (sheet_checks s) _ answers.0

  module _ (i : ℕ) (l : i < n) where
    line : Solves s (question i).source (question i).sink (question i).value (stretch e i flows) (stretch e i flows') (stretch w i sets) (stretch w i sets')
        (answer_at page i)
    line = answers.2 i l

    flows_long : length (stretch e i flows) ≡ e
    flows_long =
        let r = list_accepted (nodes_of s) e n flows sets accepted.1 in
        part_length e i flows (stretch_room e i n flows flows l r.1 (refl, refl))

    sets_long : length (stretch w i sets) ≡ w
    sets_long =
        let r = list_accepted (nodes_of s) e n flows sets accepted.1 in
        part_length w i sets (stretch_room w i n sets sets l r.2 (refl, refl))

    numbers : (k p : ℕ) → FirstOf (question_checks (nodes_of s) e (question i).source (question i).sink (question i).value (stretch e i flows) (stretch w i
        sets)) k p
        → (k ≡ 13) ⊎ ((k ≡ 14) ⊎ (k ≡ 15))
    unfolding question_checks end_checks value_checks room_checks FirstOf
    numbers k p (inl h) = inl h.1
    numbers k p (inr (_, inl h)) = inr (inl h.1)
    numbers k p (inr (_, inr (_, inl h))) = inr (inr h.1)
    numbers k p (inr (_, inr (_, inr (_, inl (inl h, _, _))))) = absurd (omega (arith, flows_long))
    numbers k p (inr (_, inr (_, inr (_, inl (inr h, _, _))))) = absurd (omega (arith, sets_long))
    numbers k p (inr (_, inr (_, inr (_, inr (_, h))))) = absurd h

    line_refused : (k p : ℕ) → answer_at page i ≡ refused k p
        → ((k ≡ 13) ⊎ ((k ≡ 14) ⊎ (k ≡ 15))) × (stretch e i flows' ≡ stretch e i flows) × (stretch w i sets' ≡ stretch w i sets)
    unfolding solve_checks
    line_refused k p eq =
        let r = subst (λ a. Solves s (question i).source (question i).sink (question i).value (stretch e i flows) (stretch e i flows')
        (stretch w i sets) (stretch w i sets') a) eq line in
        (past (append_first (sheet_checks s) _ k p r.0), r.1, r.2)
      where
        past : FirstOf (sheet_checks s) k p
            ⊎ (NoneOf (sheet_checks s)
            × FirstOf (question_checks (nodes_of s) e (question i).source (question i).sink (question i).value (stretch e i flows) (stretch w i sets)) k p)
            → (k ≡ 13) ⊎ ((k ≡ 14) ⊎ (k ≡ 15))
        past (inl h) = absurd (first_none (sheet_checks s) k p h accepted.0)
        past (inr h) = numbers k p h.1

    module _ (own own' : List ℤ) (set set' : List ℕ) (answer : Result Solution Refusal) (Own-room : e ≤ length own) (set_room : w ≤ length set)
        (solved : Solves s (question i).source (question i).sink (question i).value own own' set set' answer) where
      same : Same (solve_checks s (question i).source (question i).sink (question i).value (stretch e i flows) (stretch w i sets))
          (solve_checks s (question i).source (question i).sink (question i).value own set)
      same =
          same_checks s (question i).source (question i).sink (question i).value (stretch e i flows) (stretch w i sets) own set
          (omega (arith, flows_long)) (omega (arith, sets_long)) Own-room set_room

      back : Same (solve_checks s (question i).source (question i).sink (question i).value own set)
          (solve_checks s (question i).source (question i).sink (question i).value (stretch e i flows) (stretch w i sets))
      back = same_sym (solve_checks s (question i).source (question i).sink (question i).value (stretch e i flows) (stretch w i sets)) _ same

      same_can : (answer_at page i ≡ Ok Can → answer ≡ Ok Can) × (answer ≡ Ok Can → answer_at page i ≡ Ok Can)
      same_can = (
        can_too s (question i).source (question i).sink (question i).value _ _ _ _ (answer_at page i) own own' set set' answer same line solved,
        can_too s (question i).source (question i).sink (question i).value own own' set set' answer _ _ _ _ (answer_at page i) back solved line,
      )

      same_refused : (k p : ℕ) → (answer_at page i ≡ refused k p → answer ≡ refused k p) × (answer ≡ refused k p → answer_at page i ≡ refused k p)
      same_refused k p = (
        refused_too s (question i).source (question i).sink (question i).value _ _ _ _ (answer_at page i) own own' set set' answer same line solved k p,
        refused_too s (question i).source (question i).sink (question i).value own own' set set' answer _ _ _ _ (answer_at page i) back solved line k p,
      )

-- ── the empty list ──
module _ (s : List ℕ) (question : ℕ → Question) (flows flows' : List ℤ) (sets sets' : List ℕ) (sheet : NoneOf (sheet_checks s)) where
  empty_passes : NoneOf (page_checks s 0 flows sets)
  unfolding page_checks list_checks NoneOf
  empty_passes = none_append (sheet_checks s) _ sheet ((λ l. omega arith), (no_room, tt))
    where
      no_room : (length flows < 0 * edges_of s) ⊎ (length sets < 0 * words_for (nodes_of s)) → ⊥
      no_room (inl l) = omega (arith, zero-mul (edges_of s))
      no_room (inr l) = omega (arith, zero-mul (words_for (nodes_of s)))

  all_same : {A : Type 0} (size : ℕ) (l l' : List A) → SameFrom (0 * size) l l' → l' ≡ l
  all_same size l l' h = subst (λ k. drop k l' ≡ drop k l) (zero-mul size) h.1

  empty_as : (answer : Result Page Refusal) → AnswersPage s 0 question flows flows' sets sets' answer
      → ((page : Page) × (answer ≡ Ok page) × (page.count ≡ 0)) × (flows' ≡ flows) × (sets' ≡ sets)
  empty_as (Ok page) h = ((page, refl, h.1), all_same (edges_of s) flows flows' h.3, all_same (words_for (nodes_of s)) sets sets' h.4)
  empty_as (Err r) h = absurd (first_none (page_checks s 0 flows sets) r.number r.place h.0 empty_passes)

-- ── all ──
pub by_the_page : ByThePage
by_the_page = record {
  line_solves = λ s n question flows flows' sets sets' page h i l. h.2 i l;
  line_refused = line_refused;
  same_can = same_can;
  same_refused = same_refused;
  empty_none = λ s question flows flows' sets sets' answer sheet h. empty_as s question flows flows' sets sets' sheet answer h;
}
