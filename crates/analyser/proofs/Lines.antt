-- Job 1: a page of a list that was made of n questions is the page of those n questions.
use mathlib.Core.Path.{◌≡◌, subst}
use mathlib.Core.List.{List}
use Prim.Native.Nat.{ℕ, ◌≤◌}
use lib.IntN.{ℤ}
use Rattle.std.specs.Prelude.{Result, Ok, Err}
use Rattle.refusals.specs.Order.{NoneOf}
use Rattle.refusals.specs.declared.Refusal.{Refusal}
use Rattle.refusals.proofs.Order.{append_none}
use Rattle.flows.specs.ProvingSet.{words_for}
use Rattle.records.specs.Sheet.{nodes_of, edges_of, sheet_drawing}
use Rattle.questions.specs.inner.Named.{SetNamed}
use Rattle.sheets.specs.Open.{sheet_checks}
use Rattle.pages.specs.Stretch.{stretch}
use Rattle.pages.specs.Page.{answer_at}
use Rattle.pages.specs.Question.{question_at}
use Rattle.pages.specs.inner.Listed.{list_of}
use Rattle.pages.specs.declared.Question.{Question}
use Rattle.pages.specs.declared.Listed.{Listed}
use Rattle.pages.specs.declared.Page.{Page}
use Rattle.pages.proofs.Listing.{list_accepted, list_count, list_questions}
use Rattle.analyser.specs.Page.{page_checks, solves_alone, AnswersPage}
use Rattle.analyser.specs.inner.Named.{PageNamed}

page_few : (s : List ℕ) (n : ℕ) (flows : List ℤ) (sets : List ℕ) → NoneOf (page_checks s n flows sets) → n ≤ 64
unfolding page_checks
page_few s n flows sets h = (list_accepted (nodes_of s) (edges_of s) n flows sets (append_none (sheet_checks s) _ h).1).0

-- what a page of n questions is, and that its sets are those that the search names
abbrev Answered : List ℕ → (n : ℕ) → (ℕ → Question) → (flows flows' : List ℤ) (sets sets' : List ℕ) → Result Page Refusal → Type 0
Answered s n question flows flows' sets sets' r = AnswersPage s n question flows flows' sets sets' r × PageNamed s n question sets' r

pub page_listed : (s : List ℕ) (n : ℕ) (question : ℕ → Question) (list : Listed) → list ≡ list_of n question
    → (flows flows' : List ℤ) (sets sets' : List ℕ) (r : Result Page Refusal)
    → AnswersPage s list.count (question_at list.questions) flows flows' sets sets' r × PageNamed s list.count (question_at list.questions) sets' r
    → AnswersPage s n question flows flows' sets sets' r × PageNamed s n question sets' r
page_listed s n question list e flows flows' sets sets' r h =
    each r (subst (λ k. Answered s k (question_at (list_of n question).questions) flows flows' sets sets' r) (list_count n question)
    (subst (λ list. Answered s list.count (question_at list.questions) flows flows' sets sets' r) e h))
  where
    each : (r : Result Page Refusal) → Answered s n (question_at (list_of n question).questions) flows flows' sets sets' r
        → Answered s n question flows flows' sets sets' r
    each (Ok page) h =
        let few = page_few s n flows sets h.0.0 in (
          (
            h.0.0,
            h.0.1,
            (λ i l. subst (λ q. solves_alone s q (stretch (edges_of s) i flows) (stretch (edges_of s) i flows')
                (stretch (words_for (nodes_of s)) i sets) (stretch (words_for (nodes_of s)) i sets') (answer_at page i)) (list_questions n question few i l)
                (h.0.2 i l)),
            h.0.3,
            h.0.4,
            h.0.5,
          ),
          (λ i l. subst (λ q. SetNamed (sheet_drawing s) q.source q.sink q.value (stretch (words_for (nodes_of s)) i sets') (answer_at page i))
              (list_questions n question few i l) (h.1 i l)),
        )
    each (Err r) h = h
