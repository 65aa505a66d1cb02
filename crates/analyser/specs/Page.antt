-- Questions by the page. Document 02, Job 1: "Take a list of up to 64 questions .. on one sheet that is read and checked once. .. Each answer, question
-- refusals 13 to 15 included, is the one Solve gives alone": on the sheet's drawing. After the sheet checks 21, and 16 for both buffers.
use Rattle.std.specs.Prelude.{ℕ, List, ◌++◌, ℤ, Result}
use Rattle.refusals.specs.Order.{Check}
use Rattle.refusals.specs.declared.Refusal.{Refusal}
use Rattle.flows.specs.ProvingSet.{words_for}
use Rattle.records.specs.Sheet.{nodes_of, edges_of}
use Rattle.sheets.specs.Open.{sheet_checks}
use Rattle.pages.specs.Page.{list_checks, Alone, Paged}
use Rattle.pages.specs.declared.Question.{Question}
use Rattle.pages.specs.declared.Page.{Page}
use Rattle.analyser.specs.Solve.{Solves}

unfoldable pub page_checks : List ℕ → (n : ℕ) → List ℤ → List ℕ → List Check
page_checks s n flows sets = sheet_checks s ++ list_checks (nodes_of s) (edges_of s) n flows sets

-- one question alone: what Solve's own contract says of it
abbrev pub solves_alone : List ℕ → Question → Alone
solves_alone s q flows flows' set set' answer = Solves s q.source q.sink q.value flows flows' set set' answer

-- a page of n questions, of which `question i` is number i, from 0
abbrev pub AnswersPage : List ℕ → (n : ℕ) → (ℕ → Question) → (flows flows' : List ℤ) (sets sets' : List ℕ) → Result Page Refusal → Type 0
AnswersPage s n question flows flows' sets sets' answer =
    Paged (page_checks s n flows sets) (edges_of s) (words_for (nodes_of s)) n (λ i. solves_alone s (question i)) flows flows' sets sets' answer
