-- The sets of a page are those that the search names: where the page passed, for each question whose answer is "cannot" (`SetNamed`).
use Rattle.std.specs.Prelude.{ℕ, ◌<◌, List, Result, Ok, Err}
use Rattle.refusals.specs.declared.Refusal.{Refusal}
use Rattle.flows.specs.ProvingSet.{words_for}
use Rattle.records.specs.Sheet.{nodes_of, sheet_drawing}
use Rattle.questions.specs.inner.Named.{SetNamed}
use Rattle.pages.specs.Stretch.{stretch}
use Rattle.pages.specs.Page.{answer_at}
use Rattle.pages.specs.declared.Question.{Question}
use Rattle.pages.specs.declared.Page.{Page}

abbrev pub PageNamed : List ℕ → (n : ℕ) → (ℕ → Question) → (sets' : List ℕ) → Result Page Refusal → Type 0
PageNamed s n question sets' (Ok page) =
    (i : ℕ) → i < n
    → SetNamed (sheet_drawing s) (question i).source (question i).sink (question i).value (stretch (words_for (nodes_of s)) i sets') (answer_at page i)
PageNamed s n question sets' (Err r) = Unit
