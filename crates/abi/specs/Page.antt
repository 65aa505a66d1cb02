-- What a C program is told of a page (document 02, Job 1). The result is the number of the refusal of the whole page, or 0; answers and sizes are in arrays, a
-- place for each question.
use Rattle.std.specs.Prelude.{ℕ, ◌≡◌, List, ℤ, Result, Ok, Err}
use Rattle.refusals.specs.declared.Refusal.{Refusal}
use Rattle.arrays.specs.Filled.{filled}
use Rattle.pages.specs.Question.{question_in}
use Rattle.pages.specs.Page.{answer_at}
use Rattle.pages.specs.declared.Page.{Page}
use Rattle.answer_arrays.specs.Told.{number_told, size_told}
use Rattle.analyser.specs.Page.{AnswersPage}
use Rattle.analyser.specs.inner.Named.{PageNamed}

-- what stands in the arrays, by the answer: an answer and a size in each of the first `count` places, the others as they were; or all as it was
abbrev pub PageTold : Result Page Refusal → (count : ℕ) → (answers answers' sizes sizes' : List ℕ) (place place' result : ℕ) → Type 0
PageTold (Ok page) count answers answers' sizes sizes' place place' result =
    (result ≡ 0)
    × (answers' ≡ filled count (λ i. number_told (answer_at page i)) answers)
    × (sizes' ≡ filled count (λ i. size_told (answer_at page i)) sizes)
    × (place' ≡ place)
PageTold (Err r) count answers answers' sizes sizes' place place' result =
    (result ≡ r.number)
    × (answers' ≡ answers)
    × (sizes' ≡ sizes)
    × (place' ≡ r.place)

-- a page of the questions in the three arrays, its sets those that the search names, and what is told of it
abbrev pub TellsPage : List ℕ → (count : ℕ) → (sources sinks : List ℕ) (values : List ℤ) → (flows flows' : List ℤ) (sets sets' : List ℕ)
    → (answers answers' sizes sizes' : List ℕ) (place place' result : ℕ) → Type 0
TellsPage s count sources sinks values flows flows' sets sets' answers answers' sizes sizes' place place' result =
    (answer : Result Page Refusal)
    × AnswersPage s count (question_in sources sinks values) flows flows' sets sets' answer
    × PageNamed s count (question_in sources sinks values) sets' answer
    × PageTold answer count answers answers' sizes sizes' place place' result
