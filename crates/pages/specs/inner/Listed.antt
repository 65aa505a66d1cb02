-- Questions copied from a lent slice into a list of at most 64, one by one.
use Rattle.std.specs.Prelude.{ℕ, zero, suc, min, set, replicate}
use Rattle.maps.specs.Drawing.{Drawing}
use Rattle.questions.specs.Solve.{question_checks, Solved}
use Rattle.questions.specs.inner.Named.{SetNamed}
use Rattle.pages.specs.Question.{blank}
use Rattle.pages.specs.Page.{Alone}
use Rattle.pages.specs.declared.Question.{Question}
use Rattle.pages.specs.declared.Listed.{Listed}

-- a list for n questions, with none in it
abbrev pub emptyList : ℕ → Listed
emptyList n = record { count = n; questions = replicate 64 blank }

-- the list with q at place i
abbrev pub listed_at : Listed → ℕ → Question → Listed
listed_at list i q = record { count = list.count; questions = set list.questions i q }

-- the first n questions, in the first n places of the list
unfoldable pub gathered : (ℕ → Question) → ℕ → Listed → Listed
gathered question zero list = list
gathered question (suc n) list = listed_at (gathered question n list) n (question n)

-- a list of n questions: the first 64 of them, and that they are n
abbrev pub list_of : ℕ → (ℕ → Question) → Listed
list_of n question = gathered question (min n 64) (emptyList n)

-- Solve's contract on a drawing, of question q and the slices lent for it: what is answered, and that its set is the one that the search names
abbrev pub solved_alone : Drawing → Question → Alone
solved_alone 𝓓 q flows flows' set set' answer =
    Solved 𝓓 (question_checks 𝓓.map.nodes 𝓓.map.edges q.source q.sink q.value flows set)
    q.source q.sink q.value flows flows' set set' answer
    × SetNamed 𝓓 q.source q.sink q.value set' answer
