-- Two answers to one question are one, as a record: a field for each statement, with the papers' words above it. All that a field knows of a run is the
-- contract of the operation: `Solves` or `AnswersPage`, and `SetNamed` or `PageNamed`, which says of which search the set comes and need not be read: that it
-- decides the set is what the fields say. The proofs are in proofs/OneAnswer.antt.
use Rattle.std.specs.Prelude.{ℕ, ◌<◌, ◌≡◌, List, take, ℤ, Result, Ok}
use Rattle.refusals.specs.declared.Refusal.{Refusal}
use Rattle.flows.specs.ProvingSet.{words_for}
use Rattle.records.specs.Sheet.{nodes_of, edges_of, sheet_drawing}
use Rattle.questions.specs.inner.Named.{SetNamed}
use Rattle.questions.specs.declared.Solution.{Solution}
use Rattle.questions.specs.declared.Solution.TheVariants.{Cannot}
use Rattle.pages.specs.Stretch.{stretch}
use Rattle.pages.specs.Page.{answer_at}
use Rattle.pages.specs.declared.Question.{Question}
use Rattle.pages.specs.declared.Page.{Page}
use Rattle.analyser.specs.Solve.{Solves}
use Rattle.analyser.specs.Page.{AnswersPage}
use Rattle.analyser.specs.inner.Named.{PageNamed}

pub record OneAnswer : Type 0 where
  -- Document 02, Job 12, "isolation": what a question is answered follows from the drawing, the limits and the question. Of Solve: two runs on the same bytes
  -- that are lent the same slices give the same answer and leave the same in both, the words of a proving set and its size included
  pub same_answer : (s : List ℕ) (source sink : ℕ) (value : ℤ) (flows flows' flows'' : List ℤ) (set set' set'' : List ℕ) (r q : Result Solution Refusal)
      → Solves s source sink value flows flows' set set' r → SetNamed (sheet_drawing s) source sink value set' r
      → Solves s source sink value flows flows'' set set'' q → SetNamed (sheet_drawing s) source sink value set'' q
      → (r ≡ q) × (flows' ≡ flows'') × (set' ≡ set'')
  -- the same of "cannot" whatever slices were lent: the same words, and the same size
  pub same_set : (s : List ℕ) (source sink : ℕ) (value : ℤ) (flows flows' : List ℤ) (set set' : List ℕ) (n : ℕ)
      (own own' : List ℤ) (words words' : List ℕ) (m : ℕ)
      → Solves s source sink value flows flows' set set' (Ok (Cannot n)) → SetNamed (sheet_drawing s) source sink value set' (Ok (Cannot n))
      → Solves s source sink value own own' words words' (Ok (Cannot m)) → SetNamed (sheet_drawing s) source sink value words' (Ok (Cannot m))
      → (n ≡ m) × (take (words_for (nodes_of s)) set' ≡ take (words_for (nodes_of s)) words')
  -- Document 02, Job 1: "Each answer .. is the one Solve gives alone, and its stretches hold what Solve would leave there": the set too
  pub same_line : (s : List ℕ) (n : ℕ) (question : ℕ → Question) (flows flows' : List ℤ) (sets sets' : List ℕ) (page : Page)
      → AnswersPage s n question flows flows' sets sets' (Ok page) → PageNamed s n question sets' (Ok page) → (i : ℕ) → i < n
      → (own' : List ℤ) (set' : List ℕ) (answer : Result Solution Refusal)
      → Solves s (question i).source (question i).sink (question i).value (stretch (edges_of s) i flows) own'
      (stretch (words_for (nodes_of s)) i sets) set' answer
      → SetNamed (sheet_drawing s) (question i).source (question i).sink (question i).value set' answer
      → (answer_at page i ≡ answer) × (stretch (edges_of s) i flows' ≡ own') × (stretch (words_for (nodes_of s)) i sets' ≡ set')
