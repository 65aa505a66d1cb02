-- Two answers to one question are one, of the key: a field for each statement, with the papers' words above it. All that a field knows of a run is the contract
-- of its function: `Prints` and `KeyNamed` of the key's, `Solves` and `SetNamed` of Solve, `AnswersPage` and `PageNamed` of a page. The second of each says of
-- which search the set comes and need not be read: that it decides the set is what the fields say. The proofs are in proofs/OneKey.antt.
use Rattle.std.specs.Prelude.{ℕ, ◌<◌, ◌≡◌, ◌≢◌, List, take, ℤ, Result, Ok, Err}
use Rattle.refusals.specs.Order.{NoneOf}
use Rattle.refusals.specs.Refused.{refused}
use Rattle.refusals.specs.declared.Refusal.{Refusal}
use Rattle.flows.specs.ProvingSet.{words_for}
use Rattle.arrays.specs.At.{atℤ}
use Rattle.records.specs.Record.{record_checks}
use Rattle.records.specs.Sheet.{nodes_of, edges_of, sheet_drawing}
use Rattle.questions.specs.inner.Named.{SetNamed}
use Rattle.questions.specs.declared.Solution.{Solution}
use Rattle.questions.specs.declared.Solution.TheVariants.{Can, Cannot}
use Rattle.pages.specs.Stretch.{stretch}
use Rattle.pages.specs.Page.{answer_at}
use Rattle.pages.specs.declared.Question.{Question}
use Rattle.pages.specs.declared.Page.{Page}
use Rattle.analyser.specs.Solve.{Solves}
use Rattle.analyser.specs.Page.{AnswersPage}
use Rattle.analyser.specs.inner.Named.{PageNamed}
use Rattle.key_text.specs.Question.{source_of, sink_of, value_of, sheet_of}
use Rattle.key_text.specs.Text.{can_text, cannot_text, refused_text}
use Rattle.key_text.specs.Key.{Prints}
use Rattle.key_text.specs.inner.Named.{KeyNamed}

-- an answer of Solve as a text: with the settings, or the words of the set, that it left in the slices lent
abbrev pub answer_text : List ℕ → (flows' : List ℤ) (set' : List ℕ) → Result Solution Refusal → List ℕ
answer_text b flows' set' (Ok Can) = can_text (value_of b) (edges_of (sheet_of b)) (atℤ flows')
answer_text b flows' set' (Ok (Cannot n)) = cannot_text (value_of b) n (nodes_of (sheet_of b)) set'
answer_text b flows' set' (Err r) = refused_text r.number

-- the question that the bytes ask
abbrev pub question_of : List ℕ → Question
question_of b = record { source = source_of b; sink = sink_of b; value = value_of b }

pub record OneKey : Type 0 where
  -- two runs on the same bytes print the same text, every byte of it, whatever slices they are lent
  pub same_text : (b text text' own own' : List ℕ) (n m : ℕ) → Prints b text text' n → KeyNamed b text' n → Prints b own own' m → KeyNamed b own' m
      → (n ≡ m) × (take n text' ≡ take m own')
  -- Document 02, Job 1: "the one Solve gives alone": the text is that of what any run of Solve answers and leaves for the question that the bytes ask, with the
  -- same settings, the same words of the set and the same size, the same refusal. "The key's own slices are long enough, so 16 never comes"; 1 and 2 for the
  -- question are not Solve's
  pub same_key : (b text text' : List ℕ) (n : ℕ) → Prints b text text' n → KeyNamed b text' n → NoneOf (record_checks b 3 0)
      → (flows flows' : List ℤ) (set set' : List ℕ) (answer : Result Solution Refusal)
      → Solves (sheet_of b) (source_of b) (sink_of b) (value_of b) flows flows' set set' answer
      → SetNamed (sheet_drawing (sheet_of b)) (source_of b) (sink_of b) (value_of b) set' answer
      → answer ≢ refused 16 0 → take n text' ≡ answer_text b flows' set' answer
  -- the same of a question of a page, where it is the one that the bytes ask
  pub same_line_key : (b text text' : List ℕ) (n : ℕ) → Prints b text text' n → KeyNamed b text' n → NoneOf (record_checks b 3 0)
      → (many : ℕ) (question : ℕ → Question) (flows flows' : List ℤ) (sets sets' : List ℕ) (page : Page)
      → AnswersPage (sheet_of b) many question flows flows' sets sets' (Ok page) → PageNamed (sheet_of b) many question sets' (Ok page)
      → (i : ℕ) → i < many → question i ≡ question_of b
      → take n text' ≡ answer_text b (stretch (edges_of (sheet_of b)) i flows') (stretch (words_for (nodes_of (sheet_of b))) i sets') (answer_at page i)
