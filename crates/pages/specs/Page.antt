-- A page: a list of questions on one drawing. Document 02, Job 1: "Each answer, question refusals 13 to 15 included, is the one Solve gives alone, and its
-- stretches hold what Solve would leave there. Answers come in the list's order, and an empty list gives none. After the sheet checks, 21 means more than 64
-- questions, and 16 then covers both buffers for the whole list".
use Rattle.std.specs.Prelude.{ℕ, ◌*◌, ◌<◌, ◌≤◌, ◌≡◌, ◌⊎◌, List, [], ◌∷◌, length, get_or, ℤ, Result, Ok, Err}
use Rattle.refusals.specs.Order.{Check, ◌when◌, NoneOf, FirstOf}
use Rattle.refusals.specs.Refused.{refused}
use Rattle.refusals.specs.declared.Refusal.{Refusal}
use Rattle.flows.specs.ProvingSet.{words_for}
use Rattle.questions.specs.declared.Solution.{Solution}
use Rattle.pages.specs.Stretch.{stretch, SameFrom}
use Rattle.pages.specs.declared.Page.{Page}

-- 21, and 16 for n stretches of both buffers, whatever the answers will be; an empty list needs no room
unfoldable pub list_checks : (nodes edges n : ℕ) → List ℤ → List ℕ → List Check
list_checks nodes edges n flows sets =
    (21 when 64 < n)
    ∷ (16 when (length flows < n * edges) ⊎ (length sets < n * words_for nodes))
    ∷ []

-- answer i of a page; no answer is `refused 0 0`
abbrev pub answer_at : Page → ℕ → Result Solution Refusal
answer_at page i = get_or page.answers i (refused 0 0)

-- What one question comes to by itself: the settings slice lent for it, what that is left with, the set slice lent for it, what that is left with, the answer.
abbrev pub Alone : Type 1
Alone = (flows flows' : List ℤ) (set set' : List ℕ) → Result Solution Refusal → Type 0

-- What a page of n questions is, where `checks` are its refusals in order and `alone i` says what question i comes to by itself.
-- Passed: as many answers as questions, and none behind them; answer i is the one that its stretches would get alone; behind the last stretch both buffers
-- are as they were. Refused: both buffers as they were.
abbrev pub Paged : List Check → (edges words n : ℕ) → (ℕ → Alone) → (flows flows' : List ℤ) (sets sets' : List ℕ) → Result Page Refusal → Type 0
Paged checks edges words n alone flows flows' sets sets' (Ok page) =
    NoneOf checks
    × (page.count ≡ n)
    × ((i : ℕ) → i < n → alone i (stretch edges i flows) (stretch edges i flows') (stretch words i sets) (stretch words i sets') (answer_at page i))
    × SameFrom (n * edges) flows flows'
    × SameFrom (n * words) sets sets'
    × ((i : ℕ) → page.count ≤ i → answer_at page i ≡ refused 0 0)
Paged checks edges words n alone flows flows' sets sets' (Err r) =
    FirstOf checks r.number r.place
    × (flows' ≡ flows)
    × (sets' ≡ sets)
