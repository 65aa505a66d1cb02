-- What a party sees of a run, and what it gets. Document 02, Job 12: "If two runs from one start differ only in one party's asks and refused commits, and have
-- the same accepted commits with the same flows and the same clears, in the same order, between the same calls of the other party, the other party gets the
-- same answers."
use Rattle.std.specs.Prelude.{ℕ, cond, List, [], ◌∷◌, ◌++◌, eqb, ℤ, Result, Ok, Err}
use Rattle.refusals.specs.declared.Refusal.{Refusal}
use Rattle.questions.specs.declared.Solution.{Solution}
use Rattle.parties.specs.Shared.{Shared, cleared, flows_of}
use Rattle.parties.specs.Calls.{Asks, Commits}

-- a question with the slices that it is lent
pub record Question : Type 0 where
  pub source : ℕ
  pub sink : ℕ
  pub value : ℤ
  pub flows : List ℤ
  pub set : List ℕ

-- what a call gives its party: of a question both slices as they are left and the answer, of a commit the verdict
pub data Gift : Type 0 where
  answered : List ℤ → List ℕ → Result Solution Refusal → Gift
  judged : Result Unit Refusal → Gift

-- a call with what came of it: a question; a commit with the flows of its party's offer; a clear
pub data Event : Type 0 where
  asks : ℕ → Question → List ℤ → List ℕ → Result Solution Refusal → Event
  commits : ℕ → List ℤ → Result Unit Refusal → Event
  clears : Event

-- party q sees its own calls, the others' accepted commits with their flows, and clears
pub data Seen : Type 0 where
  own_ask : Question → Seen
  own_commit : Seen
  theirs : List ℤ → Seen
  wiped : Seen

unfoldable pub accepted : List ℤ → Result Unit Refusal → List Seen
accepted xs (Ok done) = theirs xs ∷ []
accepted xs (Err r) = []

unfoldable pub seen : ℕ → Event → List Seen
seen q (asks p k flows' set' r) = cond (eqb p q) (own_ask k ∷ []) []
seen q (commits p xs v) = cond (eqb p q) (own_commit ∷ []) (accepted xs v)
seen q clears = wiped ∷ []

unfoldable pub all_seen : ℕ → List Event → List Seen
all_seen q [] = []
all_seen q (e ∷ es) = seen q e ++ all_seen q es

-- what it gets: the answers to its own calls
unfoldable pub gift : ℕ → Event → List Gift
gift q (asks p k flows' set' r) = cond (eqb p q) (answered flows' set' r ∷ []) []
gift q (commits p xs v) = cond (eqb p q) (judged v ∷ []) []
gift q clears = []

unfoldable pub gifts : ℕ → List Event → List Gift
gifts q [] = []
gifts q (e ∷ es) = gift q e ++ gifts q es

-- a call
pub data Step : Shared → Event → Shared → Type 0 where
  ask_step : {S S' : Shared} (p : ℕ) (k : Question) (flows' : List ℤ) (set' : List ℕ) (r : Result Solution Refusal)
      → Asks S p k.source k.sink k.value k.flows flows' k.set set' S' r → Step S (asks p k flows' set' r) S'
  commit_step : {S S' : Shared} (p : ℕ) (v : Result Unit Refusal) → Commits S p S' v → Step S (commits p (flows_of S p) v) S'
  clear_step : {S : Shared} → Step S clears (cleared S)

-- a run
pub data Run : Shared → List Event → Shared → Type 0 where
  end : {S : Shared} → Run S [] S
  next : {S T U : Shared} {e : Event} {es : List Event} → Step S e T → Run T es U → Run S (e ∷ es) U
