-- What a C program is told by the calls of a session that two parties share. Document 02, Jobs 11 and 12. The session is a struct of the caller's, whose fields
-- are lent one by one: a refused Ask or Commit leaves each of them as it was. The result is the number of the refusal, or 0; the rest is behind pointers. Clear
-- has no result and is never refused: the session that it leaves is the one that came, `cleared`.
use Rattle.std.specs.Prelude.{ℕ, ◌≡◌, List, ℤ, Result, Ok, Err}
use Rattle.refusals.specs.declared.Refusal.{Refusal}
use Rattle.questions.specs.declared.Solution.{Solution}
use Rattle.parties.specs.Shared.{Shared}
use Rattle.parties.specs.Start.{Starts}
use Rattle.parties.specs.Calls.{Asks, Commits}
use Rattle.abi.specs.Solve.{Told}

-- place is that of the refusal, and as it was where there is an answer
abbrev pub VerdictTold : Result Unit Refusal → (result place place' : ℕ) → Type 0
VerdictTold (Ok done) result place place' = (result ≡ 0) × (place' ≡ place)
VerdictTold (Err r) result place place' = (result ≡ r.number) × (place' ≡ r.place)

-- an answer of Start, and what is told of it
abbrev pub TellsStart : List ℕ → (S' : Shared) (place place' result : ℕ) → Type 0
TellsStart s S' place place' result = (answer : Result Unit Refusal) × Starts s S' answer × VerdictTold answer result place place'

-- an answer of Ask to party p, and what is told of it: as of Solve's
abbrev pub TellsAsk : Shared → (p source sink : ℕ) → ℤ → (flows flows' : List ℤ) (set set' : List ℕ) (S' : Shared)
    (can can' size size' place place' result : ℕ) → Type 0
TellsAsk S p source sink value flows flows' set set' S' can can' size size' place place' result =
    (answer : Result Solution Refusal) × Asks S p source sink value flows flows' set set' S' answer × Told answer result can can' size size' place place'

-- an answer of Commit to party p, and what is told of it
abbrev pub TellsCommit : Shared → (p : ℕ) (S' : Shared) (place place' result : ℕ) → Type 0
TellsCommit S p S' place place' result = (answer : Result Unit Refusal) × Commits S p S' answer × VerdictTold answer result place place'
