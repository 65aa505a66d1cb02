-- What a C program is told of a practice sheet (document 02, Job 5). The result is the number of the refusal, or 0; the number of bytes and the place are
-- behind pointers.
use Rattle.std.specs.Prelude.{ℕ, ◌≡◌, List, Result, Ok, Err}
use Rattle.refusals.specs.declared.Refusal.{Refusal}
use Rattle.practice.specs.Practice.{Practises}

-- length is the number of bytes where there is an answer, place is that of the refusal; what an answer does not give is as it was
abbrev pub PracticeTold : Result ℕ Refusal → (result length length' place place' : ℕ) → Type 0
PracticeTold (Ok n) result length length' place place' = (result ≡ 0) × (length' ≡ n) × (place' ≡ place)
PracticeTold (Err r) result length length' place place' = (result ≡ r.number) × (length' ≡ length) × (place' ≡ r.place)

-- an answer of the operation, and what is told of it
abbrev pub TellsPractice : (rows columns seed : ℕ) (sheet sheet' : List ℕ) (length length' place place' result : ℕ) → Type 0
TellsPractice rows columns seed sheet sheet' length length' place place' result =
    (answer : Result ℕ Refusal) × Practises rows columns seed sheet sheet' answer × PracticeTold answer result length length' place place'
