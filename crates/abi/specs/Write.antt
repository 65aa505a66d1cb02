-- What a C program is told of a sheet that is written. Document 01, "Operations": "Write takes a node count and those three slices, fills bytes and gives their
-- number." Document 02, Job 6: it takes the outer dart too. The result is the number of the refusal, or 0; the number of
-- bytes and the place are behind pointers.
use Rattle.std.specs.Prelude.{ℕ, ◌≡◌, List, ℤ, Result, Ok, Err}
use Rattle.refusals.specs.declared.Refusal.{Refusal}
use Rattle.sheets.specs.Write.{Writes}

-- length is the number of bytes where there is an answer, place is that of the refusal; what an answer does not give is as it was
abbrev pub WriteTold : Result ℕ Refusal → (result length length' place place' : ℕ) → Type 0
WriteTold (Ok n) result length length' place place' = (result ≡ 0) × (length' ≡ n) × (place' ≡ place)
WriteTold (Err r) result length length' place place' = (result ≡ r.number) × (length' ≡ length) × (place' ≡ r.place)

-- an answer of Write, and what is told of it
abbrev pub TellsWrite : (nodes outer : ℕ) (tails rotations : List ℕ) (capacities : List ℤ) (sheet sheet' : List ℕ) (length length' place place' result : ℕ)
    → Type 0
TellsWrite nodes outer tails rotations capacities sheet sheet' length length' place place' result =
    (answer : Result ℕ Refusal) × Writes nodes outer tails rotations capacities sheet sheet' answer × WriteTold answer result length length' place place'
