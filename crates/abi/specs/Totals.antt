-- What a C program is told of totals by node (document 02, Job 9): "and give the total". The result is the number of the refusal, or 0; the total and the
-- place are behind pointers.
use Rattle.std.specs.Prelude.{ℕ, ◌≡◌, List, ℤ, Result, Ok, Err}
use Rattle.refusals.specs.declared.Refusal.{Refusal}
use Rattle.analyser.specs.Totals.{GivesTotals}

-- total is that of the set where there is an answer, place is that of the refusal; what an answer does not give is as it was
abbrev pub TotalsTold : Result ℤ Refusal → (result : ℕ) (total total' : ℤ) (place place' : ℕ) → Type 0
TotalsTold (Ok t) result total total' place place' = (result ≡ 0) × (total' ≡ t) × (place' ≡ place)
TotalsTold (Err r) result total total' place place' = (result ≡ r.number) × (total' ≡ total) × (place' ≡ r.place)

-- an answer of the operation, and what is told of it
abbrev pub TellsTotals : List ℕ → (set : List ℕ) (out out' : List ℤ) (total total' : ℤ) (place place' result : ℕ) → Type 0
TellsTotals s set out out' total total' place place' result =
    (answer : Result ℤ Refusal) × GivesTotals s set out out' answer × TotalsTold answer result total total' place place'
