-- What a C program is told of a sheet's DIMACS text (document 02, Job 2). The result is the number of the refusal, or 0; the number of bytes and the place are
-- behind pointers.
use Rattle.std.specs.Prelude.{ℕ, ◌≡◌, List, Result, Ok, Err}
use Rattle.refusals.specs.declared.Refusal.{Refusal}
use Rattle.analyser.specs.Dimacs.{WritesDimacs}

-- length is the number of bytes where there is an answer, place is that of the refusal; what an answer does not give is as it was
abbrev pub DimacsTold : Result ℕ Refusal → (result length length' place place' : ℕ) → Type 0
DimacsTold (Ok n) result length length' place place' = (result ≡ 0) × (length' ≡ n) × (place' ≡ place)
DimacsTold (Err r) result length length' place place' = (result ≡ r.number) × (length' ≡ length) × (place' ≡ r.place)

-- an answer of the operation, and what is told of it
abbrev pub TellsDimacs : List ℕ → (source sink : ℕ) → (text text' : List ℕ) (length length' place place' result : ℕ) → Type 0
TellsDimacs s source sink text text' length length' place place' result =
    (answer : Result ℕ Refusal) × WritesDimacs s source sink text text' answer × DimacsTold answer result length length' place place'
