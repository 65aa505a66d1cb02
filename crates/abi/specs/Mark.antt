-- What a C program is told of settings that are marked. Document 01, "Operations", of Mark: "It gives the value." The result is the number of the refusal, or
-- 0; the value and the place are behind pointers.
use Rattle.std.specs.Prelude.{ℕ, ◌≡◌, List, ℤ, Result, Ok, Err}
use Rattle.refusals.specs.declared.Refusal.{Refusal}
use Rattle.analyser.specs.Mark.{Marks}

-- value is that of the settings where there is an answer, place is that of the refusal; what an answer does not give is as it was
abbrev pub MarkTold : Result ℤ Refusal → (result : ℕ) (value value' : ℤ) (place place' : ℕ) → Type 0
MarkTold (Ok v) result value value' place place' = (result ≡ 0) × (value' ≡ v) × (place' ≡ place)
MarkTold (Err r) result value value' place place' = (result ≡ r.number) × (value' ≡ value) × (place' ≡ r.place)

-- an answer of Mark, and what is told of it
abbrev pub TellsMark : List ℕ → (source sink : ℕ) → (flows : List ℤ) (value value' : ℤ) (place place' result : ℕ) → Type 0
TellsMark s source sink flows value value' place place' result =
    (answer : Result ℤ Refusal) × Marks s source sink flows answer × MarkTold answer result value value' place place'
