-- What a C program is told of the largest value. Document 01, "Operations": Largest gives a value, or "none".
-- The result is the number of the refusal, or 0; the rest is behind pointers.
use Rattle.std.specs.Prelude.{ℕ, ◌≡◌, List, ℤ, Option, Some, None, Result, Ok, Err}
use Rattle.refusals.specs.declared.Refusal.{Refusal}
use Rattle.analyser.specs.Largest.{FindsLargest}

-- found is 1 or 0 where there is an answer, value is the largest where there is one, place is that of the refusal; what an answer does not give is as it was
abbrev pub LargestTold : Result (Option ℤ) Refusal → (result found found' : ℕ) (value value' : ℤ) (place place' : ℕ) → Type 0
LargestTold (Ok (Some v)) result found found' value value' place place' = (result ≡ 0) × (found' ≡ 1) × (value' ≡ v) × (place' ≡ place)
LargestTold (Ok None) result found found' value value' place place' = (result ≡ 0) × (found' ≡ 0) × (value' ≡ value) × (place' ≡ place)
LargestTold (Err r) result found found' value value' place place' = (result ≡ r.number) × (found' ≡ found) × (value' ≡ value) × (place' ≡ r.place)

-- an answer of Largest, and what is told of it
abbrev pub TellsLargest : List ℕ → (source sink : ℕ)
    → (flows flows' : List ℤ) (set set' : List ℕ) (found found' : ℕ) (value value' : ℤ) (place place' result : ℕ) → Type 0
TellsLargest s source sink flows flows' set set' found found' value value' place place' result =
    (answer : Result (Option ℤ) Refusal) × FindsLargest s source sink flows flows' set set' answer
    × LargestTold answer result found found' value value' place place'
