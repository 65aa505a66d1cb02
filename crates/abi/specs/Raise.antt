-- What a C program is told of the limit that an edge must be raised to (document 02, Job 7).
-- The result is the number of the refusal, or 0; the rest is behind pointers.
use Rattle.std.specs.Prelude.{ℕ, ◌≡◌, List, ℤ, Option, Some, None, Result, Ok, Err}
use Rattle.refusals.specs.declared.Refusal.{Refusal}
use Rattle.analyser.specs.Raise.{RaisesLimit}

-- found is 1 or 0 where there is an answer, limit is the limit where there is one, place is that of the refusal; what an answer does not give is as it was
abbrev pub RaiseTold : Result (Option ℤ) Refusal → (result found found' : ℕ) (limit limit' : ℤ) (place place' : ℕ) → Type 0
RaiseTold (Ok (Some v)) result found found' limit limit' place place' = (result ≡ 0) × (found' ≡ 1) × (limit' ≡ v) × (place' ≡ place)
RaiseTold (Ok None) result found found' limit limit' place place' = (result ≡ 0) × (found' ≡ 0) × (limit' ≡ limit) × (place' ≡ place)
RaiseTold (Err r) result found found' limit limit' place place' = (result ≡ r.number) × (found' ≡ found) × (limit' ≡ limit) × (place' ≡ r.place)

-- an answer of the operation, and what is told of it
abbrev pub TellsRaise : List ℕ → (source sink : ℕ) → ℤ → (edge : ℕ)
    → (flows flows' : List ℤ) (set set' : List ℕ) (found found' : ℕ) (limit limit' : ℤ) (place place' result : ℕ) → Type 0
TellsRaise s source sink value edge flows flows' set set' found found' limit limit' place place' result =
    (answer : Result (Option ℤ) Refusal)
    × RaisesLimit s source sink value edge flows flows' set set' answer
    × RaiseTold answer result found found' limit limit' place place'
