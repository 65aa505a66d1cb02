-- What a C program is told of the least and the largest value (document 02, Job 4).
-- The result is the number of the refusal, or 0; the rest is behind pointers.
use Rattle.std.specs.Prelude.{ℕ, ◌≡◌, List, ℤ, Option, Some, None, Result, Ok, Err}
use Rattle.refusals.specs.declared.Refusal.{Refusal}
use Rattle.ranges.specs.declared.Range.{Range}
use Rattle.analyser.specs.Range.{FindsRange}

-- found is 1 or 0 where there is an answer, least and largest are the two values where there are any, place is that of the refusal; what an answer does not
-- give is as it was
abbrev pub RangeTold : Result (Option Range) Refusal → (result found found' : ℕ) (least least' largest largest' : ℤ) (place place' : ℕ) → Type 0
RangeTold (Ok (Some v)) result found found' least least' largest largest' place place' =
    (result ≡ 0) × (found' ≡ 1) × (least' ≡ v.least) × (largest' ≡ v.largest) × (place' ≡ place)
RangeTold (Ok None) result found found' least least' largest largest' place place' =
    (result ≡ 0) × (found' ≡ 0) × (least' ≡ least) × (largest' ≡ largest) × (place' ≡ place)
RangeTold (Err r) result found found' least least' largest largest' place place' =
    (result ≡ r.number) × (found' ≡ found) × (least' ≡ least) × (largest' ≡ largest) × (place' ≡ r.place)

-- an answer of the operation, and what is told of it
abbrev pub TellsRange : List ℕ → (source sink : ℕ)
    → (low low' : List ℤ) (below below' : List ℕ) (high high' : List ℤ) (above above' : List ℕ)
    → (found found' : ℕ) (least least' largest largest' : ℤ) (place place' result : ℕ) → Type 0
TellsRange s source sink low low' below below' high high' above above' found found' least least' largest largest' place place' result =
    (answer : Result (Option Range) Refusal)
    × FindsRange s source sink low low' below below' high high' above above' answer
    × RangeTold answer result found found' least least' largest largest' place place'
