-- What a C program is told of a sheet that is read. Document 01, "Operations": "Read gives both counts and fills three slices". Document 02, Job 6: "Read also
-- gives the dart". The result is the number of the refusal, or 0; the counts, the outer dart and the place are behind pointers.
use Rattle.std.specs.Prelude.{ℕ, ◌≡◌, List, ℤ, Result, Ok, Err}
use Rattle.refusals.specs.declared.Refusal.{Refusal}
use Rattle.sheets.specs.declared.Counts.{Counts}
use Rattle.sheets.specs.Read.{Reads}

-- both counts and the outer dart where there is an answer, place is that of the refusal; what an answer does not give is as it was
abbrev pub ReadTold : Result Counts Refusal → (result nodes nodes' edges edges' outer outer' place place' : ℕ) → Type 0
ReadTold (Ok c) result nodes nodes' edges edges' outer outer' place place' =
    (result ≡ 0) × (nodes' ≡ c.nodes) × (edges' ≡ c.edges) × (outer' ≡ c.outer) × (place' ≡ place)
ReadTold (Err r) result nodes nodes' edges edges' outer outer' place place' =
    (result ≡ r.number) × (nodes' ≡ nodes) × (edges' ≡ edges) × (outer' ≡ outer) × (place' ≡ r.place)

-- an answer of Read, and what is told of it
abbrev pub TellsRead : List ℕ
    → (tails rotations : List ℕ) (capacities : List ℤ) (tails' rotations' : List ℕ) (capacities' : List ℤ)
    → (nodes nodes' edges edges' outer outer' place place' result : ℕ)
    → Type 0
TellsRead s tails rotations capacities tails' rotations' capacities' nodes nodes' edges edges' outer outer' place place' result =
    (answer : Result Counts Refusal) × Reads s tails rotations capacities tails' rotations' capacities' answer
    × ReadTold answer result nodes nodes' edges edges' outer outer' place place'
