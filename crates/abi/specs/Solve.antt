-- What a C program is told of a solve answer. Document 01, "Operations": "A refusal is its number, with a lowest channel (17) or node (18), else place 0.";
-- "Can" and "cannot" with the size of the set are Solve's. The result is the number of the refusal, or 0; the rest is behind pointers.
use Rattle.std.specs.Prelude.{ℕ, ◌≡◌, List, ℤ, Result, Ok, Err}
use Rattle.refusals.specs.declared.Refusal.{Refusal}
use Rattle.questions.specs.declared.Solution.{Solution}
use Rattle.questions.specs.declared.Solution.TheVariants.{Can, Cannot}
use Rattle.records.specs.Sheet.{sheet_drawing}
use Rattle.analyser.specs.Solve.{Solves}
use Rattle.questions.specs.inner.Named.{SetNamed}

-- can is 1 or 0 where there is an answer, size is that of the set where it cannot, place is that of the refusal; what an answer does not give is as it was
abbrev pub Told : Result Solution Refusal → (result can can' size size' place place' : ℕ) → Type 0
Told (Ok Can) result can can' size size' place place' = (result ≡ 0) × (can' ≡ 1) × (size' ≡ size) × (place' ≡ place)
Told (Ok (Cannot n)) result can can' size size' place place' = (result ≡ 0) × (can' ≡ 0) × (size' ≡ n) × (place' ≡ place)
Told (Err r) result can can' size size' place place' = (result ≡ r.number) × (can' ≡ can) × (size' ≡ size) × (place' ≡ r.place)

-- an answer of Solve, its set the one that the search names (that this decides the set is what `OneAnswerInC` says), and what is told of it
abbrev pub TellsSolve : List ℕ → (source sink : ℕ) → ℤ → (flows flows' : List ℤ) (set set' : List ℕ) (can can' size size' place place' result : ℕ) → Type 0
TellsSolve s source sink value flows flows' set set' can can' size size' place place' result =
    (answer : Result Solution Refusal)
    × Solves s source sink value flows flows' set set' answer
    × SetNamed (sheet_drawing s) source sink value set' answer
    × Told answer result can can' size size' place place'
