-- What a C program is told of the limits from a capture (document 02, Job 10): as of Largest.
use Rattle.std.specs.Prelude.{ℕ, List, ℤ, Option, Result}
use Rattle.refusals.specs.declared.Refusal.{Refusal}
use Rattle.analyser.specs.After.{FindsAfter}
use Rattle.abi.specs.Largest.{LargestTold}

-- an answer of the operation, and what is told of it
abbrev pub TellsAfter : List ℕ → List ℕ → (w n source sink : ℕ)
    → (limits limits' flows flows' : List ℤ) (set set' : List ℕ) (found found' : ℕ) (value value' : ℤ) (place place' result : ℕ) → Type 0
TellsAfter s b w n source sink limits limits' flows flows' set set' found found' value value' place place' result =
    (answer : Result (Option ℤ) Refusal)
    × FindsAfter s b w n source sink limits limits' flows flows' set set' answer
    × LargestTold answer result found found' value value' place place'
