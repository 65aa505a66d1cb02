-- What an answer writes into lent slices: the highest answer for a value in front of the settings, and a set of nodes that proves something in front of the
-- words. Document 01, "The highest answer", "A proving set" and "Operations".
use Rattle.std.specs.Prelude.{ℕ, ◌≡◌, List, ℤ, pos, ◌<ℤ◌}
use Rattle.maps.specs.Drawing.{Drawing}
use Rattle.maps.specs.Cut.{cut}
use Rattle.flows.specs.Highest.{Highest}
use Rattle.flows.specs.ProvingSet.{Proves, member}
use Rattle.arrays.specs.Filled.{filled}
use Rattle.questions.specs.Question.{SetWritten}

-- the highest answer for the value, of which there is one, in the first places of a slice of settings; the rest is as it was
abbrev pub HighestWritten : Drawing → (source sink : ℕ) → ℤ → (flows flows' : List ℤ) → Type 0
HighestWritten 𝓓 source sink value flows flows' =
    (x : ℕ → ℤ) × Highest 𝓓.map 𝓓.outer 𝓓.capacity source sink value x × (flows' ≡ filled 𝓓.map.edges x flows)

-- some set that proves the value impossible, its words in front of a slice
abbrev pub ProofWritten : Drawing → (source sink : ℕ) → ℤ → (set set' : List ℕ) → Type 0
ProofWritten 𝓓 source sink value set set' =
    (words : List ℕ) × SetWritten 𝓓.map.nodes words set set' × Proves 𝓓.map 𝓓.capacity source sink value (member words)

-- "None": "a set holding both or neither of headgate and outfall, outward total below 0"
abbrev pub Blocks : Drawing → (source sink : ℕ) → List ℕ → Type 0
Blocks 𝓓 source sink words = (member words source ≡ member words sink) × (cut 𝓓.map 𝓓.capacity (member words) <ℤ pos 0)
