-- What the solver decides of a value: flows that carry it, the highest, or a set of nodes that proves that nothing does.
use Rattle.std.specs.Prelude.{◌≡◌, Bool, true, false, List, ℕ, ℤ}
use Rattle.maps.specs.Map.{Map}
use Rattle.flows.specs.Highest.{Highest}
use Rattle.flows.specs.ProvingSet.{Proves}
use Rattle.arrays.specs.Filled.{filled}
use Rattle.arrays.specs.inner.Flags.{flagged}

-- the highest flow of the value stands in the first places of the slice
abbrev pub Carried : Map → (outer : ℕ) → (ℕ → ℤ) → (source sink : ℕ) → ℤ → (flows flows' : List ℤ) → Type 0
Carried 𝓜 outer c s t value flows flows' = (x : ℕ → ℤ) × Highest 𝓜 outer c s t value x × (flows' ≡ filled 𝓜.edges x flows)

-- true: it does. false: the slice is as it was, and the flagged nodes prove the value impossible.
abbrev pub Decided : Map → (outer : ℕ) → (ℕ → ℤ) → (source sink : ℕ) → ℤ → (flows flows' : List ℤ) → (inside' : List ℕ) → Bool → Type 0
Decided 𝓜 outer c s t value flows flows' inside' true = Carried 𝓜 outer c s t value flows flows'
Decided 𝓜 outer c s t value flows flows' inside' false = (flows' ≡ flows) × Proves 𝓜 c s t value (flagged inside')
