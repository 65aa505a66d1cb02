-- What a probe leaves, whatever the slice held at first: the bounds hold again, or nothing can be carried.
use Rattle.std.specs.Prelude.{List, Option, None, MatchOption, ℕ, ℤ}
use Rattle.maps.specs.Map.{Map}
use Rattle.maximum.specs.inner.Bracket.{Bracket}
use Rattle.maximum.specs.inner.Maximum.{Maximized}
use Rattle.maximum.specs.declared.Bounds.{Bounds}

abbrev pub Probes : Map → (outer : ℕ) → (ℕ → ℤ) → (s t : ℕ) → (flows flows' : List ℤ) → (A A' B B' : List ℕ) → (b : Bounds) → Option Bounds → Type 0
Probes 𝓜 outer c s t flows flows' A A' B B' b r =
    (before : List ℤ) → Bracket 𝓜 outer c s t before flows A B b.low b.high b.found
    → MatchOption r (Maximized 𝓜 outer c s t before flows' A' None) (λ k. Bracket 𝓜 outer c s t before flows' A' B' k.low k.high k.found)
