-- The cut over arrays is the cut of a map with these tails.
use mathlib.Core.Path.{◌≡◌, refl}
use mathlib.Core.Bool.{Bool}
use Prim.Native.Nat.{ℕ}
use lib.IntN.{ℤ}
use Rattle.maps.specs.Map.{Map, darts}
use Rattle.maps.specs.Cut.{cut}
use Rattle.cuts.specs.inner.Cut.{cut_of}

pub cut-of : (𝓜 : Map) (c : ℕ → ℤ) (S : ℕ → Bool) → cut 𝓜 c S ≡ cut_of (darts 𝓜) 𝓜.tail c S
unfolding cut cut_of
cut-of 𝓜 c S = refl
