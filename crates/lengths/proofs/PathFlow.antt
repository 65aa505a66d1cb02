-- For a caller that holds a sound map: what a walk over all its darts leaves is what `fill_lengths` needs.
use mathlib.Core.Path.{refl}
use Prim.Native.Nat.{ℕ}
use Rattle.maps.specs.Map.{Map, darts}
use Rattle.maps.specs.Check.{Sound}
use Rattle.traversal.specs.inner.Forest.{Forest}
use Rattle.lengths.specs.inner.Lengths.{Treed}

pub treed_of : {𝓜 : Map} → Sound 𝓜 → {first : ℕ} {order from : ℕ → ℕ} {trees : ℕ} → Forest (darts 𝓜) 𝓜.rotation first order from trees
    → Treed 𝓜 (darts 𝓜) order from
treed_of σ {first} {trees = trees} 𝓕 = record { all_darts = refl; sound = σ; first = first; trees = trees; forest = 𝓕 }
