-- From the checks to the facts: a map in range that 9 and 10 do not refuse is sound. The checks are refutations, so orbits are decided on the way.
use mathlib.Core.Path.{◌≡◌, refl, sym}
use mathlib.Core.Logic.{◌⊎◌, inl, inr, ◌≢◌}
use Prim.Native.Nat.{ℕ, ◌<◌}
use native.Mathlib.Omega.{arith}
use native.Mathlib.Decide.{ℕ_discrete, dec_lt}
use Rattle.integers.proofs.Pigeonhole.{seek}
use Rattle.maps.specs.Orbit.{Orbit, Permutes}
use Rattle.maps.specs.Map.{Map, darts}
use Rattle.maps.specs.Check.{InRange, RotationFault, NodeFault, Sound}
use Rattle.maps.proofs.Orbits.{orbit_decided}

-- 9 leaves a rotation that keeps tails and permutes the darts
module _ {𝓜 : Map} (range : InRange 𝓜) (rotation_good : RotationFault 𝓜 → ⊥) where
  keeps_tail : (d : ℕ) → d < darts 𝓜 → 𝓜.tail (𝓜.rotation d) ≡ 𝓜.tail d
  keeps_tail d l = go (ℕ_discrete (𝓜.tail (𝓜.rotation d)) (𝓜.tail d))
    where
      go : Dec (𝓜.tail (𝓜.rotation d) ≡ 𝓜.tail d) → 𝓜.tail (𝓜.rotation d) ≡ 𝓜.tail d
      go (yes e) = e
      go (no c) = absurd (rotation_good (inl (d, l, c)))

  one_to_one : (c d : ℕ) → c < darts 𝓜 → d < darts 𝓜 → 𝓜.rotation c ≡ 𝓜.rotation d → c ≡ d
  one_to_one c d lc ld e = go (dec_lt c d) (dec_lt d c)
    where
      go : Dec (c < d) → Dec (d < c) → c ≡ d
      go (yes h) q = absurd (rotation_good (inr (c, d, h, ld, e)))
      go (no h) (yes q) = absurd (rotation_good (inr (d, c, q, lc, sym e)))
      go (no h) (no q) = omega (arith, h, q)

  pub rotation_permutes : Permutes (darts 𝓜) 𝓜.rotation
  rotation_permutes = record { stays = range.rotation_in; apart = one_to_one }

  -- 10 leaves one round to each node
  module _ (node-good : NodeFault 𝓜 → ⊥) where
    round : (c d : ℕ) → c < darts 𝓜 → d < darts 𝓜 → 𝓜.tail c ≡ 𝓜.tail d → Orbit 𝓜.rotation c d
    round c d lc ld e = go (orbit_decided rotation_permutes c d lc)
      where
        go : Dec (Orbit 𝓜.rotation c d) → Orbit 𝓜.rotation c d
        go (yes o) = o
        go (no h) = absurd (node-good (𝓜.tail c, range.tail_in c lc, inr (c, d, lc, ld, refl, sym e, h)))

    dart-of : (v : ℕ) → v < 𝓜.nodes → (d : ℕ) × (d < darts 𝓜) × (𝓜.tail d ≡ v)
    dart-of v l = go (seek 𝓜.tail v (darts 𝓜))
      where
        go : ((d : ℕ) × (d < darts 𝓜) × (𝓜.tail d ≡ v)) ⊎ ((d : ℕ) → d < darts 𝓜 → 𝓜.tail d ≢ v) → (d : ℕ) × (d < darts 𝓜) × (𝓜.tail d ≡ v)
        go (inl s) = s
        go (inr h) = absurd (node-good (v, l, inl h))

    pub sound_of_checks : Sound 𝓜
    sound_of_checks = record { range = range; same_tail = keeps_tail; injective = one_to_one; one_round = round; has_dart = dart-of }
