-- The orbits of the face step are the faces, and their numbers those of the faces.
use mathlib.Core.Path.{◌≡◌}
use Prim.Native.Nat.{ℕ, ◌≤◌, ◌<◌}
use Rattle.maps.specs.Orbit.{orbits, orbit_of}
use Rattle.maps.specs.Map.{Map, darts}
use Rattle.maps.specs.Face.{step, faces, left}
use Rattle.rotations.proofs.Numbering.{orbits_le}

pub faces_le : (𝓜 : Map) → faces 𝓜 ≤ darts 𝓜
unfolding faces
faces_le 𝓜 = orbits_le (darts 𝓜) (step 𝓜)

module _ (𝓜 : Map) where
  pub faces_are : {count : ℕ} → count ≡ orbits (darts 𝓜) (step 𝓜) → count ≡ faces 𝓜
  unfolding faces
  faces_are e = e

  pub lefts_are : {lefts : ℕ → ℕ} → ((d : ℕ) → d < darts 𝓜 → lefts d ≡ orbit_of (darts 𝓜) (step 𝓜) d) → (d : ℕ) → d < darts 𝓜 → lefts d ≡ left 𝓜 d
  unfolding left
  lefts_are h = h
