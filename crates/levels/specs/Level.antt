-- What the refusals 19 and 20 refuse. Document 01, "Operations", Settings from levels: "19 a level beyond ±600,000,000, 20 face 0 not at 0".
-- Document 02, Job 6: 20 looks at the outer face in its place; which faces those are is given.
use Rattle.std.specs.Prelude.{ℕ, ◌<◌, ◌⊎◌, ◌≢◌, List, [], ◌∷◌, ℤ, pos, negsuc, ◌<ℤ◌}
use Rattle.refusals.specs.Order.{Check, ◌when◌}

-- not from −600,000,000 to 600,000,000; negsuc 599999999 is −600,000,000
abbrev pub LevelOutside : ℤ → Type 0
LevelOutside x = (x <ℤ negsuc 599999999) ⊎ (pos 600000000 <ℤ x)

-- the levels ρ of the first so many faces, of which those in Zero must be at 0
unfoldable pub level_checks : ℕ → (Zero : ℕ → Type 0) → (ℕ → ℤ) → List Check
level_checks faces Zero ρ = (19 when (f : ℕ) × (f < faces) × LevelOutside (ρ f)) ∷ (20 when (f : ℕ) × Zero f × (ρ f ≢ pos 0)) ∷ []
