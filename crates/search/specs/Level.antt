-- What it is for a face to have a level, and for a dart to lower one. A level is a potential in the making.
-- Document 02, Job 3: "a first level counts as a fall", "a dart can lower a level".
use Rattle.std.specs.Prelude.{◌≡◌, ℕ, ℤ, pos, ◌+ℤ◌, ◌<ℤ◌}
use Rattle.search.specs.Dual.{Dual}

-- what stands in the place of a level where no walk from a root has come yet: more than any level
abbrev pub far : ℤ
far = pos 2000000000000000

abbrev pub HasLevel : (ℕ → ℤ) → ℕ → Type 0
HasLevel ρ f = ρ f ≡ far → ⊥

-- crossing d from its right face, which has a level, leads to its left face at less than that has, if it has one
abbrev pub CanLower : Dual → (ℕ → ℤ) → ℕ → Type 0
CanLower N ρ d = HasLevel ρ (N.right d) × ((ρ (N.right d) +ℤ N.length d) <ℤ ρ (N.left d))
