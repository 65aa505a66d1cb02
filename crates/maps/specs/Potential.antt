-- Potentials of faces ("levels"). Document 01, "Faces, settings, levels": "Balanced settings (zero sum at every node) have face levels: flow on d =
-- level of left(d) − level of right(d), with face 0 at level 0." With several components, each has one face at 0 (document 02, Job 8).
use Rattle.std.specs.Prelude.{ℕ, ◌<◌, ◌≡◌, eqb, ℤ, pos, ◌-ℤ◌}
use Rattle.integers.specs.Sum.{sumℤ, when}
use Rattle.maps.specs.Map.{Map, darts, head}
use Rattle.maps.specs.Face.{left, right}

-- the flow on d that face potentials ρ give
abbrev pub difference : Map → (ℕ → ℤ) → ℕ → ℤ
difference 𝓜 ρ d = ρ (left 𝓜 d) -ℤ ρ (right 𝓜 d)

-- ρ are potentials of φ
abbrev pub Potentials : Map → (ℕ → ℤ) → (ℕ → ℤ) → Type 0
Potentials 𝓜 φ ρ = (d : ℕ) → d < darts 𝓜 → φ d ≡ difference 𝓜 ρ d

-- `root c` is a face of the component c, for each c below k
pub record Roots (𝓜 : Map) (k : ℕ) (part root : ℕ → ℕ) : Type 0 where
  pub of : (c : ℕ) → c < k → (d : ℕ) × (d < darts 𝓜) × (left 𝓜 d ≡ root c) × (part (𝓜.tail d) ≡ c)

-- each component's root face is at 0
abbrev pub RootedAtZero : ℕ → (ℕ → ℕ) → (ℕ → ℤ) → Type 0
RootedAtZero k root ρ = (c : ℕ) → c < k → ρ (root c) ≡ pos 0

-- the dual: the sum of a over the darts around the face f, and heights h of the nodes that a is the difference of
unfoldable pub around : Map → (ℕ → ℤ) → ℕ → ℤ
around 𝓜 a f = sumℤ (darts 𝓜) (λ d. when (eqb f (left 𝓜 d)) (a d))

abbrev pub Heights : Map → (ℕ → ℤ) → (ℕ → ℤ) → Type 0
Heights 𝓜 a h = (d : ℕ) → d < darts 𝓜 → a d ≡ h (𝓜.tail d) -ℤ h (head 𝓜 d)
