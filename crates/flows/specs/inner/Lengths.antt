-- Lengths of darts for a value. Document 01, "The highest answer": "with any headgate-to-outfall path, a dart on the path is shortened by the delivery and its
-- reverse lengthened". The path is a unit flow π here, or any other carrier of the value: the length of a dart is its capacity less the value along π.
use Rattle.std.specs.Prelude.{ℕ, ◌*◌, ◌<◌, ℤ, ◌+ℤ◌, ◌-ℤ◌, ◌*ℤ◌, ◌≤ℤ◌}
use Rattle.maps.specs.Map.{Map, darts}
use Rattle.maps.specs.Face.{left, right}
use Rattle.maps.specs.Potential.{difference}

-- the length of a dart
abbrev pub length_for : (ℕ → ℤ) → (ℕ → ℤ) → ℤ → ℕ → ℤ
length_for c π value d = c d -ℤ value *ℤ π d

-- no dart can lower a potential
abbrev pub Feasible : Map → (ℕ → ℤ) → (ℕ → ℤ) → Type 0
Feasible 𝓜 length ρ = (d : ℕ) → d < darts 𝓜 → ρ (left 𝓜 d) ≤ℤ (ρ (right 𝓜 d) +ℤ length d)

-- the flow of the darts, and of the edges, that potentials and a value make
abbrev pub made : Map → (ℕ → ℤ) → ℤ → (ℕ → ℤ) → ℕ → ℤ
made 𝓜 π value ρ d = difference 𝓜 ρ d +ℤ value *ℤ π d

abbrev pub edge_flow : Map → (ℕ → ℤ) → ℤ → (ℕ → ℤ) → ℕ → ℤ
edge_flow 𝓜 π value ρ e = made 𝓜 π value ρ (2 * e)
