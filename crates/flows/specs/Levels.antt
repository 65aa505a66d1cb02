-- Levels. Document 01, "Faces, settings, levels": "Balanced settings (zero sum at every node) have face levels: flow on d = level of left(d) − level of
-- right(d), with face 0 at level 0." Which faces are at 0 is `ZeroFace`, from the drawing's outer dart.
use Rattle.std.specs.Prelude.{ℕ, ◌≡◌, ℤ, pos}
use Rattle.maps.specs.Map.{Map}
use Rattle.maps.specs.Potential.{Potentials}
use Rattle.flows.specs.Settings.{on_darts}
use Rattle.flows.specs.ZeroFace.{ZeroFace}

-- ρ are the levels of the settings x
pub record Levels (𝓜 : Map) (outer : ℕ) (x ρ : ℕ → ℤ) : Type 0 where
  pub differences : Potentials 𝓜 (on_darts x) ρ
  pub rooted : (f : ℕ) → ZeroFace 𝓜 outer f → ρ f ≡ pos 0
