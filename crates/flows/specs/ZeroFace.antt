-- The faces at level 0. Document 01, "Faces, settings, levels": "with face 0 at level 0". Document 02, Job 6: the face of the dart that the head names
-- "replaces face 0 as the one at level 0, in the highest answer, both level operations and refusal 20": the face left of the drawing's outer dart, which holds
-- it. With dart 0, which lies on face 0, that is document 01's. Document 02, Job 8: "Each part has one face at level 0: the outer dart's face in its own part,
-- the lowest-numbered face in the others." Two nodes are in one part if a walk joins them.
use Rattle.std.specs.Prelude.{ℕ, ◌≤◌, ◌<◌, ◌≡◌, ◌⊎◌}
use Rattle.maps.specs.Map.{Map, darts}
use Rattle.maps.specs.Face.{left}
use Rattle.maps.specs.Walk.{Walk}

-- f is the lowest-numbered face of a part that the outer dart is not in
pub record LowestElsewhere (𝓜 : Map) (outer f : ℕ) : Type 0 where
  pub dart : ℕ
  pub dart_in : dart < darts 𝓜
  pub holds : left 𝓜 dart ≡ f
  pub elsewhere : Walk 𝓜 (𝓜.tail dart) (𝓜.tail outer) → ⊥
  pub lowest : (e : ℕ) → e < darts 𝓜 → Walk 𝓜 (𝓜.tail dart) (𝓜.tail e) → f ≤ left 𝓜 e

abbrev pub ZeroFace : Map → (outer : ℕ) → ℕ → Type 0
ZeroFace 𝓜 outer f = (f ≡ left 𝓜 outer) ⊎ LowestElsewhere 𝓜 outer f
