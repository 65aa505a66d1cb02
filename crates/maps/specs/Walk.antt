-- Walks along edges, and components. Document 01, "Faces, settings, levels": "A drawing is connected if its channels, followed either way, lead from
-- every node to every other". A dart is an edge followed one of the two ways. A component is what document 02, Job 8, calls a part.
use Rattle.std.specs.Prelude.{ℕ, ◌<◌, ◌≡◌}
use Rattle.maps.specs.Map.{Map, darts, head}

pub data Walk (𝓜 : Map) : ℕ → ℕ → Type 0 where
  here : {v : ℕ} → Walk 𝓜 v v
  along : {v w : ℕ} (d : ℕ) → d < darts 𝓜 → 𝓜.tail d ≡ v → Walk 𝓜 (head 𝓜 d) w → Walk 𝓜 v w

abbrev pub Connected : Map → Type 0
Connected 𝓜 = (v w : ℕ) → v < 𝓜.nodes → w < 𝓜.nodes → Walk 𝓜 v w

-- `part` numbers the components 0, .., k - 1: two nodes have one number if and only if a walk joins them, and each number is some node's
pub record Components (𝓜 : Map) (k : ℕ) (part : ℕ → ℕ) : Type 0 where
  pub below : (v : ℕ) → v < 𝓜.nodes → part v < k
  pub joined : (v w : ℕ) → v < 𝓜.nodes → w < 𝓜.nodes → part v ≡ part w → Walk 𝓜 v w
  pub agree : (v w : ℕ) → v < 𝓜.nodes → w < 𝓜.nodes → Walk 𝓜 v w → part v ≡ part w
  pub used : (c : ℕ) → c < k → (v : ℕ) × (v < 𝓜.nodes) × (part v ≡ c)
