-- Flatness. Document 01, "Faces, settings, levels": "flat if nodes − channels + faces = 2". Document 02, Job 8: "Flat now means that nodes − channels + faces
-- = 2 in each part." A part is a component here. Said without the minus: nodes + faces = edges + 2.
use Rattle.std.specs.Prelude.{ℕ, ◌+◌, ◌*◌, ◌<◌, ◌≡◌, ◌&&◌, eqb}
use Rattle.integers.specs.Sum.{count}
use Rattle.maps.specs.Orbit.{is_lowest}
use Rattle.maps.specs.Map.{Map, darts}
use Rattle.maps.specs.Face.{step}
use Rattle.maps.specs.Walk.{Components}

-- the nodes, edges and faces of the component c: an edge belongs where its tail does, and a face where its lowest dart's tail does
abbrev pub nodes_in : Map → (ℕ → ℕ) → ℕ → ℕ
nodes_in 𝓜 part c = count 𝓜.nodes (λ v. eqb c (part v))

abbrev pub edges_in : Map → (ℕ → ℕ) → ℕ → ℕ
edges_in 𝓜 part c = count 𝓜.edges (λ e. eqb c (part (𝓜.tail (2 * e))))

abbrev pub faces_in : Map → (ℕ → ℕ) → ℕ → ℕ
faces_in 𝓜 part c = count (darts 𝓜) (λ d. is_lowest (darts 𝓜) (step 𝓜) d && eqb c (part (𝓜.tail d)))

-- a map of k components is flat in each
abbrev pub FlatInEach : Map → ℕ → (ℕ → ℕ) → Type 0
FlatInEach 𝓜 k part = (c : ℕ) → c < k → nodes_in 𝓜 part c + faces_in 𝓜 part c ≡ edges_in 𝓜 part c + 2

-- flat: in each component, however they are numbered. Every map has them numbered, always by as many, and is flat by one numbering if by any
-- (`components_numbered`, `components_counted`, `flat_in_any`).
pub record Flat (𝓜 : Map) : Type 0 where
  pub parts : ℕ
  pub part : ℕ → ℕ
  pub components : Components 𝓜 parts part
  pub in-each : FlatInEach 𝓜 parts part
