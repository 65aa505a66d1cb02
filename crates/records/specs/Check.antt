-- The checks 3, 24 and 4 to 7, on numbers, so that a sheet's bytes and the slices given to Write are judged by one definition. Document 01, "Operations": "3 a
-- count out of range", and for each channel "4 an end is no node; 5 a turn is no dart; 6 a limit out of range; 7 the two limits add to less than zero."
-- "Ranges: 2 to 513 nodes; 1 to 512 channels; limits −1,000,000 to 1,000,000". Document 02, Job 6: "24, right after 3, means that the outer dart is no dart."
use Rattle.std.specs.Prelude.{ℕ, ◌+◌, ◌*◌, ◌≤◌, ◌<◌, ◌⊎◌, List, [], ◌∷◌, ℤ, pos, negsuc, ◌+ℤ◌, ◌<ℤ◌}
use Rattle.refusals.specs.Order.{Check, ◌when◌}
use Rattle.maps.specs.Drawing.{Drawing}

-- x is not one of low, .., high
abbrev pub Outside : ℕ → ℕ → ℕ → Type 0
Outside low high x = (x < low) ⊎ (high < x)

-- not from −1,000,000 to 1,000,000; negsuc 999999 is −1,000,000
abbrev pub CapacityOutside : ℤ → Type 0
CapacityOutside c = (c <ℤ negsuc 999999) ⊎ (pos 1000000 <ℤ c)

-- 3 and 24, on the numbers of a head: both counts, and the outer dart, which must be a dart of the drawing
unfoldable pub number_checks : (nodes edges outer : ℕ) → List Check
number_checks nodes edges outer = (3 when Outside 2 513 nodes ⊎ Outside 1 512 edges) ∷ (24 when 2 * edges ≤ outer) ∷ []

-- 6 and 7, on the two capacities of an edge
abbrev pub capacity_checks : (forward backward : ℤ) → List Check
capacity_checks forward backward =
    (6 when CapacityOutside forward ⊎ CapacityOutside backward)
    ∷ (7 when (forward +ℤ backward) <ℤ pos 0)
    ∷ []

-- 4 to 7 on the six fields of an edge's record, in their order there; a rotation must be a dart of the whole drawing
unfoldable pub field_checks : ℕ → ℕ → (tail head rotation backRotation : ℕ) (forward backward : ℤ) → List Check
field_checks nodes edges tail head rotation backRotation forward backward =
    (4 when (nodes ≤ tail) ⊎ (nodes ≤ head))
    ∷ (5 when (2 * edges ≤ rotation) ⊎ (2 * edges ≤ backRotation))
    ∷ capacity_checks forward backward

-- 4 to 7 on the edge e of a drawing
unfoldable pub edge_checks : Drawing → ℕ → List Check
edge_checks 𝓓 e =
    field_checks 𝓓.map.nodes 𝓓.map.edges
    (𝓓.map.tail (2 * e)) (𝓓.map.tail (2 * e + 1)) (𝓓.map.rotation (2 * e)) (𝓓.map.rotation (2 * e + 1)) (𝓓.capacity (2 * e)) (𝓓.capacity (2 * e + 1))
