-- Euler's formula: flat in each component, the map has nodes + faces = edges + 2 · components; a connected map is flat if and only if it is flat in its one
-- component.
use mathlib.Core.Path.{◌≡◌, refl, sym, ◌∙◌, ap, ap₂}
use mathlib.Core.Bool.{Bool, true, false, ◌&&◌}
use Prim.Native.Nat.{ℕ, zero, suc, ◌+◌, ◌*◌}
use native.Mathlib.Omega.{arith}
use lib.Dec.{eqb}
use Rattle.integers.specs.Sum.{Naturals, sum, sumℕ, bit, count}
use Rattle.integers.proofs.Tests.{eqb_true}
use Rattle.integers.proofs.Sums.{sum_ext, sum_add}
use Rattle.integers.proofs.Counting.{sum_ones, count_by_label}
use Rattle.maps.specs.Orbit.{is_lowest, orbits}
use Rattle.maps.specs.Map.{Map, darts}
use Rattle.maps.specs.Face.{step, faces}
use Rattle.maps.specs.Walk.{Components}
use Rattle.maps.specs.Flat.{nodes_in, edges_in, faces_in, FlatInEach}
use Rattle.maps.specs.Check.{InRange}

pub sum_twos : (k : ℕ) → sumℕ k (λ c. 2) ≡ 2 * k
unfolding sum
sum_twos zero = refl
sum_twos (suc k) = omega (arith, sum_twos k)

module _ {𝓜 : Map} (range : InRange 𝓜) {k : ℕ} {part : ℕ → ℕ} (κ : Components 𝓜 k part) where
  pub nodes_whole : sumℕ k (nodes_in 𝓜 part) ≡ 𝓜.nodes
  nodes_whole = count_by_label 𝓜.nodes k part (λ v. true) κ.below ∙ sum_ones 𝓜.nodes

  pub edges_whole : sumℕ k (edges_in 𝓜 part) ≡ 𝓜.edges
  edges_whole =
      count_by_label 𝓜.edges k (λ e. part (𝓜.tail (2 * e))) (λ e. true) (λ e l. κ.below (𝓜.tail (2 * e)) (range.tail_in (2 * e) (omega arith)))
      ∙ sum_ones 𝓜.edges

  pub faces_whole : sumℕ k (faces_in 𝓜 part) ≡ faces 𝓜
  unfolding faces orbits
  faces_whole = count_by_label (darts 𝓜) k (λ d. part (𝓜.tail d)) (is_lowest (darts 𝓜) (step 𝓜)) (λ d l. κ.below (𝓜.tail d) (range.tail_in d l))

  pub euler : FlatInEach 𝓜 k part → 𝓜.nodes + faces 𝓜 ≡ 𝓜.edges + 2 * k
  euler flat =
      sym (ap₂ ◌+◌ nodes_whole faces_whole)
      ∙ sym (sum_add Naturals k (nodes_in 𝓜 part) (faces_in 𝓜 part))
      ∙ sum_ext Naturals k (λ c. nodes_in 𝓜 part c + faces_in 𝓜 part c) (λ c. edges_in 𝓜 part c + 2) flat
      ∙ sum_add Naturals k (edges_in 𝓜 part) (λ c. 2)
      ∙ ap₂ ◌+◌ edges_whole (sum_twos k)

-- the one component of a connected map holds everything
module _ (𝓜 : Map) where
  in_all : (n : ℕ) (b : ℕ → Bool) → count n (λ i. b i && eqb 0 0) ≡ count n b
  in_all n b = sum_ext Naturals n (λ i. bit (b i && eqb 0 0)) (λ i. bit (b i)) (λ i l. ap bit (and_true (b i)))
    where
      and_true : (x : Bool) → x && eqb 0 0 ≡ x
      and_true true = eqb_true 0 0 refl
      and_true false = refl

  whole_nodes : nodes_in 𝓜 (λ v. 0) 0 ≡ 𝓜.nodes
  whole_nodes = in_all 𝓜.nodes (λ v. true) ∙ sum_ones 𝓜.nodes

  whole_edges : edges_in 𝓜 (λ v. 0) 0 ≡ 𝓜.edges
  whole_edges = in_all 𝓜.edges (λ v. true) ∙ sum_ones 𝓜.edges

  whole_faces : faces_in 𝓜 (λ v. 0) 0 ≡ faces 𝓜
  unfolding faces orbits
  whole_faces = in_all (darts 𝓜) (is_lowest (darts 𝓜) (step 𝓜))

  pub flat_in_one : 𝓜.nodes + faces 𝓜 ≡ 𝓜.edges + 2 → FlatInEach 𝓜 1 (λ v. 0)
  flat_in_one flat c l = rw none (ap₂ ◌+◌ whole_nodes whole_faces ∙ flat ∙ ap (λ x. x + 2) (sym whole_edges))
    where
      none : c ≡ 0
      none = omega arith

  pub flat_of_one : FlatInEach 𝓜 1 (λ v. 0) → 𝓜.nodes + faces 𝓜 ≡ 𝓜.edges + 2
  flat_of_one flat = sym (ap₂ ◌+◌ whole_nodes whole_faces) ∙ flat 0 (omega arith) ∙ ap (λ x. x + 2) whole_edges
