-- For a caller that holds a sound map: what a walk over all its darts leaves is what `fill_heights` needs, and what that fills are the heights of the nodes.
use mathlib.Core.Path.{◌≡◌, sym, ◌∙◌, ap}
use mathlib.Core.Logic.{◌⊎◌, inl, inr}
use Prim.Native.Nat.{ℕ, ◌≤◌, ◌<◌}
use native.Mathlib.Omega.{arith}
use lib.IntN.{ℤ}
use Rattle.maps.specs.Map.{Map, darts}
use Rattle.maps.specs.Check.{Sound}
use Rattle.maps.proofs.Darts.{rev_in}
use Rattle.maps.proofs.Faces.{part_head}
use Rattle.traversal.specs.inner.Forest.{Reached, Forest}
use Rattle.traversal.proofs.Forests.{tree_of, trees_components, tree_of_start}
use Rattle.heights.specs.inner.Heights.{Based, Fillable}
use Rattle.integers.specs.inner.Limited.{Limited}
use Rattle.arrays.specs.inner.Sizes.{most_winding}

module _ {𝓜 : Map} (σ : Sound 𝓜) {first : ℕ} {order from : ℕ → ℕ} {trees : ℕ} (𝓕 : Forest (darts 𝓜) 𝓜.rotation first order from trees) where
  -- the node of the first dart of a node's tree
  based : Based (darts 𝓜) 𝓜.tail order from
  based = record {
    base = λ v. 𝓜.tail (order (𝓕.planted.begins (tree_of σ 𝓕 v)));
    across = λ d l. ap (λ t. 𝓜.tail (order (𝓕.planted.begins t))) (part_head σ (trees_components σ 𝓕) d l);
    at_start = λ i l own. go i l own (𝓕.planted.met i l);
  }
    where
      go : (i : ℕ) → i < darts 𝓜 → from (order i) ≡ order i
          → ((t : ℕ) × (t < trees) × (𝓕.planted.begins t ≡ i)) ⊎ Reached 𝓜.rotation order from i
          → 𝓜.tail (order (𝓕.planted.begins (tree_of σ 𝓕 (𝓜.tail (order i))))) ≡ 𝓜.tail (order i)
      go i l own (inl (t, m, e)) =
          ap (λ x. 𝓜.tail (order (𝓕.planted.begins (tree_of σ 𝓕 (𝓜.tail (order x)))))) (sym e)
          ∙ ap (λ u. 𝓜.tail (order (𝓕.planted.begins u))) (tree_of_start σ 𝓕 t m)
          ∙ ap (λ x. 𝓜.tail (order x)) e
      go i l own (inr r) = absurd (omega (arith, r.1, 𝓕.apart r.0 i (omega (arith, r.1)) l (r.2 ∙ own)))

  pub sound_fillable : 𝓜.nodes ≤ 1024 → darts 𝓜 ≤ 1024 → {winding : ℕ → ℤ} → ((d : ℕ) → d < darts 𝓜 → Limited most_winding (winding d))
      → Fillable (darts 𝓜) 𝓜.tail order from winding
  sound_fillable nodes few small = record {
    few = few;
    tail_in = λ d l. omega (arith, nodes, σ.range.tail_in d l);
    small = small;
    rotation = 𝓜.rotation;
    same_tail = σ.same_tail;
    back_in = rev_in 𝓜.edges;
    first = first;
    trees = trees;
    forest = 𝓕;
    based = based;
  }
