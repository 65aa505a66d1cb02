-- Heights of the nodes from the differences along the darts ("winding"), in the order in which a walk over the darts met them:
-- what filling them needs, and what it leaves.
use Rattle.std.specs.Prelude.{◌≡◌, ℕ, ◌≤◌, ◌<◌, ℤ, pos, ◌-ℤ◌}
use Rattle.integers.specs.inner.Limited.{Limited}
use Rattle.maps.specs.Dart.{rev}
use Rattle.traversal.specs.inner.Forest.{Forest}
use Rattle.arrays.specs.inner.Sizes.{most_winding, most_height}

-- a node for each part, the same at both ends of a dart: the node of the first dart of the part's tree, which is marked with its own number
pub record Based (darts : ℕ) (tail order from : ℕ → ℕ) : Type 0 where
  pub base : ℕ → ℕ
  pub across : (d : ℕ) → d < darts → base (tail (rev d)) ≡ base (tail d)
  pub at_start : (i : ℕ) → i < darts → from (order i) ≡ order i → base (tail (order i)) ≡ tail (order i)

-- the order is that of a walk over all darts, tree by tree
pub record Fillable (darts : ℕ) (tail order from : ℕ → ℕ) (winding : ℕ → ℤ) : Type 0 where
  pub few : darts ≤ 1024
  pub tail_in : (d : ℕ) → d < darts → tail d < 1024
  pub small : (d : ℕ) → d < darts → Limited most_winding (winding d)
  pub rotation : ℕ → ℕ
  pub same_tail : (d : ℕ) → d < darts → tail (rotation d) ≡ tail d
  pub back_in : (d : ℕ) → d < darts → rev d < darts
  pub first : ℕ
  pub trees : ℕ
  pub forest : Forest darts rotation first order from trees
  pub based : Based darts tail order from

-- numbers of the nodes whose differences along the darts are the winding: `Heights` of a map with these tails
abbrev pub HeightsOf : ℕ → (ℕ → ℕ) → (ℕ → ℤ) → (ℕ → ℤ) → Type 0
HeightsOf darts tail winding height = (d : ℕ) → d < darts → winding d ≡ height (tail d) -ℤ height (tail (rev d))

-- where there are such heights, these are such
pub record Filled (darts : ℕ) (tail : ℕ → ℕ) (winding height : ℕ → ℤ) : Type 0 where
  pub right : (H : ℕ → ℤ) → HeightsOf darts tail winding H → HeightsOf darts tail winding height
  pub limited : (d : ℕ) → d < darts → Limited most_height (height (tail d))

-- and the node of the first dart of each tree is at 0
pub record Rooted (darts : ℕ) (tail order from : ℕ → ℕ) (winding height : ℕ → ℤ) : Type 0 where
  pub zero : (H : ℕ → ℤ) → HeightsOf darts tail winding H → (i : ℕ) → i < darts → from (order i) ≡ order i → height (tail (order i)) ≡ pos 0
