-- The walk over all darts, tree by tree: from `first`, then from the lowest dart that was not met, and so on until all are. Document 02, Job 8: a tree is the
-- walk over one part of a sheet.
use Rattle.std.specs.Prelude.{◌≡◌, ◌⊎◌, ◌≢◌, ℕ, ◌≤◌, ◌<◌}
use Rattle.maps.specs.Dart.{rev}
use Rattle.traversal.specs.inner.Mark.{unmarked}
use Rattle.traversal.specs.inner.Spread.{Met, Follows}

-- the dart at place i of the order was met from one listed before it
abbrev pub Reached : (rotation order from : ℕ → ℕ) → ℕ → Type 0
Reached rotation order from i = (j : ℕ) × (j < i) × (order j ≡ from (order i)) × Follows rotation (order i) (from (order i))

-- tree t begins at place `begins t`; its first dart is marked with its own number. The darts listed before a tree lead to no other dart, and of the darts that
-- they leave out its first is the lowest.
pub record Trees (rotation : ℕ → ℕ) (first : ℕ) (order from : ℕ → ℕ) (end trees : ℕ) : Type 0 where
  pub begins : ℕ → ℕ
  pub begins_in : (t : ℕ) → t < trees → begins t < end
  pub at_first : 0 < trees → (begins 0 ≡ 0) × (order 0 ≡ first)
  pub rising : (t u : ℕ) → t < u → u < trees → begins t < begins u
  pub own : (t : ℕ) → t < trees → from (order (begins t)) ≡ order (begins t)
  pub met : (i : ℕ) → i < end → ((t : ℕ) × (t < trees) × (begins t ≡ i)) ⊎ Reached rotation order from i
  pub closed : (t : ℕ) → t < trees → (i : ℕ) → i < begins t → Met order (begins t) (rotation (order i)) × Met order (begins t) (rev (order i))
  pub lowest : (t : ℕ) → 0 < t → t < trees → (e : ℕ) → e < order (begins t) → Met order (begins t) e

-- all darts are listed, each once
pub record Forest (darts : ℕ) (rotation : ℕ → ℕ) (first : ℕ) (order from : ℕ → ℕ) (trees : ℕ) : Type 0 where
  pub some : 0 < trees
  pub inside : (i : ℕ) → i < darts → order i < darts
  pub apart : (i j : ℕ) → i < darts → j < darts → order i ≡ order j → i ≡ j
  pub planted : Trees rotation first order from darts trees

-- on the way: the first `end` places of the order are filled, the darts before `front` have both their neighbours listed, and so many trees have begun
pub record Growing (darts : ℕ) (rotation : ℕ → ℕ) (first : ℕ) (order from : ℕ → ℕ) (front end trees : ℕ) : Type 0 where
  pub ordered : front ≤ end
  pub inside : (i : ℕ) → i < end → order i < darts
  pub apart : (i j : ℕ) → i < end → j < end → order i ≡ order j → i ≡ j
  pub marked : (i : ℕ) → i < end → from (order i) ≢ unmarked
  pub listed : (y : ℕ) → y < darts → from y ≢ unmarked → Met order end y
  pub done : (i : ℕ) → i < front → (from (rotation (order i)) ≢ unmarked) × (from (rev (order i)) ≢ unmarked)
  pub planted : Trees rotation first order from end trees

-- d may begin the next tree: it was not met, and it is `first`, with nothing listed before it, or the lowest dart not met
pub record Plantable (darts first : ℕ) (from : ℕ → ℕ) (end trees d : ℕ) : Type 0 where
  pub inside : d < darts
  pub fresh : from d ≡ unmarked
  pub next : ((trees ≡ 0) × (end ≡ 0) × (d ≡ first)) ⊎ ((0 < trees) × ((e : ℕ) → e < d → from e ≢ unmarked))

-- the faces left of the first darts of the trees, in their order
pub record RootsOf (darts : ℕ) (rotation : ℕ → ℕ) (first : ℕ) (left roots : ℕ → ℕ) (trees : ℕ) : Type 0 where
  pub order : ℕ → ℕ
  pub from : ℕ → ℕ
  pub forest : Forest darts rotation first order from trees
  pub are : (t : ℕ) → t < trees → roots t ≡ left (order (forest.planted.begins t))

-- the same of this order: its trees' first darts, and no place behind is written
pub record RootsHere (darts : ℕ) (rotation : ℕ → ℕ) (first : ℕ) (left order from before after : ℕ → ℕ) (trees : ℕ) : Type 0 where
  pub are : (𝓕 : Forest darts rotation first order from trees) → (t : ℕ) → t < trees → after t ≡ left (order (𝓕.planted.begins t))
  pub kept : (i : ℕ) → trees ≤ i → after i ≡ before i
