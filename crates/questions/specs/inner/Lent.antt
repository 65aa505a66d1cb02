-- What the operations on an open drawing are lent: it, with the capacities of a sheet; and what Mark looks at of it.
use Rattle.std.specs.Prelude.{List, ℕ, ◌*◌, ◌≤◌, ◌<◌, ℤ}
use Rattle.integers.specs.inner.Limited.{Limited}
use Rattle.arrays.specs.At.{at, atℤ}
use Rattle.arrays.specs.declared.Sizes.{Sizes}
use Rattle.arrays.specs.inner.Sizes.{most_on_sheet}
use Rattle.grouping.specs.inner.OpenDrawing.{OpenDrawing}

-- a drawing that is open, no capacity of it greater than a sheet's
pub record OpenSheet (n : Sizes) (tails rotations lefts : List ℕ) (capacities : List ℤ) (order from grouped starts : List ℕ) : Type 0 where
  pub opened : OpenDrawing n tails rotations lefts capacities order from grouped starts
  pub small : (d : ℕ) → d < 2 * n.edges → Limited most_on_sheet (atℤ capacities d)

-- its tails are nodes, and its capacities those of a sheet: flows within these can be added up
pub record OpenPaper (n : Sizes) (tails : List ℕ) (capacities : List ℤ) : Type 0 where
  pub few_nodes : n.nodes ≤ 1024
  pub few_edges : n.edges ≤ 512
  pub tails_in : (d : ℕ) → d < 2 * n.edges → at tails d < n.nodes
  pub small : (d : ℕ) → d < 2 * n.edges → Limited most_on_sheet (atℤ capacities d)
