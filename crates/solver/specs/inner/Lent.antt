-- What a question on an open drawing is lent: the arrays that opening left, two nodes, and a slice with a place for each edge.
use Rattle.std.specs.Prelude.{◌≡◌, List, ℕ, ◌*◌, ◌≤◌, length, take, ℤ}
use Rattle.arrays.specs.At.{at, atℤ}
use Rattle.arrays.specs.Maps.{map_of, right_of}
use Rattle.arrays.specs.declared.Sizes.{Sizes}
use Rattle.arrays.specs.inner.Drawn.{Drawn}
use Rattle.traversal.specs.inner.Forest.{Forest, RootsOf}
use Rattle.grouping.specs.Grouped.{Grouped}
use Rattle.grouping.specs.inner.OpenDrawing.{OpenDrawing}
use Rattle.lengths.specs.inner.Lengths.{Treed}
use Rattle.search.specs.Dual.{dual_of}
use Rattle.solver.specs.inner.Ends.{Ends}
use Rattle.solver.specs.inner.Search.{Searchable}

pub record Lent (n : Sizes) (source sink : ℕ) (tails rotations lefts : List ℕ) (capacities : List ℤ) (order from grouped starts : List ℕ) (flows : List ℤ)
    : Type 0 where
  pub opened : OpenDrawing n tails rotations lefts capacities order from grouped starts
  pub ends : Ends (map_of n.nodes n.edges tails rotations) source sink
  pub exact : length flows ≡ n.edges

-- the same of the drawing with another outer dart: its faces at 0 stand at the first places of a queue, one for each part
pub record LentRoots (n : Sizes) (source sink : ℕ) (tails rotations lefts : List ℕ) (capacities : List ℤ) (order from grouped starts queue : List ℕ)
    (flows : List ℤ) : Type 0 where
  pub drawn : Drawn (map_of n.nodes n.edges tails rotations) (at lefts) n.faces n.outer (atℤ capacities)
  pub treed : Treed (map_of n.nodes n.edges tails rotations) (2 * n.edges) (at order) (at from)
  pub groups : Grouped (right_of lefts) (2 * n.edges) n.faces grouped starts
  pub roots : RootsOf (2 * n.edges) (at rotations) n.outer (at lefts) (at queue) n.parts
  pub ends : Ends (map_of n.nodes n.edges tails rotations) source sink
  pub exact : length flows ≡ n.edges

-- what the search is lent, from roots that stand at the first places of a queue
pub record LentSearch (lefts : List ℕ) (capacities lengths : List ℤ) (grouped starts : List ℕ) (edges faces roots : ℕ) (parents queue : List ℕ)
    (flows : List ℤ) : Type 0 where
  pub few_edges : edges ≤ 512
  pub few_roots : roots ≤ 1024
  pub size_parents : length parents ≡ 1024
  pub size_queue : length queue ≡ 1024
  pub searchable : Searchable (dual_of lefts lengths (2 * edges) faces (take roots queue)) edges (atℤ capacities)
  pub groups : Grouped (right_of lefts) (2 * edges) faces grouped starts
  pub exact : length flows ≡ edges

-- the same before the roots are read off the walk
pub record LentWalk (n : Sizes) (rotations lefts : List ℕ) (capacities lengths : List ℤ) (order from grouped starts parents : List ℕ) (flows : List ℤ)
    : Type 0 where
  pub few_edges : n.edges ≤ 512
  pub few_parts : n.parts ≤ 1024
  pub size_parents : length parents ≡ 1024
  pub forest : Forest (2 * n.edges) (at rotations) n.outer (at order) (at from) n.parts
  pub searchable : (queue : List ℕ) → length queue ≡ 1024 → RootsOf (2 * n.edges) (at rotations) n.outer (at lefts) (at queue) n.parts
      → Searchable (dual_of lefts lengths (2 * n.edges) n.faces (take n.parts queue)) n.edges (atℤ capacities)
  pub groups : Grouped (right_of lefts) (2 * n.edges) n.faces grouped starts
  pub exact : length flows ≡ n.edges
