-- What the search for a capacity is lent: an open drawing with two nodes and a slice with a place for each edge, whose capacities it may change; an edge, and a
-- value to carry.
use Rattle.std.specs.Prelude.{◌≡◌, List, ℕ, ◌*◌, ◌<◌, length, ℤ}
use Rattle.integers.specs.inner.Limited.{Limited}
use Rattle.arrays.specs.At.{atℤ}
use Rattle.arrays.specs.declared.Sizes.{Sizes}
use Rattle.arrays.specs.inner.Sizes.{most_on_sheet, most_value}
use Rattle.solver.specs.inner.Lent.{Lent}

pub record Liftable (n : Sizes) (source sink : ℕ) (value : ℤ) (edge : ℕ) (tails rotations lefts : List ℕ) (capacities : List ℤ)
    (order from grouped starts : List ℕ) (flows : List ℤ) (inside : List ℕ) : Type 0 where
  pub capacities_long : length capacities ≡ 1024
  pub inside_long : length inside ≡ 1024
  pub lent : Lent n source sink tails rotations lefts capacities order from grouped starts flows
  pub edge_in : edge < n.edges
  pub limited : Limited most_value value
  pub present : Limited most_on_sheet (atℤ capacities (2 * edge))
