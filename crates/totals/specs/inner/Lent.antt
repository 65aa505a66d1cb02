-- What the sums along the rounds of the nodes are lent: a sound map with the capacities of a sheet, and the words of a set, as many as the nodes need.
use Rattle.std.specs.Prelude.{◌≡◌, List, ℕ, ◌*◌, ◌≤◌, ◌<◌, length, ℤ}
use Rattle.integers.specs.inner.Limited.{Limited}
use Rattle.maps.specs.Check.{Sound}
use Rattle.flows.specs.ProvingSet.{words_for}
use Rattle.arrays.specs.At.{atℤ}
use Rattle.arrays.specs.Maps.{map_of}
use Rattle.arrays.specs.inner.Sizes.{most_on_sheet}

pub record TotalsLent (nodes edges : ℕ) (tails rotations : List ℕ) (capacities : List ℤ) (set : List ℕ) : Type 0 where
  pub few_nodes : nodes ≤ 1024
  pub few_edges : edges ≤ 512
  pub sound : Sound (map_of nodes edges tails rotations)
  pub small : (d : ℕ) → d < 2 * edges → Limited most_on_sheet (atℤ capacities d)
  pub exact : length set ≡ words_for nodes
