-- What a question on the largest value is lent while its bounds close in.
use Rattle.std.specs.Prelude.{◌≡◌, List, ℕ, ◌*◌, ◌≤◌, ◌<◌, length, ℤ}
use Rattle.integers.specs.inner.Limited.{Limited}
use Rattle.arrays.specs.At.{at, atℤ}
use Rattle.arrays.specs.Maps.{map_of}
use Rattle.arrays.specs.declared.Sizes.{Sizes}
use Rattle.arrays.specs.declared.Terminals.{Terminals}
use Rattle.solver.specs.inner.Lent.{Lent}
use Rattle.maximum.specs.inner.Bracket.{Bracket}
use Rattle.maximum.specs.declared.Pending.{Pending}

-- `before` is the slice as it was before any value was found
pub record Underway (n : Sizes) (q : Pending) (tails rotations lefts : List ℕ) (capacities : List ℤ) (order from grouped starts : List ℕ)
    (before flows : List ℤ) (A B : List ℕ) : Type 0 where
  pub lent : Lent n q.terminals.source q.terminals.sink tails rotations lefts capacities order from grouped starts flows
  pub small : (d : ℕ) → d < 2 * n.edges → Limited 1000000 (atℤ capacities d)
  pub size_a : length A ≡ 1024
  pub size_b : length B ≡ 1024
  pub bracket : Bracket (map_of n.nodes n.edges tails rotations) n.outer (atℤ capacities) q.terminals.source q.terminals.sink
      before flows A B q.bounds.low q.bounds.high q.bounds.found

-- what the pivots are lent
pub record LentPivots (n : Sizes) (t : Terminals) (tails : List ℕ) (capacities flows : List ℤ) (parents A : List ℕ) : Type 0 where
  pub few_nodes : n.nodes ≤ 1024
  pub few_edges : n.edges ≤ 512
  pub source_in : t.source < 1024
  pub sink_in : t.sink < 1024
  pub tails_in : (d : ℕ) → d < 2 * n.edges → at tails d < 1024
  pub small : (d : ℕ) → d < 2 * n.edges → Limited 2000000 (atℤ capacities d)
  pub size_parents : length parents ≡ 1024
  pub size_a : length A ≡ 1024
  pub exact : length flows ≡ n.edges
