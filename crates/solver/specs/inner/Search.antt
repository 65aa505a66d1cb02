-- The three steps of a decision: the lengths of the darts for a value, the search on the dual graph, which ends with flows or with a ring,
-- and the set of nodes made from a ring.
use Rattle.std.specs.Prelude.{◌≡◌, Bool, true, false, List, ℕ, ◌*◌, ◌≤◌, ◌<◌, ℤ, pos, ◌+ℤ◌, ◌≤ℤ◌, Ok, Err}
use Rattle.integers.specs.inner.Limited.{Limited}
use Rattle.maps.specs.Dart.{rev}
use Rattle.maps.specs.Map.{Map, darts, head}
use Rattle.maps.specs.Walk.{Walk}
use Rattle.arrays.specs.Filled.{filled}
use Rattle.search.specs.Dual.{Dual, WellFormed, Joined}
use Rattle.search.specs.Parents.{ParentRing}
use Rattle.search.specs.inner.Settled.{Settled}
use Rattle.search.specs.inner.OfMap.{OfMap}
use Rattle.search.specs.Outcome.{Outcome}
use Rattle.flows.specs.inner.Plane.{Plane}
use Rattle.flows.specs.inner.UnitFlow.{Carrier}
use Rattle.flows.specs.inner.Lengths.{length_for}
use Rattle.edge_flows.specs.inner.Flow.{flow_of}
use Rattle.flows.specs.ProvingSet.{Proves}
use Rattle.arrays.specs.inner.Flags.{flagged}
use Rattle.arrays.specs.inner.Sizes.{most_length, most_capacity}

-- the lengths of the darts for a value from s to t: the capacity, less the value along what carries it
pub record Lengthened (𝓜 : Map) (s t : ℕ) (capacity : ℕ → ℤ) (value : ℤ) (length : ℕ → ℤ) : Type 0 where
  pub along : ℕ → ℤ
  pub carrier : Carrier 𝓜 s t value along
  pub is : (d : ℕ) → d < darts 𝓜 → length d ≡ length_for capacity along value d
  pub short : (d : ℕ) → d < darts 𝓜 → Limited most_length (length d)

-- the nodes of the part that the dart d is in are in S, and those of no other part: whole parts, the one of d, and no node that no walk leads to from there
pub record PartFlagged (𝓜 : Map) (d : ℕ) (S : ℕ → Bool) : Type 0 where
  pub whole : (e : ℕ) → e < darts 𝓜 → S (𝓜.tail e) ≡ S (head 𝓜 e)
  pub holds : S (𝓜.tail d) ≡ true
  pub others : (e : ℕ) → e < darts 𝓜 → (Walk 𝓜 (𝓜.tail d) (𝓜.tail e) → ⊥) → S (𝓜.tail e) ≡ false

-- what is searched: lengths of the two darts of an edge add up as their capacities do, so that settled potentials make flows within the capacities
pub record Searchable (N : Dual) (edges : ℕ) (capacity : ℕ → ℤ) : Type 0 where
  pub sound : WellFormed N
  pub joined : Joined N
  pub darts_are : N.darts ≡ 2 * edges
  pub small : (d : ℕ) → d < N.darts → Limited most_capacity (capacity d)
  pub sums : (d : ℕ) → d < N.darts → N.length d +ℤ N.length (rev d) ≡ capacity d +ℤ capacity (rev d)

abbrev pub Searched : Dual → (edges : ℕ) → (ℕ → ℤ) → (flows flows' : List ℤ) → (parent : ℕ → ℕ) → Outcome → Type 0
Searched N edges capacity flows flows' parent (Ok _) =
    (ρ : ℕ → ℤ) × Settled N ρ × (flows' ≡ filled edges (flow_of N.left capacity N.length ρ) flows)
Searched N edges capacity flows flows' parent (Err r) = (flows' ≡ flows) × (r.dart < N.darts) × ParentRing N parent (N.left r.dart)

-- a ring of parents on the dual of a plane map
pub record Ringed (𝓜 : Map) (N : Dual) (parent : ℕ → ℕ) (y : ℕ) : Type 0 where
  pub plane : Plane 𝓜
  pub few_nodes : 𝓜.nodes ≤ 1024
  pub few_edges : 𝓜.edges ≤ 512
  pub of : OfMap N 𝓜
  pub few_faces : N.faces ≤ 1024
  pub short : (d : ℕ) → d < darts 𝓜 → Limited most_length (N.length d)
  pub pairs : (d : ℕ) → d < darts 𝓜 → pos 0 ≤ℤ (N.length d +ℤ N.length (rev d))
  pub ring : ParentRing N parent y

-- true: nothing carries the value because source and sink are in different parts, and the flagged nodes prove it (document 02, Job 8); false: the lengths are
-- known
abbrev pub Measured : Map → (s t : ℕ) → (ℕ → ℤ) → ℤ → (length : ℕ → ℤ) → (inside : List ℕ) → Bool → Type 0
Measured 𝓜 s t capacity value length inside true = Proves 𝓜 capacity s t value (flagged inside)
Measured 𝓜 s t capacity value length inside false = Lengthened 𝓜 s t capacity value length
