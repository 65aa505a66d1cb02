-- Lengths of the darts for a value: the capacity, less the value along a way through the trees of a walk over all darts. The way leads from one dart up to the
-- first dart of its tree, and from there down to another dart. What filling the lengths needs, and what it leaves.
use Rattle.std.specs.Prelude.{◌≡◌, ◌⊎◌, ◌≢◌, Bool, true, false, ℕ, zero, suc, ◌≤◌, ◌<◌, eqb, ℤ, pos, negsuc, ◌+ℤ◌, ◌-ℤ◌, ◌*ℤ◌}
use Rattle.integers.specs.Sum.{when}
use Rattle.integers.specs.inner.Limited.{Limited}
use Rattle.maps.specs.Dart.{rev}
use Rattle.maps.specs.Orbit.{iter}
use Rattle.maps.specs.Map.{Map, darts}
use Rattle.maps.specs.Check.{Sound}
use Rattle.maps.specs.Flow.{Antisymmetric}
use Rattle.maps.specs.Walk.{Walk}
use Rattle.flows.specs.inner.UnitFlow.{UnitFlow, single, walk_flow}
use Rattle.flows.specs.inner.Lengths.{length_for}
use Rattle.traversal.specs.inner.Forest.{Forest}
use Rattle.arrays.specs.inner.Sizes.{most_capacity, most_value, most_length}

-- `order` and `from` are what a walk over all n darts of the map left
pub record Treed (𝓜 : Map) (n : ℕ) (order from : ℕ → ℕ) : Type 0 where
  pub all_darts : darts 𝓜 ≡ n
  pub sound : Sound 𝓜
  pub first : ℕ
  pub trees : ℕ
  pub forest : Forest n 𝓜.rotation first order from trees

-- what is carried along the dart d on a way from the first dart of a tree: nothing, or one as the tree goes, from the dart met first to its reverse
abbrev pub Once : (from : ℕ → ℕ) → ℕ → ℤ → Type 0
Once from d f = (f ≡ pos 0) ⊎ (((f ≡ pos 1) × (from (rev d) ≡ d)) ⊎ ((f ≡ negsuc 0) × (from d ≡ rev d)))

-- ── what the climbs take follows from `from` alone ──
-- so many steps lead from x up to a dart marked with its own number, for the first time
pub record Top (from : ℕ → ℕ) (x steps : ℕ) : Type 0 where
  pub own : from (iter from steps x) ≡ iter from steps x
  pub onward : (k : ℕ) → k < steps → from (iter from k x) ≢ iter from k x

-- what k steps up from x take along each dart: a step to the reverse takes one along it
unfoldable pub taken : (from : ℕ → ℕ) (k x d : ℕ) → ℤ
taken from zero x d = pos 0
taken from (suc k) x d = when (eqb (iter from k x) (rev (iter from (suc k) x))) (single (iter from (suc k) x) d) +ℤ taken from k x d

-- the lengths, and whether both climbs end at one dart
pub record Along (n start finish : ℕ) (from : ℕ → ℕ) (capacity : ℕ → ℤ) (value : ℤ) (length : ℕ → ℤ) (joined : Bool) : Type 0 where
  pub up : ℕ
  pub down : ℕ
  pub up_top : Top from start up
  pub down_top : Top from finish down
  pub lengths : (d : ℕ) → d < n → length d ≡ capacity d -ℤ value *ℤ (taken from down finish d -ℤ taken from up start d)
  pub joined_is : joined ≡ eqb (iter from up start) (iter from down finish)

-- ── one climb ──
pub record Climbable (n x : ℕ) (order from : ℕ → ℕ) (length : ℕ → ℤ) (value : ℤ) : Type 0 where
  pub few : n ≤ 1024
  pub map : Map
  pub treed : Treed map n order from
  pub below : x < n
  pub short : (d : ℕ) → d < n → Limited most_length (length d)
  pub small : Limited most_value value

-- `top` is the first dart of the tree of x; in every such map, the value was taken along one walk from the node of `top` to the node of x
pub record Climbed (n x : ℕ) (order from : ℕ → ℕ) (value : ℤ) (length length' : ℕ → ℤ) (top : ℕ) : Type 0 where
  pub top_in : top < n
  pub own : from top ≡ top
  pub flow : ℕ → ℤ
  pub once : (d : ℕ) → Once from d (flow d)
  pub lengths : (d : ℕ) → d < n → length' d ≡ length d -ℤ value *ℤ flow d
  pub along : (𝓜 : Map) → Treed 𝓜 n order from → (w : Walk 𝓜 (𝓜.tail top) (𝓜.tail x)) × ((d : ℕ) → walk_flow w d ≡ flow d)
  pub steps : ℕ
  pub stops : Top from x steps
  pub top_is : top ≡ iter from steps x
  pub flow_is : (d : ℕ) → flow d ≡ taken from steps x d

-- ── both ──
pub record Fillable (n start finish : ℕ) (order from : ℕ → ℕ) (capacity : ℕ → ℤ) (value : ℤ) : Type 0 where
  pub few : n ≤ 1024
  pub map : Map
  pub treed : Treed map n order from
  pub start_in : start < n
  pub finish_in : finish < n
  pub capacities : (d : ℕ) → d < n → Limited most_capacity (capacity d)
  pub small : Limited most_value value

-- in every such map: where start and finish are in one tree, the lengths are those of the value along a unit flow from the node of the one to the node of the
-- other; where they are in two, no walk joins their nodes
pub record Filled (n start finish : ℕ) (order from : ℕ → ℕ) (capacity : ℕ → ℤ) (value : ℤ) (length : ℕ → ℤ) (joined : Bool) : Type 0 where
  pub flow : ℕ → ℤ
  pub lengths : (d : ℕ) → d < n → length d ≡ length_for capacity flow value d
  pub limited : (d : ℕ) → d < n → Limited most_length (length d)
  pub against : (𝓜 : Map) → Treed 𝓜 n order from → Antisymmetric 𝓜 flow
  pub unit : joined ≡ true → (𝓜 : Map) → Treed 𝓜 n order from → UnitFlow 𝓜 (𝓜.tail start) (𝓜.tail finish) flow
  pub apart : joined ≡ false → (𝓜 : Map) → Treed 𝓜 n order from → Walk 𝓜 (𝓜.tail start) (𝓜.tail finish) → ⊥
  pub way : Along n start finish from capacity value length joined
