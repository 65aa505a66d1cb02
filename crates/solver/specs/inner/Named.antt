-- Which set of nodes a decision names: how it comes about, step by step, from the drawing, the capacities, the question and the parents that are proposed to
-- its search. Document 02, Job 12: what a party is answered follows from what it sees. That the set follows is `named_one` (proofs/OneSet.antt): the relation
-- has one end, and nothing else is asked of it, so that nobody need believe it.
use Rattle.std.specs.Prelude.{◌≡◌, ◌⊎◌, ◌≢◌, Bool, true, false, List, ℕ, ◌≤◌, ◌<◌, ℤ, pos, ◌<ℤ◌}
use Rattle.std.proofs.Math.ListN as list
use Rattle.maps.specs.Map.{Map, darts}
use Rattle.maps.specs.Face.{faces, left}
use Rattle.maps.specs.Check.{Sound}
use Rattle.arrays.specs.At.{at, atℤ}
use Rattle.arrays.specs.Maps.{right_of}
use Rattle.traversal.specs.inner.Forest.{RootsHere}
use Rattle.grouping.specs.inner.Walked.{Walked}
use Rattle.lengths.specs.inner.Lengths.{Along}
use Rattle.search.specs.Dual.{dual_of, WellFormed, Joined}
use Rattle.search.specs.Given.{given}
use Rattle.search.specs.Trace.{Searches}
use Rattle.search.specs.Outcome.{closed_by}
use Rattle.windings.specs.inner.Winding.{Round, Wound}
use Rattle.heights.specs.inner.Heights.{HeightsOf}
use Rattle.thresholds.specs.inner.Choice.{FirstServes}
use Rattle.solver.specs.inner.Search.{PartFlagged}

-- d is the first dart that leaves v
pub record FirstDart (𝓜 : Map) (v d : ℕ) : Type 0 where
  pub inside : d < darts 𝓜
  pub leaves : 𝓜.tail d ≡ v
  pub none_before : (e : ℕ) → e < d → 𝓜.tail e ≢ v

-- the lengths for a value, and whether source and sink are found to be in one part; true: they are not, and the part of the one or of the other is flagged
abbrev pub ApartBy : Map → (start finish : ℕ) → ℤ → (joined : Bool) → (S : ℕ → Bool) → Bool → Type 0
ApartBy 𝓜 start finish value joined S true =
    (joined ≡ false) × (((pos 0 <ℤ value) × PartFlagged 𝓜 start S) ⊎ ((value <ℤ pos 0) × PartFlagged 𝓜 finish S))
ApartBy 𝓜 start finish value joined S false = (joined ≡ true) ⊎ (value ≡ pos 0)

pub record MeasuredBy (𝓜 : Map) (start finish : ℕ) (from : ℕ → ℕ) (c : ℕ → ℤ) (value : ℤ) (length : ℕ → ℤ) (S : ℕ → Bool) (apart : Bool) : Type 0 where
  pub joined : Bool
  pub along : Along (darts 𝓜) start finish from c value length joined
  pub way : ApartBy 𝓜 start finish value joined S apart

-- the set made from the ring that the parents lead round from the face y: its winding, the heights, the first threshold that serves
pub record MadeOfRing (𝓜 : Map) (right : ℕ → ℕ) (length : ℕ → ℤ) (order from parent : ℕ → ℕ) (y : ℕ) (S : ℕ → Bool) : Type 0 where
  pub round : Round right parent (darts 𝓜) y
  pub winding : ℕ → ℤ
  pub wound : Wound right parent (darts 𝓜) y winding
  pub height : ℕ → ℤ
  pub heights : HeightsOf (darts 𝓜) 𝓜.tail winding height
  pub rooted : (i : ℕ) → i < darts 𝓜 → from (order i) ≡ order i → height (𝓜.tail (order i)) ≡ pos 0
  pub serves : FirstServes 𝓜.nodes (darts 𝓜) 𝓜.tail length height S

-- the search from the faces at 0, which ends with the ring that the dart `closing` closes, and the set made from it
pub record RingNamed (𝓜 : Map) (outer count parts : ℕ) (lefts order from grouped starts : List ℕ) (lengths : List ℤ) (proposal : List ℕ)
    (S : ℕ → Bool) : Type 0 where
  pub queue : List ℕ
  pub size : list.length queue ≡ 1024
  pub few : parts ≤ 1024
  pub roots : RootsHere (darts 𝓜) 𝓜.rotation outer (at lefts) (at order) (at from) (λ i. 0) (at queue) parts
  pub sound : WellFormed (dual_of lefts lengths (darts 𝓜) count (list.take parts queue))
  pub joined : Joined (dual_of lefts lengths (darts 𝓜) count (list.take parts queue))
  pub potentials : List ℤ
  pub parents : List ℕ
  pub closing : ℕ
  pub closing_in : closing < darts 𝓜
  pub searched : Searches (given lefts lengths grouped starts (darts 𝓜) count) queue parts proposal potentials parents (closed_by closing)
  pub made : MadeOfRing 𝓜 (right_of lefts) (atℤ lengths) (at order) (at from) (at parents) (at lefts closing) S

-- true: by the parts of source and sink; false: by a ring
abbrev pub NamedBy : Map → (outer count parts : ℕ) → (lefts order from grouped starts : List ℕ) (lengths : List ℤ) (proposal : List ℕ)
    → (S : ℕ → Bool) → Bool → Type 0
NamedBy 𝓜 outer count parts lefts order from grouped starts lengths proposal S true = Unit
NamedBy 𝓜 outer count parts lefts order from grouped starts lengths proposal S false =
    RingNamed 𝓜 outer count parts lefts order from grouped starts lengths proposal S

-- no parents are proposed: each is 1024, which is no dart
abbrev pub no_parents : List ℕ
no_parents = list.replicate 1024 1024

-- The set S is named for the value from s to t, of the drawing with this outer dart and these capacities, where these parents are proposed. The arrays are
-- those that opening leaves.
pub record Named (𝓜 : Map) (outer : ℕ) (c : ℕ → ℤ) (s t : ℕ) (value : ℤ) (proposal : List ℕ) (S : ℕ → Bool) : Type 0 where
  pub sound : Sound 𝓜
  pub lefts : List ℕ
  pub order : List ℕ
  pub from : List ℕ
  pub grouped : List ℕ
  pub starts : List ℕ
  pub count : ℕ
  pub parts : ℕ
  pub left_is : (d : ℕ) → d < darts 𝓜 → at lefts d ≡ left 𝓜 d
  pub counted : count ≡ faces 𝓜
  pub walked : Walked (darts 𝓜) count outer parts 𝓜.rotation lefts order from grouped starts
  pub start : ℕ
  pub finish : ℕ
  pub start_first : FirstDart 𝓜 s start
  pub finish_first : FirstDart 𝓜 t finish
  pub lengths : List ℤ
  pub apart : Bool
  pub measured : MeasuredBy 𝓜 start finish (at from) c value (atℤ lengths) S apart
  pub by : NamedBy 𝓜 outer count parts lefts order from grouped starts lengths proposal S apart
