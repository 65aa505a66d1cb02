-- How a walk round by round comes to each dart. Each place of the order follows from the places before it, so that there is one such walk (document 02, Job 12:
-- what a question is answered follows from the drawing). And what is met where the darts of a node are not one round.
use Rattle.std.specs.Prelude.{◌≡◌, ◌≢◌, ℕ, ◌+◌, ◌<◌}
use Rattle.maps.specs.Dart.{rev}
use Rattle.maps.specs.Orbit.{Orbit}
use Rattle.traversal.specs.inner.Spread.{Met, Added}

-- the dart at place i is the first of all; or the rotation of the dart before it; or, where the round before it is whole, the reverse of the first dart whose
-- reverse is not listed; or, where the darts before it lead to no other, the lowest that is not listed
pub data Came (rotation : ℕ → ℕ) (first : ℕ) (order from : ℕ → ℕ) (i : ℕ) : Type 0 where
  begins : i ≡ 0 → order i ≡ first → from (order i) ≡ order i → Came rotation first order from i
  turns : (h : ℕ) → i ≡ h + 1 → order i ≡ rotation (order h) → from (order i) ≡ order h → Came rotation first order from i
  crosses : (h : ℕ) → i ≡ h + 1 → Met order i (rotation (order h)) → (j : ℕ) → j < i → order i ≡ rev (order j) → from (order i) ≡ order j
      → ((k : ℕ) → k < j → Met order i (rev (order k))) → Came rotation first order from i
  plants : (h : ℕ) → i ≡ h + 1 → Met order i (rotation (order h)) → ((k : ℕ) → k < i → Met order i (rev (order k)))
      → ((e : ℕ) → e < order i → Met order i e) → from (order i) ≡ order i → Came rotation first order from i

pub record FirstCome (rotation : ℕ → ℕ) (first : ℕ) (order from : ℕ → ℕ) (end : ℕ) : Type 0 where
  pub came : (i : ℕ) → i < end → Came rotation first order from i

-- the last round that was listed is whole
abbrev pub RoundedOff : (rotation order : ℕ → ℕ) → ℕ → Type 0
RoundedOff rotation order end = (h : ℕ) → end ≡ h + 1 → Met order end (rotation (order h))

-- listed as met from `origin`, d is come to as it should be
abbrev pub Comes : (ℕ → ℕ) → (first : ℕ) → (order from : ℕ → ℕ) → (end d origin : ℕ) → Type 0
Comes rotation first order from end d origin =
    (order' from' : ℕ → ℕ) (end' : ℕ) → Added d origin from from' order order' end end' → Came rotation first order' from' end

-- the darts of some node are not one round: a rotation leads to another node, two darts have one rotation, or two darts of a node are in two rounds
pub data Unround (darts : ℕ) (tail rotation : ℕ → ℕ) : Type 0 where
  astray : (x : ℕ) → x < darts → tail (rotation x) ≢ tail x → Unround darts tail rotation
  merged : (x y : ℕ) → x < darts → y < darts → x ≢ y → rotation x ≡ rotation y → Unround darts tail rotation
  parted : (x y : ℕ) → x < darts → y < darts → tail x ≡ tail y → (Orbit rotation x y → ⊥) → Unround darts tail rotation
