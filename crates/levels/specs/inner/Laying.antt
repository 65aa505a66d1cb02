-- Filling the levels of the faces along an order of the darts, and along a walk over all darts, the outer dart first: what they need, and what they leave in
-- the slice. A dart that begins a tree of the walk is marked with its own number.
use Rattle.std.specs.Prelude.{◌≡◌, ◌⊎◌, ◌≢◌, List, ℕ, ◌*◌, ◌≤◌, ◌<◌, length, ℤ, pos, ◌-ℤ◌}
use Rattle.integers.specs.inner.Limited.{Limited}
use Rattle.maps.specs.Dart.{rev}
use Rattle.flows.specs.Settings.{on_darts}
use Rattle.arrays.specs.At.{atℤ}
use Rattle.traversal.specs.inner.Spread.{Met}
use Rattle.traversal.specs.inner.Forest.{Forest}
use Rattle.arrays.specs.inner.Sizes.{most_on_sheet}

-- the order holds every dart; each begins a tree, as the first does, or the face left of it lies right of a dart listed before it, which `from` names
pub record Crossing (darts : ℕ) (left order from : ℕ → ℕ) : Type 0 where
  pub inside : (i : ℕ) → i < darts → order i < darts
  pub every : (d : ℕ) → d < darts → Met order darts d
  pub first_own : from (order 0) ≡ order 0
  pub met : (i : ℕ) → i < darts
      → (from (order i) ≡ order i) ⊎ ((j : ℕ) × (j < i) × (order j ≡ from (order i)) × (left (order i) ≡ left (rev (from (order i)))))

-- there is room for the level of each face that a dart has at its left
pub record Fillable (darts room : ℕ) (left order from : ℕ → ℕ) (flows : List ℤ) : Type 0 where
  pub some : 0 < darts
  pub few : darts ≤ 1024
  pub left_in : (d : ℕ) → d < darts → left d < room
  pub long : darts ≤ 2 * length flows
  pub small : (e : ℕ) → 2 * e < darts → Limited most_on_sheet (atℤ flows e)
  pub crossing : Crossing darts left order from

-- ρ are potentials of the flows x, 0 on the face left of each dart that begins a tree
pub record PotentialsFrom (darts : ℕ) (left order from : ℕ → ℕ) (x ρ : ℕ → ℤ) : Type 0 where
  pub differences : (d : ℕ) → d < darts → on_darts x d ≡ ρ (left d) -ℤ ρ (left (rev d))
  pub rooted : (i : ℕ) → i < darts → from (order i) ≡ order i → ρ (left (order i)) ≡ pos 0

-- where there are such potentials, the levels are those
abbrev pub Filled : ℕ → (left order from : ℕ → ℕ) → (ℕ → ℤ) → (ℕ → ℤ) → Type 0
Filled darts left order from x level = (ρ : ℕ → ℤ) → PotentialsFrom darts left order from x ρ → (d : ℕ) → d < darts → level (left d) ≡ ρ (left d)

-- the places of faces that no dart has at its left are as they were
abbrev pub Kept : ℕ → (ℕ → ℕ) → (before after : List ℤ) → Type 0
Kept darts left before after = (f : ℕ) → ((d : ℕ) → d < darts → left d ≢ f) → atℤ after f ≡ atℤ before f

-- the slice as it is left: the levels, and the other places as they were
pub record Levelled (darts : ℕ) (left order from : ℕ → ℕ) (x : ℕ → ℤ) (before after : List ℤ) : Type 0 where
  pub as_long : length after ≡ length before
  pub filled : Filled darts left order from x (atℤ after)
  pub kept : Kept darts left before after

-- levelled along a walk over all darts, the dart `first` first
pub record LevelledFrom (darts : ℕ) (rotation left : ℕ → ℕ) (first : ℕ) (x : ℕ → ℤ) (before after : List ℤ) : Type 0 where
  pub order : ℕ → ℕ
  pub from : ℕ → ℕ
  pub trees : ℕ
  pub forest : Forest darts rotation first order from trees
  pub levelled : Levelled darts left order from x before after

-- the slice of flows has one for each edge; and whichever way a walk over all darts goes, it gives an order to fill along
pub record Levelable (edges outer room : ℕ) (rotation left : ℕ → ℕ) (flows : List ℤ) : Type 0 where
  pub outer_in : outer < 2 * edges
  pub few : edges ≤ 512
  pub exact : length flows ≡ edges
  pub rotation_in : (d : ℕ) → d < 2 * edges → rotation d < 2 * edges
  pub walked : {order from : ℕ → ℕ} {trees : ℕ} → Forest (2 * edges) rotation outer order from trees → Fillable (2 * edges) room left order from flows
