-- A walk over the darts from a start dart, by rotation and by reversal, first come first: what it leaves, and what listing one dart more does.
use Rattle.std.specs.Prelude.{◌≡◌, ◌⊎◌, ◌≢◌, ℕ, ◌+◌, ◌≤◌, ◌<◌}
use Rattle.maps.specs.Dart.{rev}
use Rattle.traversal.specs.inner.Mark.{unmarked}

-- d is one of the first `count` darts of the order
abbrev pub Met : (ℕ → ℕ) → ℕ → ℕ → Type 0
Met order count d = (i : ℕ) × (i < count) × (order i ≡ d)

-- the walk goes from p on to d
abbrev pub Follows : (ℕ → ℕ) → ℕ → ℕ → Type 0
Follows rotation d p = (d ≡ rev p) ⊎ (d ≡ rotation p)

-- `order` lists the darts that `start` leads to, each once; each but the first was met from a dart listed before it. A dart is marked if it is listed.
pub record Spread (darts : ℕ) (rotation : ℕ → ℕ) (start : ℕ) (order from : ℕ → ℕ) (count : ℕ) : Type 0 where
  pub some : 0 < count
  pub few : count ≤ darts
  pub first : order 0 ≡ start
  pub inside : (i : ℕ) → i < count → order i < darts
  pub apart : (i j : ℕ) → i < count → j < count → order i ≡ order j → i ≡ j
  pub met : (i : ℕ) → 0 < i → i < count → (j : ℕ) × (j < i) × (order j ≡ from (order i)) × Follows rotation (order i) (from (order i))
  pub closed : (i : ℕ) → i < count → Met order count (rotation (order i)) × Met order count (rev (order i))
  pub marked : (i : ℕ) → i < count → from (order i) ≢ unmarked
  pub listed : (d : ℕ) → d < darts → from d ≢ unmarked → Met order count d

-- d is marked now; if it was not before, it stands at the end of the order, as met from `origin`
pub record Added (d origin : ℕ) (from from' order order' : ℕ → ℕ) (end end' : ℕ) : Type 0 where
  pub longer : end ≤ end'
  pub by_one : end' ≤ end + 1
  pub has : from' d ≢ unmarked
  pub grew : (y : ℕ) → from y ≢ unmarked → from' y ≡ from y
  pub only : (y : ℕ) → from' y ≢ unmarked → (from y ≢ unmarked) ⊎ ((y ≡ d) × (end < end'))
  pub kept : (i : ℕ) → i < end → order' i ≡ order i
  pub new : end < end' → (order' end ≡ d) × (from d ≡ unmarked) × (from' d ≡ origin)

-- of the flags below 1,024, those of the nodes that marked darts leave are 1, and no others
pub record FlagsMet (darts : ℕ) (tail from flag : ℕ → ℕ) : Type 0 where
  pub set : (d : ℕ) → d < darts → from d ≢ unmarked → flag (tail d) ≡ 1
  pub only : (v : ℕ) → v < 1024 → flag v ≡ 1 → (d : ℕ) × (d < darts) × (tail d ≡ v) × (from d ≢ unmarked)
