-- What a set does to the two bounds. One that proves: a set at the source lowers `high` to its cut,
-- a set at the sink raises `low` to the negative of its cut, a set beside both ends it.
use Rattle.std.specs.Prelude.{◌≡◌, ◌⊎◌, List, Option, Some, None, ℕ, ◌<◌, ℤ, pos, neg_ℤ, ◌≤ℤ◌, ◌<ℤ◌}
use Rattle.maps.specs.Cut.{union, intersection}
use Rattle.cuts.specs.inner.Cut.{cut_of}
use Rattle.node_flags.specs.inner.Flags.{Sided}
use Rattle.arrays.specs.inner.Flags.{flagged}
use Rattle.node_flags.specs.declared.Side.{Side}
use Rattle.node_flags.specs.declared.Side.TheVariants as side
use Rattle.maximum.specs.declared.Narrowed.{Narrowed}

-- the flags of two arrays are one
abbrev pub SameFlags : List ℕ → List ℕ → Type 0
SameFlags xs ys = (u : ℕ) → u < 1024 → flagged xs u ≡ flagged ys u

abbrev pub Narrows : ℤ → (low high : ℤ) → (inside A A' B B' : List ℕ) → Option Narrowed → Side → Type 0
Narrows total low high inside A A' B B' (Some r) side.Source = (r.low ≡ low) × (r.high ≡ total) × SameFlags A' inside × (B' ≡ B)
Narrows total low high inside A A' B B' (Some r) side.Sink = (r.low ≡ neg_ℤ total) × (r.high ≡ high) × (A' ≡ A) × SameFlags B' inside
Narrows total low high inside A A' B B' None side.Beside = SameFlags A' inside
Narrows total low high inside A A' B B' (Some r) side.Beside = ⊥
Narrows total low high inside A A' B B' None side.Source = ⊥
Narrows total low high inside A A' B B' None side.Sink = ⊥

-- what a set that is only proposed does: where it lies at the source and its cut is less than `high`, that is the new high bound; else all is as it was
pub data Lowers (s t : ℕ) (total high high' : ℤ) (inside A A' : List ℕ) : Type 0 where
  stays : high' ≡ high → A' ≡ A → Lowers s t total high high' inside A A'
  falls : Sided s t (flagged inside) side.Source → high' ≡ total → high' <ℤ high → SameFlags A' inside → Lowers s t total high high' inside A A'

-- the union where its cut is below zero, else the intersection
abbrev pub Joins : (darts : ℕ) → (ℕ → ℕ) → (ℕ → ℤ) → (A A' B : List ℕ) → Type 0
Joins darts tail c A A' B =
    (((u : ℕ) → u < 1024 → flagged A' u ≡ union (flagged A) (flagged B) u) × (cut_of darts tail c (union (flagged A) (flagged B)) <ℤ pos 0))
    ⊎ (((u : ℕ) → u < 1024 → flagged A' u ≡ intersection (flagged A) (flagged B) u) × (pos 0 ≤ℤ cut_of darts tail c (union (flagged A) (flagged B))))
