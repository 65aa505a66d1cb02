-- The least length of one dart with which the dual graph has no cycle of negative length: minus the distance back, from the face left of the dart to the face
-- right of it.
use Rattle.std.specs.Prelude.{◌≡◌, cond, ℕ, ◌<◌, eqb, ℤ, pos, ◌+ℤ◌, ◌≤ℤ◌, ◌<ℤ◌}
use Rattle.search.specs.Dual.{Dual}
use Rattle.search.specs.inner.Walk.{Ring}
use Rattle.search.specs.inner.Settled.{Settled}

-- the same numbers, with x at the dart d
abbrev pub replaced : (ℕ → ℤ) → (d : ℕ) → ℤ → ℕ → ℤ
replaced f d x i = cond (eqb i d) x (f i)

-- the dual graph with the length x of the dart d
abbrev pub relengthed : Dual → (d : ℕ) → ℤ → Dual
relengthed N d x = record {
  darts = N.darts;
  faces = N.faces;
  roots = N.roots;
  root = N.root;
  left = N.left;
  right = N.right;
  length = replaced N.length d x;
}

-- the face left of the dart d is a root: that of its part
pub record RootedAt (N : Dual) (d : ℕ) : Type 0 where
  pub dart_in : d < N.darts
  pub place : ℕ
  pub place_in : place < N.roots
  pub is : N.root place ≡ N.left d

-- Levels ρ tell which lengths x of the dart d, up to its own, leave no cycle of negative length: those that are not below minus the level of the face right of
-- it. With these the same levels are settled; with any other there is a cycle of negative length through the face left of d.
pub record LeastLength (N : Dual) (ρ : ℕ → ℤ) (d : ℕ) : Type 0 where
  pub enough : (x : ℤ) → x ≤ℤ N.length d → pos 0 ≤ℤ (x +ℤ ρ (N.right d)) → Settled (relengthed N d x) ρ
  pub short : (x : ℤ) → x ≤ℤ N.length d → (x +ℤ ρ (N.right d)) <ℤ pos 0 → Ring (relengthed N d x) (N.left d)
