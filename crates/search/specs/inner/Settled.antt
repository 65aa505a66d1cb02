-- Settled potentials ("levels"): no dart can lower one, and each is the length of a walk from a root.
use Rattle.std.specs.Prelude.{◌≡◌, ℕ, ◌≤◌, ◌<◌, ℤ, pos, ◌+ℤ◌, ◌≤ℤ◌}
use Rattle.std.specs.Int.Signed.{mag}
use Rattle.search.specs.Dual.{Dual}
use Rattle.search.specs.inner.Walk.{Walk}

-- no dart can lower a potential
abbrev pub Still : Dual → (ℕ → ℤ) → Type 0
Still N ρ = (d : ℕ) → d < N.darts → ρ (N.left d) ≤ℤ (ρ (N.right d) +ℤ N.length d)

-- a quarter of what 64 bits hold: the difference of two potentials fits as well
abbrev pub farthest : ℕ
farthest = 2000000000000000000

pub record Settled (N : Dual) (ρ : ℕ → ℤ) : Type 0 where
  pub still : Still N ρ
  pub walk : (f : ℕ) → f < N.faces → Walk N f (ρ f)
  pub rooted : (m : ℕ) → m < N.roots → ρ (N.root m) ≡ pos 0
  pub near : (f : ℕ) → f < N.faces → mag (ρ f) ≤ farthest
