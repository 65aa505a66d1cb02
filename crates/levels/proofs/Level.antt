-- The ways out of the checks 19 and 20, and what they leave: each level within ±600,000,000, and the zero faces at 0.
use mathlib.Core.Path.{◌≡◌, refl}
use mathlib.Core.Logic.{◌≢◌, inl, inr}
use mathlib.Core.List.{List}
use Prim.Native.Nat.{ℕ, ◌*◌, ◌≤◌, ◌<◌}
use native.Mathlib.Omega.{arith}
use lib.ListN.{length}
use lib.IntN.{ℤ, pos, ℤ_discrete}
use Rattle.refusals.specs.Order.{NoneOf, FirstOf}
use Rattle.arrays.specs.At.{atℤ}
use Rattle.levels.specs.Level.{LevelOutside, level_checks}
use Rattle.levels.specs.inner.Across.{HaveLevels}

-- ── the ways out of the two checks ──
module _ (faces : ℕ) (Zero : ℕ → Type 0) (ρ : ℕ → ℤ) where
  pub levels_outside : (f : ℕ) → f < faces → LevelOutside (ρ f) → FirstOf (level_checks faces Zero ρ) 19 0
  unfolding FirstOf level_checks
  levels_outside f l o = inl ((f, l, o), refl, refl)

  pub levels_off : ((f : ℕ) → f < faces → LevelOutside (ρ f) → ⊥) → (f : ℕ) → Zero f → ρ f ≢ pos 0 → FirstOf (level_checks faces Zero ρ) 20 0
  unfolding FirstOf level_checks
  levels_off h f z n = inr ((λ r. h r.0 r.1 r.2), inl ((f, z, n), refl, refl))

  pub levels_none : ((f : ℕ) → f < faces → LevelOutside (ρ f) → ⊥) → ((f : ℕ) → Zero f → ρ f ≡ pos 0) → NoneOf (level_checks faces Zero ρ)
  unfolding NoneOf level_checks
  levels_none h e = ((λ r. h r.0 r.1 r.2), ((λ n. n.2 (e n.0 n.1)), tt))

  -- ── and what they leave ──
  pub levels_inside : NoneOf (level_checks faces Zero ρ) → (f : ℕ) → f < faces → LevelOutside (ρ f) → ⊥
  unfolding NoneOf level_checks
  levels_inside h f l o = h.0 (f, l, o)

  pub levels_rooted : NoneOf (level_checks faces Zero ρ) → (f : ℕ) → Zero f → ρ f ≡ pos 0
  unfolding NoneOf level_checks
  levels_rooted h f z = go (ℤ_discrete (ρ f) (pos 0))
    where
      go : Dec (ρ f ≡ pos 0) → ρ f ≡ pos 0
      go (yes e) = e
      go (no n) = absurd (h.1.0 (f, z, n))

-- what the functions of edges require, where every dart's face is one of those judged
pub all_levelled : (edges faces : ℕ) (Zero : ℕ → Type 0) (left : ℕ → ℕ) (levels : List ℤ) → ((d : ℕ) → d < 2 * edges → left d < faces) → faces ≤ length levels
    → NoneOf (level_checks faces Zero (atℤ levels)) → HaveLevels edges left levels
all_levelled edges faces Zero left levels below long none d l =
    record { there = omega (arith, below d l); inside = levels_inside faces Zero (atℤ levels) none (left d) (below d l) }
