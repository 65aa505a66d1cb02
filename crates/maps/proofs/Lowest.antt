-- The lowest dart with a property, and the lowest dart of a component: its face is the lowest of the component's faces.
use mathlib.Core.Path.{◌≡◌, sym, ◌∙◌, ap}
use mathlib.Core.Logic.{◌⊎◌, inl, inr}
use mathlib.Core.Bool.{Bool, true, false, false≢true}
use Prim.Native.Nat.{ℕ, zero, suc, ◌≤◌, ◌<◌}
use native.Mathlib.Omega.{arith}
use native.Mathlib.Decide.{ℕ_discrete}
use Rattle.integers.proofs.Tests.{either}
use Rattle.integers.proofs.Counting.{count_le}
use Rattle.maps.specs.Orbit.{lowest, is_lowest, orbit_of}
use Rattle.maps.specs.Map.{Map, darts}
use Rattle.maps.specs.Face.{step, left}
use Rattle.maps.specs.Walk.{Components}
use Rattle.maps.specs.Check.{Sound}
use Rattle.maps.proofs.Orbits.{lowest_orbit, lowest_below, orbit_in}
use Rattle.maps.proofs.Faces.{step_permutes, left_along, part_left}

-- the lowest place below n that passes a test, or none does
abbrev pub First : ℕ → (ℕ → Bool) → Type 0
First n b = (m : ℕ) × (m < n) × (b m ≡ true) × ((e : ℕ) → e < m → b e ≡ false)

scan : (n : ℕ) (b : ℕ → Bool) → First n b ⊎ ((e : ℕ) → e < n → b e ≡ false)
scan zero b = inr (λ e l. absurd (omega arith))
scan (suc n) b = go (scan n b) (either (b n))
  where
    go : First n b ⊎ ((e : ℕ) → e < n → b e ≡ false) → (b n ≡ true) ⊎ (b n ≡ false) → First (suc n) b ⊎ ((e : ℕ) → e < suc n → b e ≡ false)
    go (inl r) q = inl (r.0, omega (arith, r.1), r.2, r.3)
    go (inr h) (inl e) = inl (n, omega arith, e, h)
    go (inr h) (inr e) = inr (λ x l. each x l (ℕ_discrete x n))
      where
        each : (x : ℕ) → x < suc n → Dec (x ≡ n) → b x ≡ false
        each x l (yes p) = ap b p ∙ e
        each x l (no p) = h x (omega (arith, p))

pub first_place : (n : ℕ) (b : ℕ → Bool) (d : ℕ) → d < n → b d ≡ true → First n b
first_place n b d l e = go (scan n b)
  where
    go : First n b ⊎ ((e : ℕ) → e < n → b e ≡ false) → First n b
    go (inl r) = r
    go (inr h) = absurd (false≢true (sym (h d l) ∙ e))

-- faces are numbered by their lowest darts
pub lowest_face : {𝓜 : Map} → Sound 𝓜 → {k : ℕ} {part : ℕ → ℕ} → Components 𝓜 k part → (d : ℕ)
    → ((e : ℕ) → e < darts 𝓜 → part (𝓜.tail e) ≡ part (𝓜.tail d) → d ≤ e)
    → (e : ℕ) → e < darts 𝓜 → part (𝓜.tail e) ≡ part (𝓜.tail d) → left 𝓜 d ≤ left 𝓜 e
unfolding left orbit_of
lowest_face {𝓜} σ {k} {part} κ d least e l same =
    omega (
      arith,
      count_le (lowest (step 𝓜) (darts 𝓜) d) d (is_lowest (darts 𝓜) (step 𝓜)) (lowest_below (step_permutes σ) d),
      count_le d low (is_lowest (darts 𝓜) (step 𝓜))
          (least low low_in (sym (part_left σ κ e low l low_in (left_along σ e low l (lowest_orbit (step_permutes σ) e))) ∙ same)),
    )
  where
    low : ℕ
    low = lowest (step 𝓜) (darts 𝓜) e

    low_in : lowest (step 𝓜) (darts 𝓜) e < darts 𝓜
    low_in = orbit_in (step_permutes σ) e (lowest (step 𝓜) (darts 𝓜) e) l (lowest_orbit (step_permutes σ) e)
