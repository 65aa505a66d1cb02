-- What a search has left to fall, and how many faces an ascent has left to meet: sums of which one term changes.
use mathlib.Core.Path.{◌≡◌, sym, ap}
use mathlib.Core.Logic.{◌⊎◌, inl, inr}
use mathlib.Core.List.{List}
use Prim.Native.Nat.{ℕ, zero, suc, ◌+◌, ◌*◌, ◌≤◌, ◌<◌}
use native.Mathlib.Omega.{arith}
use native.Mathlib.Decide.{ℕ_discrete}
use lib.Dec.{eqb}
use lib.IntN.{ℤ, pos, negsuc}
use lib.Signed.{mag, ◌<ℤ◌}
use Rattle.integers.specs.Sum.{Naturals, sum, sumℕ, bit}
use Rattle.integers.proofs.Omega.{Parts, parts, from_less}
use Rattle.integers.proofs.Tests.{eqb_true, eqb_false}
use Rattle.integers.proofs.Sums.{sum_ext}
use Rattle.integers.proofs.Counting.{bit_le, sum_le_size, term_le_sum}
use Rattle.arrays.specs.At.{at, atℤ}
use Rattle.search.specs.Level.{far}
use Rattle.search.specs.inner.Progress.{height, heights, lowest}
use Rattle.search.proofs.Change.{Changed}

-- ── sums ──
sum_changed : (n y : ℕ) (u u' : ℕ → ℕ) → ((x : ℕ) → (x ≡ y → ⊥) → u' x ≡ u x) → y < n → sumℕ n u' + u y ≡ sumℕ n u + u' y
unfolding sum
sum_changed zero y u u' h l = absurd (omega arith)
sum_changed (suc n) y u u' h l = by (ℕ_discrete y n) (sum_changed n y u u' h)
  where
    by : Dec (y ≡ n) → (y < n → sumℕ n u' + u y ≡ sumℕ n u + u' y) → sumℕ n u' + u' n + u y ≡ sumℕ n u + u n + u' y
    by (yes e) r = omega (arith, sum_ext Naturals n u' u (λ i m. h i (λ q. omega arith)), ap u e, ap u' e)
    by (no c) r = omega (arith, r (omega (arith, c)), h n (λ q. c (sym q)))

pub sum_bounded : (n c : ℕ) (u : ℕ → ℕ) → ((x : ℕ) → x < n → u x ≤ c) → sumℕ n u ≤ n * c
unfolding sum
sum_bounded zero c u h = omega arith
sum_bounded (suc n) c u h = omega (arith, sum_bounded n c u (λ x l. h x (omega arith)), h n (omega arith))

-- ── heights ──
height_less : (v z : ℤ) → mag v < lowest → v <ℤ z → height v < height z
unfolding height
height_less (pos a) (pos b) m h = let p : Parts (pos a) × Parts (pos b) = search parts in omega (arith, from_less h p)
height_less (pos a) (negsuc b) m h = let p : Parts (pos a) × Parts (negsuc b) = search parts in absurd (omega (arith, from_less h p))
height_less (negsuc a) (pos b) m h = omega arith
height_less (negsuc a) (negsuc b) m h = let p : Parts (negsuc a) × Parts (negsuc b) = search parts in omega (arith, from_less h p)

pub first_height : (z : ℤ) → (z ≡ pos 0) ⊎ (z ≡ far) → height z ≤ 3600000000000000
unfolding height
first_height z (inl e) = rw e (omega arith)
first_height z (inr e) = rw e (omega arith)

-- a fall takes one of them at least
pub heights_fall : (faces : ℕ) (ρ ρ' : List ℤ) (y : ℕ) (v : ℤ) → Changed (atℤ ρ) (atℤ ρ') y v → y < faces → mag v < lowest → v <ℤ atℤ ρ y
    → heights faces ρ' + 1 ≤ heights faces ρ
heights_fall faces ρ ρ' y v c l m h =
    omega (
      arith,
      sum_changed faces y (λ x. height (atℤ ρ x)) (λ x. height (atℤ ρ' x)) (λ x n. ap height (c.off x n)) l,
      ap height (c.at y mathlib.Core.Path.refl),
      height_less v (atℤ ρ y) m h,
    )

-- ── faces that are not marked ──
abbrev pub fresh : ℕ → List ℕ → ℕ
fresh faces marks = sumℕ faces (λ x. bit (eqb (at marks x) 1024))

pub fresh_few : (faces : ℕ) (marks : List ℕ) → fresh faces marks ≤ faces
fresh_few faces marks = sum_le_size faces (λ x. bit (eqb (at marks x) 1024)) (λ x l. bit_le (eqb (at marks x) 1024))

pub fresh_some : (faces : ℕ) (marks : List ℕ) (y : ℕ) → y < faces → at marks y ≡ 1024 → 1 ≤ fresh faces marks
fresh_some faces marks y l e =
    omega (arith, term_le_sum faces y (λ x. bit (eqb (at marks x) 1024)) l, ap bit (eqb_true (at marks y) 1024 e))

pub fresh_less : (faces : ℕ) (marks marks' : List ℕ) (y v : ℕ) → Changed (at marks) (at marks') y v → y < faces → at marks y ≡ 1024 → v < 1024
    → fresh faces marks' + 1 ≡ fresh faces marks
fresh_less faces marks marks' y v c l e s =
    omega (
      arith,
      sum_changed faces y (λ x. bit (eqb (at marks x) 1024)) (λ x. bit (eqb (at marks' x) 1024)) (λ x n. ap (λ m. bit (eqb m 1024)) (c.off x n)) l,
      ap bit (eqb_true (at marks y) 1024 e),
      ap bit (eqb_false (at marks' y) 1024 (λ q. omega (arith, c.at y mathlib.Core.Path.refl))),
    )
