-- Laws of the reverse of a dart, and proofs edge by edge.
use mathlib.Core.Path.{◌≡◌, refl, sym, ◌∙◌, ap}
use mathlib.Core.Logic.{◌⊎◌, ◌≢◌, inl, inr}
use Prim.Native.Nat.{ℕ, zero, suc, ◌+◌, ◌*◌, ◌/◌, ◌%◌, ◌<◌}
use native.Mathlib.Omega.{arith}
use native.Mathlib.Decide.{ℕ_discrete}
use lib.Dec.{eqb}
use Rattle.integers.proofs.Tests.{eqb_true, eqb_false}
use Rattle.maps.specs.Dart.{rev}

pub rev_even : (e : ℕ) → rev (2 * e) ≡ 2 * e + 1
unfolding rev
rev_even e = rw (eqb_true (2 * e % 2) 0 (omega arith))

pub rev_odd : (e : ℕ) → rev (2 * e + 1) ≡ 2 * e
unfolding rev
rev_odd e = rw (eqb_false ((2 * e + 1) % 2) 0 (omega arith)) (omega arith)

-- the edge of a dart, and which of its two darts it is
pub edge_of : (d : ℕ) → (e : ℕ) × ((d ≡ 2 * e) ⊎ (d ≡ 2 * e + 1))
edge_of d = (d / 2, go (d % 2) refl)
  where
    go : (r : ℕ) → d % 2 ≡ r → (d ≡ 2 * (d / 2)) ⊎ (d ≡ 2 * (d / 2) + 1)
    go zero e = inl (omega arith)
    go (suc zero) e = inr (omega arith)
    go (suc (suc r)) e = absurd (omega arith)

-- to prove P of a dart, prove it of the two darts of each edge
pub by_edge : (n : ℕ) (P : ℕ → Type 0) → ((e : ℕ) → e < n → P (2 * e)) → ((e : ℕ) → e < n → P (2 * e + 1)) → (d : ℕ) → d < 2 * n → P d
by_edge n P even odd d l = go (edge_of d)
  where
    go : (e : ℕ) × ((d ≡ 2 * e) ⊎ (d ≡ 2 * e + 1)) → P d
    go r = side r.1
      where
        side : (d ≡ 2 * r.0) ⊎ (d ≡ 2 * r.0 + 1) → P d
        side (inl p) = rw p (even r.0 (omega arith))
        side (inr p) = rw p (odd r.0 (omega arith))

pub rev_rev : (d : ℕ) → rev (rev d) ≡ d
rev_rev d = by_edge (suc d) (λ d. rev (rev d) ≡ d) (λ e m. ap rev (rev_even e) ∙ rev_odd e) (λ e m. ap rev (rev_odd e) ∙ rev_even e) d (omega arith)

pub rev_in : (n d : ℕ) → d < 2 * n → rev d < 2 * n
rev_in n d l = by_edge n (λ d. rev d < 2 * n) (λ e m. rw (rev_even e) (omega arith)) (λ e m. rw (rev_odd e) (omega arith)) d l

pub rev_injective : (c d : ℕ) → rev c ≡ rev d → c ≡ d
rev_injective c d e = sym (rev_rev c) ∙ ap rev e ∙ rev_rev d

pub rev_apart : (d : ℕ) → rev d ≢ d
rev_apart d =
    by_edge (suc d) (λ d. rev d ≢ d) (λ e l q. absurd (omega (arith, sym (rev_even e) ∙ q)))
    (λ e l q. absurd (omega (arith, sym (rev_odd e) ∙ q))) d (omega arith)

-- to be the reverse of d is to have d as reverse
pub eqb_rev : (i d : ℕ) → eqb (rev i) d ≡ eqb i (rev d)
eqb_rev i d = go (ℕ_discrete (rev i) d)
  where
    go : Dec (rev i ≡ d) → eqb (rev i) d ≡ eqb i (rev d)
    go (yes p) = eqb_true (rev i) d p ∙ sym (eqb_true i (rev d) (sym (rev_rev i) ∙ ap rev p))
    go (no p) = eqb_false (rev i) d p ∙ sym (eqb_false i (rev d) (λ q. p (ap rev q ∙ rev_rev d)))
