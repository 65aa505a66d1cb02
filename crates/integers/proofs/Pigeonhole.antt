-- The pigeonhole: of n + 1 values below n two are equal.
use mathlib.Core.Path.{◌≡◌, sym, ◌∙◌, ap}
use mathlib.Core.Logic.{◌≢◌, ◌⊎◌, inl, inr}
use Prim.Native.Nat.{ℕ, zero, suc, ◌≤◌, ◌<◌}
use native.Mathlib.Omega.{arith}
use native.Mathlib.Decide.{ℕ_discrete}

-- some value of g below n is y, or none is
pub seek : (g : ℕ → ℕ) (y n : ℕ) → ((i : ℕ) × (i < n) × (g i ≡ y)) ⊎ ((i : ℕ) → i < n → g i ≢ y)
seek g y zero = inr (λ i l. absurd (omega arith))
seek g y (suc n) = go (seek g y n) (ℕ_discrete (g n) y)
  where
    go : ((i : ℕ) × (i < n) × (g i ≡ y)) ⊎ ((i : ℕ) → i < n → g i ≢ y) → Dec (g n ≡ y) → ((i : ℕ) × (i < suc n) × (g i ≡ y)) ⊎ ((i : ℕ) → i < suc n → g i ≢ y)
    go (inl s) d = inl (s.0, omega (arith, s.1), s.2)
    go (inr h) (yes e) = inl (n, omega arith, e)
    go (inr h) (no c) = inr (λ i l. each i l (ℕ_discrete i n))
      where
        each : (i : ℕ) → i < suc n → Dec (i ≡ n) → g i ≢ y
        each i l (yes e) = λ p. c (ap g (sym e) ∙ p)
        each i l (no q) = h i (omega arith)

abbrev pub Twice : (ℕ → ℕ) → ℕ → Type 0
Twice g n = (i : ℕ) × (j : ℕ) × (i < j) × (j ≤ n) × (g i ≡ g j)

-- by induction: where g (suc n) has not come before, it takes the place of the value n
pub pigeonhole : (n : ℕ) (g : ℕ → ℕ) → ((i : ℕ) → i ≤ n → g i < n) → Twice g n
pigeonhole zero g h = absurd (omega (arith, h 0 (omega arith)))
pigeonhole (suc n) g h = go (seek g (g (suc n)) (suc n)) (pigeonhole n)
  where
    go : ((i : ℕ) × (i < suc n) × (g i ≡ g (suc n))) ⊎ ((i : ℕ) → i < suc n → g i ≢ g (suc n))
        → ((k : ℕ → ℕ) → ((i : ℕ) → i ≤ n → k i < n) → Twice k n) → Twice g (suc n)
    go (inl s) ih = (s.0, suc n, s.1, omega arith, s.2)
    go (inr none) ih = back (ih k small)
      where
        pick : (x : ℕ) → Dec (x ≡ n) → ℕ
        pick x (yes e) = g (suc n)
        pick x (no c) = x

        k : ℕ → ℕ
        k i = pick (g i) (ℕ_discrete (g i) n)

        small : (i : ℕ) → i ≤ n → k i < n
        small i l = by (ℕ_discrete (g i) n)
          where
            by : (d : Dec (g i ≡ n)) → pick (g i) d < n
            by (yes e) = omega (arith, h (suc n) (omega arith), none i (omega arith), e)
            by (no c) = omega (arith, h i (omega arith), c)

        same : (i j : ℕ) → i ≤ n → j ≤ n → (d : Dec (g i ≡ n)) (e : Dec (g j ≡ n)) → pick (g i) d ≡ pick (g j) e → g i ≡ g j
        same i j li lj (yes p) (yes q) s = p ∙ sym q
        same i j li lj (yes p) (no q) s = absurd (none j (omega arith) (sym s))
        same i j li lj (no p) (yes q) s = absurd (none i (omega arith) s)
        same i j li lj (no p) (no q) s = s

        back : Twice k n → Twice g (suc n)
        back t = (
          t.0,
          t.1,
          t.2,
          omega (arith, t.3),
          same t.0 t.1 (omega (arith, t.2, t.3)) (omega (arith, t.3)) (ℕ_discrete (g t.0) n) (ℕ_discrete (g t.1) n) t.4,
        )
