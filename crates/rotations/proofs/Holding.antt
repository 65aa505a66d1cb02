-- Laws of `holding`: a place that stops holding the value lowers it by 1. Arrays of one value.
use mathlib.Core.Path.{◌≡◌, refl, sym, ◌∙◌, ap}
use mathlib.Core.Logic.{◌≢◌}
use Prim.Native.Nat.{ℕ, zero, suc, ◌+◌, ◌<◌}
use native.Mathlib.Omega.{arith}
use native.Mathlib.Decide.{ℕ_discrete, dec_lt}
use lib.Dec.{eqb}
use lib.ListN.{replicate, length-replicate, get_or-replicate, get_or-eq_default}
use Rattle.integers.specs.Sum.{sum, bit}
use Rattle.integers.proofs.Tests.{eqb_true, eqb_false}
use Rattle.integers.proofs.Counting.{count_lt}
use Rattle.arrays.specs.At.{at}
use Rattle.rotations.specs.inner.Holding.{holding}

holding_suc : (x n : ℕ) (g : ℕ → ℕ) → holding x (suc n) g ≡ holding x n g + bit (eqb (g n) x)
unfolding holding sum
holding_suc x n g = refl

holding_zero : (x : ℕ) (g : ℕ → ℕ) → holding x 0 g ≡ 0
unfolding holding sum
holding_zero x g = refl

-- the last place holds x, or does not
last_holds : (x n : ℕ) (g : ℕ → ℕ) → g n ≡ x → holding x (suc n) g ≡ holding x n g + 1
last_holds x n g e = holding_suc x n g ∙ rw (eqb_true (g n) x e)

last_not : (x n : ℕ) (g : ℕ → ℕ) → g n ≢ x → holding x (suc n) g ≡ holding x n g
last_not x n g h = holding_suc x n g ∙ rw (eqb_false (g n) x h) (omega arith)

holding_same : (x n : ℕ) (g h : ℕ → ℕ) → ((y : ℕ) → y < n → h y ≡ g y) → holding x n h ≡ holding x n g
holding_same x zero g h e = holding_zero x h ∙ sym (holding_zero x g)
holding_same x (suc n) g h e =
    holding_suc x n h ∙ rw (e n (omega arith), holding_same x n g h (λ y l. e y (omega arith))) (sym (holding_suc x n g))

-- every place holds x
pub holding_all : (x n : ℕ) (g : ℕ → ℕ) → ((y : ℕ) → y < n → g y ≡ x) → holding x n g ≡ n
holding_all x zero g h = holding_zero x g
holding_all x (suc n) g h = omega (arith, last_holds x n g (h n (omega arith)), holding_all x n g (λ y l. h y (omega arith)))

-- none does, and what that says of each
pub holding_none : (x n : ℕ) (g : ℕ → ℕ) → ((y : ℕ) → y < n → g y ≢ x) → holding x n g ≡ 0
holding_none x zero g h = holding_zero x g
holding_none x (suc n) g h = last_not x n g (h n (omega arith)) ∙ holding_none x n g (λ y l. h y (omega arith))

pub none_holds : (x n : ℕ) (g : ℕ → ℕ) → holding x n g ≡ 0 → (y : ℕ) → y < n → g y ≢ x
unfolding holding
none_holds x n g z y l e = omega (arith, z, count_lt y n (λ i. eqb (g i) x) l (eqb_true (g y) x e))

-- one place stops holding x, and the others stay
pub holding_less : (x n : ℕ) (g h : ℕ → ℕ) (z : ℕ) → z < n → g z ≡ x → h z ≢ x → ((y : ℕ) → y ≢ z → h y ≡ g y) → holding x n h + 1 ≡ holding x n g
holding_less x zero g h z l a b e = absurd (omega arith)
holding_less x (suc n) g h z l a b e = go (ℕ_discrete z n) (holding_less x n g h z)
  where
    go : Dec (z ≡ n) → (z < n → g z ≡ x → h z ≢ x → ((y : ℕ) → y ≢ z → h y ≡ g y) → holding x n h + 1 ≡ holding x n g)
        → holding x (suc n) h + 1 ≡ holding x (suc n) g
    go (yes p) r =
        let rest = holding_same x n g h (λ y m. e y (λ q. omega (arith, p))) in
        omega (arith, last_not x n h (rw p at b), last_holds x n g (rw p at a))
    go (no p) r = omega (arith, holding_suc x n h, holding_suc x n g, r (omega (arith, p)) a b e, ap (λ y. bit (eqb y x)) (e n (λ q. p (sym q))))

-- a new array holds 0 everywhere
pub zeros : (k : ℕ) → ◌≡◌ {A = ℕ} (at (replicate 1024 0) k) 0
zeros k = go (dec_lt k 1024)
  where
    go : Dec (k < 1024) → ◌≡◌ {A = ℕ} (at (replicate 1024 0) k) 0
    go (yes l) = get_or-replicate 1024 k 0 0 l
    go (no l) = get_or-eq_default (replicate 1024 0) 0 {n = k} (rw (length-replicate {A = ℕ} 1024 0) (omega (arith, l)))
