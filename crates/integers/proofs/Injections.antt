-- An injection of 0..n-1 into itself is onto, and has an inverse; sums are reindexed by it.
use mathlib.Core.Path.{◌≡◌, sym, ◌∙◌, ap}
use mathlib.Core.Logic.{◌⊎◌, inl, inr, ◌≢◌}
use mathlib.Core.Bool.{Bool, true, false, cond, true≢false}
use Prim.Native.Nat.{ℕ, zero, suc, ◌≤◌, ◌<◌}
use native.Mathlib.Omega.{arith}
use lib.Dec.{eqb}
use Rattle.integers.specs.Sum.{Monoid, Naturals, sum, sumℕ, bit, count}
use Rattle.integers.proofs.Tests.{either, eqb_eq}
use Rattle.integers.proofs.Sums.{sum_ext, sum_swap, sum_pick, sum_bijection}
use Rattle.integers.proofs.Counting.{bit_le, bit_one, sum_full, sum_unique, sum_ones, count_find}

-- the last number below n that passes the test, 0 where none does
unfoldable pub find : ℕ → (ℕ → Bool) → ℕ
find zero b = 0
find (suc n) b = cond (b n) n (find n b)

pub find_is : (n : ℕ) (b : ℕ → Bool) (i : ℕ) → i < n → b i ≡ true → (find n b < n) × (b (find n b) ≡ true)
unfolding find
find_is zero b i l e = absurd (omega arith)
find_is (suc n) b i l e = go (either (b n)) (find_is n b i)
  where
    go : (b n ≡ true) ⊎ (b n ≡ false) → (i < n → b i ≡ true → (find n b < n) × (b (find n b) ≡ true))
        → (cond (b n) n (find n b) < suc n) × (b (cond (b n) n (find n b)) ≡ true)
    go (inl p) r = rw p (omega arith, p)
    go (inr p) r = rw p (omega (arith, q), q.1)
      where
        ne : i ≢ n
        ne h = true≢false (sym e ∙ ap b h ∙ p)

        q : (find n b < n) × (b (find n b) ≡ true)
        q = r (omega (arith, ne)) e

module _ (n : ℕ) (p : ℕ → ℕ) (p_in : (i : ℕ) → i < n → p i < n) (p-injective : (i j : ℕ) → i < n → j < n → p i ≡ p j → i ≡ j) where
  -- n values below n, no two equal: each number is one of them, by counting pairs (i, j) with p i = j both ways
  pub onto : (j : ℕ) → j < n → (i : ℕ) × (i < n) × (eqb j (p i) ≡ true)
  onto j l = count_find n (λ i. eqb j (p i)) (sum_full n (λ j. count n (λ i. eqb j (p i))) small whole j l)
    where
      small : (j : ℕ) → j < n → count n (λ i. eqb j (p i)) ≤ 1
      small j l = sum_unique n (λ i. bit (eqb j (p i))) (λ i m. bit_le (eqb j (p i)))
          (λ i i' m m' h h'. p-injective i i' m m' (sym (eqb_eq j (p i) (bit_one (eqb j (p i)) h)) ∙ eqb_eq j (p i') (bit_one (eqb j (p i')) h')))

      whole : n ≤ sumℕ n (λ j. count n (λ i. eqb j (p i)))
      whole =
          omega (
            arith,
            sum_swap Naturals n n (λ j i. bit (eqb j (p i))),
            sum_ext Naturals n (λ i. sumℕ n (λ j. bit (eqb j (p i)))) (λ i. 1) (λ i m. sum_pick Naturals n (p i) (λ j. 1) (p_in i m)),
            sum_ones n,
          )

  pub inverse : ℕ → ℕ
  inverse j = find n (λ i. eqb j (p i))

  pub inverse_in : (j : ℕ) → j < n → inverse j < n
  unfolding inverse
  inverse_in j l = let q = onto j l in (find_is n (λ i. eqb j (p i)) q.0 q.1 q.2).0

  pub after_inverse : (j : ℕ) → j < n → p (inverse j) ≡ j
  unfolding inverse
  after_inverse j l = let q = onto j l in sym (eqb_eq j (p (inverse j)) (find_is n (λ i. eqb j (p i)) q.0 q.1 q.2).1)

  pub inverse_after : (i : ℕ) → i < n → inverse (p i) ≡ i
  inverse_after i l = p-injective (inverse (p i)) i (inverse_in (p i) (p_in i l)) l (after_inverse (p i) (p_in i l))

  pub sum_reindex : (𝓜 : Monoid) (f : ℕ → 𝓜.Carrier) → sum 𝓜 n (λ i. f (p i)) ≡ sum 𝓜 n f
  sum_reindex 𝓜 f = sum_bijection 𝓜 n p inverse f p_in inverse_in inverse_after after_inverse
