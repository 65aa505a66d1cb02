-- The digits of a number by its last digit: below ten there is one, else the digits of n div 10 stand before it.
-- What holds of every number by its digits follows by induction on n div 10.
use mathlib.Core.Path.{◌≡◌, refl, sym, ap, ◌∙◌}
use mathlib.Core.Logic.{◌⊎◌, inl, inr, ⊎_elim}
use mathlib.Core.Bool.{Bool, true, false}
use mathlib.Core.List.{[], ◌∷◌, ◌++◌}
use Prim.Native.Nat.{ℕ, zero, suc, ◌*◌, ◌/◌, ◌%◌, ◌^◌, ◌<◌, ◌≤◌}
use native.Mathlib.Nat.{pow-suc}
use native.Mathlib.Omega.{arith}
use lib.Dec.{ltb}
use borrow.Author.Tests.{ltb-true, ltb-false, lt-ltb, le-ltb}
use Rattle.texts.specs.Decimal.{digit, digits, decimal}

pub below_or_not : (n k : ℕ) → (n < k) ⊎ (k ≤ n)
below_or_not n k = go (ltb n k) refl
  where
    go : (t : Bool) → ltb n k ≡ t → (n < k) ⊎ (k ≤ n)
    go true e = inl (ltb-true n k e)
    go false e = inr (ltb-false n k e)

digits_one : (depth n : ℕ) → n < 10 → digits (suc depth) n ≡ digit n ∷ []
unfolding digits
digits_one depth n h = rw (lt-ltb n 10 h)

digits_more : (depth n : ℕ) → 10 ≤ n → digits (suc depth) n ≡ digits depth (n / 10) ++ (digit (n % 10) ∷ [])
unfolding digits
digits_more depth n h = rw (le-ltb n 10 h)

-- any depth above the number gives the same digits
same_digits : (d e n : ℕ) → n < d → n < e → digits d n ≡ digits e n
same_digits zero e n h g = absurd (omega arith)
same_digits (suc d) zero n h g = absurd (omega arith)
same_digits (suc d) (suc e) n h g = ⊎_elim small (λ l. large l (same_digits d e (n / 10) (omega arith) (omega arith))) (below_or_not n 10)
  where
    small : n < 10 → digits (suc d) n ≡ digits (suc e) n
    small l = digits_one d n l ∙ sym (digits_one e n l)

    large : 10 ≤ n → digits d (n / 10) ≡ digits e (n / 10) → digits (suc d) n ≡ digits (suc e) n
    large l same = digits_more d n l ∙ ap (λ s. s ++ (digit (n % 10) ∷ [])) same ∙ sym (digits_more e n l)

pub decimal_one : (n : ℕ) → n < 10 → decimal n ≡ digit n ∷ []
unfolding decimal
decimal_one n h = digits_one n n h

pub decimal_more : (n : ℕ) → 10 ≤ n → decimal n ≡ decimal (n / 10) ++ (digit (n % 10) ∷ [])
unfolding decimal
decimal_more n h = digits_more n n h ∙ ap (λ s. s ++ (digit (n % 10) ∷ [])) (same_digits n (suc (n / 10)) (n / 10) (omega arith) (omega arith))

-- ── digits by computation ──
pub tenth_below : (k n : ℕ) → n < 10 ^ suc (suc k) → n / 10 < 10 ^ suc k
tenth_below k n h = let g : n < 10 ^ suc k * 10 = rw (pow-suc 10 (suc k)) at h in omega arith

-- below 10 ^ (k + 1) the depth k + 1 is enough: at that depth a number of many digits is written out by computation
pub decimal_computed : (k n : ℕ) → n < 10 ^ suc k → decimal n ≡ digits (suc k) n
decimal_computed zero n h = decimal_one n h ∙ sym (digits_one 0 n h)
decimal_computed (suc k) n h = ⊎_elim small (λ l. large l (decimal_computed k (n / 10) (tenth_below k n h))) (below_or_not n 10)
  where
    small : n < 10 → decimal n ≡ digits (suc (suc k)) n
    small l = decimal_one n l ∙ sym (digits_one (suc k) n l)

    large : 10 ≤ n → decimal (n / 10) ≡ digits (suc k) (n / 10) → decimal n ≡ digits (suc (suc k)) n
    large l same = decimal_more n l ∙ ap (λ s. s ++ (digit (n % 10) ∷ [])) same ∙ sym (digits_more (suc k) n l)

-- ── induction by digits ──
module _ (P : ℕ → Type 0) (one : (n : ℕ) → n < 10 → P n) (more : (n : ℕ) → 10 ≤ n → P (n / 10) → P n) where
  up_to : (bound n : ℕ) → n < bound → P n
  up_to zero n h = absurd (omega arith)
  up_to (suc bound) n h = ⊎_elim (one n) (λ l. more n l (up_to bound (n / 10) (omega arith))) (below_or_not n 10)

  pub by_digits : (n : ℕ) → P n
  by_digits n = up_to (suc n) n (omega arith)
