-- What was written can be read back: from its digits a number is found again, every byte is a digit, and only 0 starts with the digit 0. So no two numbers are
-- written alike.
use mathlib.Core.Path.{◌≡◌, refl, sym, ap, ◌∙◌}
use mathlib.Core.Logic.{⊎_elim}
use mathlib.Core.List.{List, [], ◌∷◌, ◌++◌, tail-eq_of_cons-eq}
use Prim.Native.Nat.{ℕ, suc, ◌+◌, ◌-◌, ◌*◌, ◌/◌, ◌%◌, ◌<◌, ◌≤◌}
use native.Mathlib.Omega.{arith}
use lib.ListN.{length, get_or, get_or-append}
use lib.Seq.{get_or_at}
use lib.IntN.{ℤ, pos, negsuc}
use Rattle.texts.specs.Decimal.{digit, decimal, number}
use Rattle.texts.specs.Numeral.{numeral_on, numeral}
use Rattle.texts.proofs.Digits.{below_or_not, decimal_one, decimal_more, by_digits}
use Rattle.texts.proofs.Length.{length_one, length_more, decimal_positive}

-- ── the number, from its digits ──
read_append : (n : ℕ) (xs ys : List ℕ) → numeral_on n (xs ++ ys) ≡ numeral_on (numeral_on n xs) ys
unfolding numeral_on
read_append n [] ys = refl
read_append n (x ∷ xs) ys = read_append (n * 10 + (x - 48)) xs ys

pub decimal_read : (n : ℕ) → numeral (decimal n) ≡ n
unfolding numeral numeral_on
decimal_read = by_digits (λ n. numeral (decimal n) ≡ n) one more
  where
    one : (n : ℕ) → n < 10 → numeral (decimal n) ≡ n
    one n h = ap numeral (decimal_one n h) ∙ omega arith

    more : (n : ℕ) → 10 ≤ n → numeral (decimal (n / 10)) ≡ n / 10 → numeral (decimal n) ≡ n
    more n h before = ap numeral (decimal_more n h) ∙ read_append 0 (decimal (n / 10)) (digit (n % 10) ∷ []) ∙ omega (arith, before)

-- ── its bytes ──
-- one of the bytes 48, .., 57
pub record Digit (b : ℕ) : Type 0 where
  pub low : 48 ≤ b
  pub high : b ≤ 57

-- any byte of the digits is one of those before the last, or the last
module _ (n : ℕ) (h : 10 ≤ n) where
  byte_before : (i : ℕ) → i < length (decimal (n / 10)) → get_or (decimal n) i 0 ≡ get_or (decimal (n / 10)) i 0
  byte_before i l = ap (λ s. get_or s i 0) (decimal_more n h) ∙ get_or-append (decimal (n / 10)) (digit (n % 10) ∷ []) 0 i l

  byte_last : (i : ℕ) → length (decimal (n / 10)) ≡ i → get_or (decimal n) i 0 ≡ digit (n % 10)
  byte_last i e = ap (λ s. get_or s i 0) (decimal_more n h) ∙ get_or_at (decimal (n / 10)) (digit (n % 10)) [] 0 i e

pub decimal_digits : (n i : ℕ) → i < length (decimal n) → Digit (get_or (decimal n) i 0)
decimal_digits = by_digits (λ n. (i : ℕ) → i < length (decimal n) → Digit (get_or (decimal n) i 0)) one more
  where
    digit_byte : (b k : ℕ) → k < 10 → b ≡ digit k → Digit b
    digit_byte b k h e = record { low = omega arith; high = omega arith }

    one : (n : ℕ) → n < 10 → (i : ℕ) → i < length (decimal n) → Digit (get_or (decimal n) i 0)
    one n h i l =
        let first : i ≡ 0 = omega (arith, length_one n h) in
        digit_byte _ n h (ap (λ k. get_or (decimal n) k 0) first ∙ ap (λ s. get_or s 0 0) (decimal_one n h))

    more : (n : ℕ) → 10 ≤ n → ((i : ℕ) → i < length (decimal (n / 10)) → Digit (get_or (decimal (n / 10)) i 0))
        → (i : ℕ) → i < length (decimal n) → Digit (get_or (decimal n) i 0)
    more n h before i l =
        ⊎_elim
        (λ g. rw (byte_before n h i g) (before i g))
        (λ g. digit_byte _ (n % 10) (omega arith) (byte_last n h i (omega (arith, length_more n h))))
        (below_or_not i (length (decimal (n / 10))))

pub no_leading_zero : (n : ℕ) → get_or (decimal n) 0 0 ≡ 48 → n ≡ 0
no_leading_zero = by_digits (λ n. get_or (decimal n) 0 0 ≡ 48 → n ≡ 0) one more
  where
    one : (n : ℕ) → n < 10 → get_or (decimal n) 0 0 ≡ 48 → n ≡ 0
    one n h e = omega (arith, ap (λ s. get_or s 0 0) (decimal_one n h))

    more : (n : ℕ) → 10 ≤ n → (get_or (decimal (n / 10)) 0 0 ≡ 48 → n / 10 ≡ 0) → get_or (decimal n) 0 0 ≡ 48 → n ≡ 0
    more n h before e = absurd (omega (arith, before (sym (byte_before n h 0 (decimal_positive (n / 10))) ∙ e)))

-- ── no two numbers are written alike ──
pub decimal_injective : (m n : ℕ) → decimal m ≡ decimal n → m ≡ n
decimal_injective m n e = sym (decimal_read m) ∙ ap numeral e ∙ decimal_read n

-- no digit is the minus sign
no_minus : (n : ℕ) (bs : List ℕ) → decimal n ≡ 45 ∷ bs → ⊥
no_minus n bs e = omega (arith, (decimal_digits n 0 (decimal_positive n)).low, ap (λ s. get_or s 0 0) e)

pub number_injective : (x y : ℤ) → number x ≡ number y → x ≡ y
unfolding number
number_injective (pos m) (pos n) e = ap pos (decimal_injective m n e)
number_injective (pos m) (negsuc n) e = absurd (no_minus m (decimal (suc n)) e)
number_injective (negsuc m) (pos n) e = absurd (no_minus n (decimal (suc m)) (sym e))
number_injective (negsuc m) (negsuc n) e =
    let same : suc m ≡ suc n = decimal_injective (suc m) (suc n) (tail-eq_of_cons-eq e) in
    ap negsuc (omega arith)
