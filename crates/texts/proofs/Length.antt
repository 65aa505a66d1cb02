-- How many bytes a number takes, for callers who must show that a text fits: at least one, and at most k + 1 digits below 10 ^ (k + 1), with a sign one more.
use mathlib.Core.Path.{◌≡◌, ap, ◌∙◌}
use mathlib.Core.Logic.{⊎_elim}
use mathlib.Core.List.{[], ◌∷◌}
use Prim.Native.Nat.{ℕ, zero, suc, ◌+◌, ◌*◌, ◌/◌, ◌%◌, ◌^◌, ◌<◌, ◌≤◌}
use Rattle.std.specs.Prelude.{max}
use native.Mathlib.Nat.{pow-suc}
use native.Mathlib.Omega.{arith}
use lib.ListN.{length, length-append}
use lib.IntN.{ℤ, pos, negsuc}
use Rattle.integers.specs.inner.Limited.{Limited}
use Rattle.integers.proofs.Omega.{parts, from_at_most}
use Rattle.texts.specs.Decimal.{digit, decimal, number}
use Rattle.texts.proofs.Digits.{decimal_one, decimal_more, by_digits, below_or_not, tenth_below}

pub length_one : (n : ℕ) → n < 10 → length (decimal n) ≡ 1
length_one n h = ap length (decimal_one n h)

pub length_more : (n : ℕ) → 10 ≤ n → length (decimal n) ≡ length (decimal (n / 10)) + 1
length_more n h = ap length (decimal_more n h) ∙ length-append (decimal (n / 10)) (digit (n % 10) ∷ [])

pub decimal_positive : (n : ℕ) → 0 < length (decimal n)
decimal_positive = by_digits (λ n. 0 < length (decimal n)) (λ n h. omega (arith, length_one n h)) (λ n h ih. omega (arith, length_more n h))

pub decimal_length : (k n : ℕ) → n < 10 ^ suc k → length (decimal n) ≤ suc k
decimal_length zero n h = omega (arith, length_one n h)
decimal_length (suc k) n h =
    ⊎_elim
    (λ l. omega (arith, length_one n l))
    (λ l. omega (arith, length_more n l, decimal_length k (n / 10) (tenth_below k n h)))
    (below_or_not n 10)

-- ── the digits counted by the power of ten that is not above the number ──
power_positive : (k : ℕ) → 0 < 10 ^ k
power_positive zero = omega arith
power_positive (suc k) = rw (pow-suc 10 k) (omega (arith, power_positive k))

at_least : (k n : ℕ) → 10 ^ k ≤ n → suc k ≤ length (decimal n)
at_least zero n h = omega (arith, decimal_positive n)
at_least (suc k) n h =
    let g : 10 ^ k * 10 ≤ n = rw (pow-suc 10 k) at h in
    omega (arith, power_positive k, length_more n (omega (arith, power_positive k)), at_least k (n / 10) (omega arith))

pub length_by_power : (k n m : ℕ) → m ≡ max n 1 → 10 ^ k ≤ m → m < 10 * 10 ^ k → length (decimal n) ≡ k + 1
length_by_power k zero m e h g =
    let zeroth : length (decimal 1) ≤ 1 = omega (arith, length_one 1 (omega arith)) in
    omega (arith, length_one 0 (omega arith), at_least k 1 (omega arith), zeroth)
length_by_power k (suc n) m e h g =
    let same : m ≡ suc n = omega arith in
    let up : suc n < 10 ^ suc k = rw (pow-suc 10 k) (omega arith) in
    omega (arith, at_least k (suc n) (omega arith), decimal_length k (suc n) up)

pub number_positive : (x : ℤ) → 0 < length (number x)
unfolding number
number_positive (pos n) = decimal_positive n
number_positive (negsuc n) = omega arith

-- from −bound to bound
pub number_length : (k bound : ℕ) (x : ℤ) → bound < 10 ^ suc k → Limited bound x → length (number x) ≤ suc (suc k)
unfolding number
number_length k bound (pos n) b l = omega (arith, decimal_length k n (omega (arith, from_at_most l.high (search parts))))
number_length k bound (negsuc n) b l = omega (arith, decimal_length k (suc n) (omega (arith, from_at_most l.low (search parts))))

-- two uses, as a caller shows that a text fits
ten_bytes : (x : ℤ) → Limited 600000000 x → length (number x) ≤ 10
ten_bytes x h = number_length 8 600000000 x (omega arith) h

eight_bytes : (x : ℤ) → Limited 1000000 x → length (number x) ≤ 8
eight_bytes x h = number_length 6 1000000 x (omega arith) h
