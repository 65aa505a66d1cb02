-- Bits of a word: those below a power of 2, the word made from tests, and its ones.
use mathlib.Core.Path.{◌≡◌, refl, sym, ap, ◌∙◌, subst}
use mathlib.Core.Bool.{Bool, true, false}
use Prim.Native.Nat.{ℕ, zero, suc, ◌+◌, ◌-◌, ◌*◌, ◌/◌, ◌%◌, ◌^◌, ◌≤◌, ◌<◌}
use native.Mathlib.Omega.{arith}
use native.Mathlib.Decide.{ℕ_discrete}
use native.Mathlib.Nat.{mod-lt, one-mul, mod-eq_of_lt, pow-suc, zero-mul, zero-add}
use native.Mathlib.Numerals.{add-one}
use lib.Dec.{eqb}
use lib.Pow.{pow_pos, pow-lt, shr_lt, split, high, low, field, mod-mod-pow}
use lib.Bits.{bit_or, or_shifted_r}
use lib.Count.{ones, ones_step, ones_cat, ones-le}
use Rattle.integers.specs.Sum.{sum, Naturals, bit, count}
use Rattle.integers.proofs.Sums.{sum_ext}
use Rattle.node_sets.specs.inner.Words.{word}

-- a one shifted within 64 bits
pub one_shl : (k : ℕ) → k < 64 → 1 * 2 ^ k % 18446744073709551616 ≡ 2 ^ k
one_shl k h = rw (one-mul (2 ^ k)) (mod-eq_of_lt (pow-lt h))

-- bit k set above the bits of w
pub or_above : (w k : ℕ) → w < 2 ^ k → bit_or w (2 ^ k) ≡ 2 ^ k + w
or_above w k h = ap (λ (x : ℕ). bit_or w x) (sym (one-mul (2 ^ k))) ∙ or_shifted_r 1 k w h ∙ ap (λ (x : ℕ). x + w) (one-mul (2 ^ k))

-- the low m bits keep each bit k below m
pub low_bit : (x m k : ℕ) → k < m → x % 2 ^ m / 2 ^ k % 2 ≡ x / 2 ^ k % 2
low_bit x m k h =
    let j = m - suc k in
    let e : m ≡ (j + 1) + k = omega arith in
    ap (λ (y : ℕ). x % 2 ^ y / 2 ^ k % 2) e ∙ ap (λ (y : ℕ). y % 2) (field x (j + 1) k) ∙ mod-mod-pow (x / 2 ^ k) j 1

bit_back : (b : Bool) → eqb (bit b) 1 ≡ b
bit_back true = refl
bit_back false = refl

bit_mod : (b : Bool) → bit b % 2 ≡ bit b
bit_mod true = refl
bit_mod false = refl

-- ── the word made from tests ──
part_le : (b : Bool) (x : ℕ) → bit b * x ≤ x
part_le true x = omega arith
part_le false x = omega arith

pub word_below : (b : ℕ → Bool) (n : ℕ) → word b n < 2 ^ n
unfolding word
word_below b zero = omega arith
word_below b (suc n) = omega (arith, word_below b n, part_le (b n) (2 ^ n), pow-suc 2 n)

pub word_more : (b : ℕ → Bool) (n : ℕ) → word b (n + 1) ≡ bit (b n) * 2 ^ n + word b n
unfolding word
word_more b n = ap (word b) (add-one n)

pub word_with : (b : ℕ → Bool) (n : ℕ) → b n ≡ true → word b (n + 1) ≡ 2 ^ n + word b n
word_with b n e = word_more b n ∙ ap (λ (x : Bool). bit x * 2 ^ n + word b n) e ∙ ap (λ (x : ℕ). x + word b n) (one-mul (2 ^ n))

pub word_without : (b : ℕ → Bool) (n : ℕ) → b n ≡ false → word b (n + 1) ≡ word b n
word_without b n e = word_more b n ∙ ap (λ (x : Bool). bit x * 2 ^ n + word b n) e ∙ ap (λ (x : ℕ). x + word b n) (zero-mul (2 ^ n)) ∙ zero-add (word b n)

pub word_bit : (b : ℕ → Bool) (n k : ℕ) → k < n → word b n / 2 ^ k % 2 ≡ bit (b k)
unfolding word
word_bit b zero k h = absurd (omega arith)
word_bit b (suc n) k h = go (ℕ_discrete k n) (word_bit b n k)
  where
    go : Dec (k ≡ n) → (k < n → word b n / 2 ^ k % 2 ≡ bit (b k)) → (bit (b n) * 2 ^ n + word b n) / 2 ^ k % 2 ≡ bit (b k)
    go (yes e) r = rw e (ap (λ (x : ℕ). x % 2) (high (bit (b n)) n (word_below b n)) ∙ bit_mod (b n))
    go (no c) r =
        let l : k < n = omega (arith, c) in
        sym (low_bit (bit (b n) * 2 ^ n + word b n) n k l) ∙ ap (λ (x : ℕ). x / 2 ^ k % 2) (low (bit (b n)) n (word_below b n)) ∙ r l

-- the test comes back
pub word_test : (b : ℕ → Bool) (n k : ℕ) → k < n → eqb (word b n / 2 ^ k % 2) 1 ≡ b k
word_test b n k h = ap (λ (x : ℕ). eqb x 1) (word_bit b n k h) ∙ bit_back (b k)

-- ── ones ──
pub no_ones : ones 0 ≡ 0
no_ones = omega (arith, ones-le 0 0 (omega arith))

ones_digit : (q : ℕ) → q < 2 → ones q ≡ q
ones_digit q h =
    let a : q % 2 ≡ q = omega arith in
    let b : q / 2 ≡ 0 = omega arith in
    let s : ones q ≡ q + ones 0 = ones_step q ∙ rw (a, b) in
    omega (arith, no_ones)

digit_bit : (q : ℕ) → q < 2 → bit (eqb (q % 2) 1) ≡ q
digit_bit zero h = refl
digit_bit (suc zero) h = refl
digit_bit (suc (suc q)) h = absurd (omega arith)

-- the ones of a number of n digits are the bits that it has set
pub ones_bits : (n w : ℕ) → w < 2 ^ n → ones w ≡ count n (λ k. eqb (w / 2 ^ k % 2) 1)
unfolding sum
ones_bits zero w h = omega (arith, ones-le 0 w h)
ones_bits (suc n) w h =
    let q = w / 2 ^ n in
    let r = w % 2 ^ n in
    let small : q < 2 = shr_lt 1 n (subst (λ (x : ℕ). w < 2 ^ x) (omega arith) h) in
    let cat : ones (q * 2 ^ n + r) ≡ ones q + ones r = ones_cat n q r (mod-lt w (pow_pos n)) in
    let whole : ones w ≡ ones q + ones r = ap ones (sym (split w n)) ∙ cat in
    let rest : ones r ≡ count n (λ k. eqb (w / 2 ^ k % 2) 1) =
    ones_bits n r (mod-lt w (pow_pos n))
    ∙ sum_ext Naturals n (λ k. bit (eqb (r / 2 ^ k % 2) 1)) (λ k. bit (eqb (w / 2 ^ k % 2) 1)) (λ k l. ap (λ (x : ℕ). bit (eqb x 1)) (low_bit w n k l)) in
    let top : ones q ≡ bit (eqb (q % 2) 1) = ones_digit q small ∙ sym (digit_bit q small) in
    omega (arith, whole, rest, top)
