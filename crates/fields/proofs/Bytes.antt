-- Numbers and their bytes: a number is put together from its bytes, and its bytes are those that it was put together from.
use mathlib.Core.Path.{◌≡◌}
use Prim.Native.Nat.{ℕ, ◌+◌, ◌*◌, ◌/◌, ◌%◌, ◌<◌}
use native.Mathlib.Omega.{arith}
use native.Mathlib.Nat.{div-div-eq-div-mul, div-add-mod'}

-- ── two bytes ──
pub joined16 : (n : ℕ) → n < 65536 → n % 256 + n / 256 % 256 * 256 ≡ n
joined16 n h = omega arith

module _ (a b : ℕ) (p : a < 256) (q : b < 256) where
  pub low16 : (a + b * 256) % 256 ≡ a
  low16 = omega arith

  pub high16 : (a + b * 256) / 256 % 256 ≡ b
  high16 = omega arith

-- ── four bytes ──
-- the quotients one after another: `omega` alone loses its way among four of them
by_quotients : (n a q b r c d : ℕ) → q * 256 + a ≡ n → r * 256 + b ≡ q → d * 256 + c ≡ r → a + b * 256 + c * 65536 + d * 16777216 ≡ n
by_quotients n a q b r c d h k m = omega arith

last_quotient : (n : ℕ) → n < 4294967296 → n / 16777216 % 256 ≡ n / 16777216
last_quotient n h = omega arith

pub joined32 : (n : ℕ) → n < 4294967296 → n % 256 + n / 256 % 256 * 256 + n / 65536 % 256 * 65536 + n / 16777216 % 256 * 16777216 ≡ n
joined32 n h =
    rw (last_quotient n h)
    (by_quotients n (n % 256) (n / 256) (n / 256 % 256) (n / 65536) (n / 65536 % 256) (n / 16777216)
    (div-add-mod' n 256)
    (rw (← div-div-eq-div-mul n 256 256) (div-add-mod' (n / 256) 256))
    (rw (← div-div-eq-div-mul n 65536 256) (div-add-mod' (n / 65536) 256)))

module _ (a b c d : ℕ) (p : a < 256) (q : b < 256) (r : c < 256) (s : d < 256) where
  pub first32 : (a + b * 256 + c * 65536 + d * 16777216) % 256 ≡ a
  first32 = omega arith

  pub second32 : (a + b * 256 + c * 65536 + d * 16777216) / 256 % 256 ≡ b
  second32 = omega arith

  pub third32 : (a + b * 256 + c * 65536 + d * 16777216) / 65536 % 256 ≡ c
  third32 = omega arith

  pub fourth32 : (a + b * 256 + c * 65536 + d * 16777216) / 16777216 % 256 ≡ d
  fourth32 = omega arith

  pub below32 : a + b * 256 + c * 65536 + d * 16777216 < 4294967296
  below32 = omega arith
