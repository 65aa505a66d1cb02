-- Numbers of limited size fit the machine's words.
use mathlib.Core.Path.{◌≡◌}
use Prim.Native.Nat.{ℕ, ◌^◌, ◌<◌}
use native.Mathlib.Omega.{arith}
use lib.IntN.{ℤ, pos, negsuc}
use mir.Syntax.{Width, w16, w32, w64}
use mir.Val.{to_z, of_z, hbits, SFits}
use mir.ValLaws.{to_z-of_z}
use Rattle.integers.specs.inner.Limited.{Limited}
use Rattle.integers.proofs.Omega.{parts, from_at_most}

-- ── at any width ──
pub limited_fits_at : (w : Width) (b : ℕ) (x : ℤ) → b < 2 ^ hbits w → Limited b x → SFits w x
limited_fits_at w b (pos n) l h = record { sfits = omega (arith, l, from_at_most h.high (search parts)) }
limited_fits_at w b (negsuc n) l h = record { sfits = omega (arith, l, from_at_most h.low (search parts)) }

-- a number that fits is read back from its bits
pub same_bits_at : (w : Width) {b : ℕ} {x : ℤ} → b < 2 ^ hbits w → Limited b x → to_z w (of_z w x) ≡ x
same_bits_at w {b} {x} l h = to_z-of_z w x (limited_fits_at w b x l h)

-- ── at 32 bits, at 64 and at 16 ──
pub limited_fits : (b : ℕ) (x : ℤ) → b < 2147483648 → Limited b x → SFits w32 x
limited_fits = limited_fits_at w32

pub same_bits : {b : ℕ} {x : ℤ} → b < 2147483648 → Limited b x → to_z w32 (of_z w32 x) ≡ x
same_bits = same_bits_at w32

pub limited_fits64 : (b : ℕ) (x : ℤ) → b < 9223372036854775808 → Limited b x → SFits w64 x
limited_fits64 = limited_fits_at w64

pub same_bits64 : {b : ℕ} {x : ℤ} → b < 9223372036854775808 → Limited b x → to_z w64 (of_z w64 x) ≡ x
same_bits64 = same_bits_at w64

pub limited_fits16 : (b : ℕ) (x : ℤ) → b < 32768 → Limited b x → SFits w16 x
limited_fits16 = limited_fits_at w16

pub same_bits16 : {b : ℕ} {x : ℤ} → b < 32768 → Limited b x → to_z w16 (of_z w16 x) ≡ x
same_bits16 = same_bits_at w16
