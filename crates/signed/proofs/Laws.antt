-- Laws of signed machine numbers: 32 bits and back, some bits at more, sums and differences of two i32 fit 64 bits, the bits of a number below 0 turned over,
-- and half of one that is not below 0.
use mathlib.Core.Path.{◌≡◌, refl, sym, ap, ◌∙◌}
use mathlib.Core.Bool.{Bool, true, false, cond}
use Prim.Native.Nat.{ℕ, zero, suc, ◌+◌, ◌-◌, ◌/◌, ◌^◌, ◌≤◌, ◌<◌}
use native.Mathlib.Omega.{arith}
use lib.IntN.{ℤ, pos, negsuc, ◌+ℤ◌, ◌-ℤ◌, neg_ℤ, sub_ℕ, nat_abs}
use lib.Signed.{mag, lt_z, non_neg, ◌≤ℤ◌}
use lib.Dec.{T, eqb, ltb}
use borrow.Author.Tests.{ltb-true}
use mir.Syntax.{Width, w16, w32, w64}
use mir.Val.{SFits, to_z, of_z, hbits}
use mir.ValLaws.{to_z_pos, to_z-of_z, to_z-Fits, of_z-to_z, of_z_fits}
use Rattle.integers.proofs.Omega.{parts, at_most}
use Rattle.integers.proofs.Tests.{eqb_eq, eqb_ne}

-- ── 32 bits and back ──
pub number_of_bits : (x : ℤ) → SFits w32 x → to_z w32 (of_z w32 x) ≡ x
number_of_bits x f = to_z-of_z w32 x f

pub bits_of_number : (n : ℕ) → n < 4294967296 → of_z w32 (to_z w32 n) ≡ n
bits_of_number n h = of_z-to_z w32 n (record { fits = h })

-- the bits of a number that fits are 32, and 32 bits make a number that fits
pub bits_below : (x : ℤ) → SFits w32 x → of_z w32 x < 4294967296
bits_below x f = (of_z_fits w32 x f).fits

pub number_fits : (n : ℕ) → n < 4294967296 → SFits w32 (to_z w32 n)
number_fits n h = to_z-Fits w32 n (record { fits = h })

-- ── numbers are one where their bits are ──
module _ {x y : ℤ} (f : SFits w32 x) (g : SFits w32 y) where
  pub same_of_test : eqb (of_z w32 x) (of_z w32 y) ≡ true → x ≡ y
  same_of_test e = sym (number_of_bits x f) ∙ ap (to_z w32) (eqb_eq (of_z w32 x) (of_z w32 y) e) ∙ number_of_bits y g

  pub apart_of_test : eqb (of_z w32 x) (of_z w32 y) ≡ false → x ≡ y → ⊥
  apart_of_test e q = eqb_ne (of_z w32 x) (of_z w32 y) e (ap (of_z w32) q)

-- ── what fits some bits, at more ──
pub fits_more : (v w : Width) {x : ℤ} → 2 ^ hbits v ≤ 2 ^ hbits w → SFits v x → SFits w x
fits_more v w l f = record { sfits = omega (arith, l, f.sfits) }

-- a signed local holds bits: a number of some bits, taken to more, is itself
pub same_at_more : (v w : Width) → 2 ^ hbits v ≤ 2 ^ hbits w → (x : ℤ) → SFits v x → to_z w (of_z w (to_z v (of_z v x))) ≡ x
same_at_more v w l x f = ap (λ y. to_z w (of_z w y)) (to_z-of_z v x f) ∙ to_z-of_z w x (fits_more v w l f)

-- 32 bits at 64
pub fits_wider : {x : ℤ} → SFits w32 x → SFits w64 x
fits_wider f = fits_more w32 w64 (omega arith) f

pub widened : (x : ℤ) → SFits w32 x → to_z w64 (of_z w64 (to_z w32 (of_z w32 x))) ≡ x
widened = same_at_more w32 w64 (omega arith)

-- 16 bits at 32
pub fits_wide : {x : ℤ} → SFits w16 x → SFits w32 x
fits_wide f = fits_more w16 w32 (omega arith) f

pub small_widened : (x : ℤ) → SFits w16 x → to_z w32 (of_z w32 (to_z w16 (of_z w16 x))) ≡ x
small_widened = same_at_more w16 w32 (omega arith)

mag_either : (t : Bool) (a b m : ℕ) → a ≤ m → b ≤ m → mag (cond t (negsuc a) (pos b)) ≤ m
mag_either true a b m p q = p
mag_either false a b m p q = q

mag_sub : (a b : ℕ) → mag (sub_ℕ a b) ≤ a + b
mag_sub a b = mag_either (ltb a b) (b - suc a) (a - b) (a + b) (omega arith) (omega arith)

mag_add : (x y : ℤ) → mag (x +ℤ y) ≤ mag x + mag y + 1
mag_add (pos a) (pos b) = omega arith
mag_add (pos a) (negsuc b) = omega (arith, mag_sub a (suc b))
mag_add (negsuc a) (pos b) = omega (arith, mag_sub b (suc a))
mag_add (negsuc a) (negsuc b) = omega arith

mag_neg : (x : ℤ) → mag (neg_ℤ x) ≤ mag x + 1
mag_neg (pos zero) = omega arith
mag_neg (pos (suc a)) = omega arith
mag_neg (negsuc a) = omega arith

pub add_fits : (x y : ℤ) → SFits w32 x → SFits w32 y → SFits w64 (x +ℤ y)
add_fits x y f g = record { sfits = omega (arith, f.sfits, g.sfits, mag_add x y) }

pub sub_fits : (x y : ℤ) → SFits w32 x → SFits w32 y → SFits w64 (x -ℤ y)
sub_fits x y f g = record { sfits = omega (arith, f.sfits, g.sfits, mag_add x (neg_ℤ y), mag_neg y) }

-- ── below 0, and not ──
-- the bits of a number below 0, turned over, are those of a number that is not
pub turned_over : (x : ℤ) → SFits w32 x → lt_z x (pos 0) ≡ true → to_z w32 (4294967295 - of_z w32 x) ≡ pos (4294967295 - of_z w32 x)
turned_over (pos n) f h = let b : n < 0 = ltb-true n 0 h in absurd (omega arith)
turned_over (negsuc k) f h = to_z_pos w32 (4294967295 - (4294967296 - suc k)) (omega (arith, f.sfits))

pub not_below : (x : ℤ) → lt_z x (pos 0) ≡ false → T (non_neg x) × (nat_abs x ≡ of_z w32 x)
not_below (pos n) h = (tt, refl)
not_below (negsuc k) h = let z : ◌≡◌ {A = ℕ} 0 1 = cc in absurd (omega arith)

-- ── half of a number that is not below 0: its bits are the number itself ──
pub halved : (x r : ℤ) (n : ℕ) → SFits w32 x → pos 0 ≤ℤ x → n ≡ of_z w32 x → r ≡ to_z w32 (n / 2) → ((r +ℤ r) ≤ℤ x) × (x ≤ℤ ((r +ℤ r) +ℤ pos 1))
halved (pos m) r n f h is-n is-r =
    let is-half : r ≡ pos (m / 2) = is-r ∙ ap (λ k. to_z w32 (k / 2)) is-n ∙ to_z_pos w32 (m / 2) (omega (arith, f.sfits)) in
    rw is-half (at_most (search parts) (omega arith), at_most (search parts) (omega arith))
halved (negsuc m) r n f h is-n is-r = absurd h.le
