-- Ring and order laws of ℤ that the kit lacks. The first ones are single calls of `Omega`; the products with a natural follow.
use mathlib.Core.Path.{◌≡◌, refl}
use mathlib.Core.Logic.{◌⊎◌, inl, inr}
use mathlib.Core.Bool.{Bool, true, false}
use Prim.Native.Nat.{ℕ, suc, ◌+◌, ◌*◌, ◌≤◌}
use native.Mathlib.Omega.{arith}
use native.Mathlib.Nat.{mul-le-mul}
use lib.IntN.{ℤ, pos, neg_ℤ, ◌+ℤ◌, ◌-ℤ◌, ◌*ℤ◌}
use lib.Signed.{◌≤ℤ◌, ◌<ℤ◌, le_z, lt_z, le_z_yes, lt_z_yes, lt_z_no}
use Rattle.integers.proofs.Omega.{atom, atoms₂, atoms₃, atoms₄, parts, positive, negative, equal, at_most, less, from_equal, from_at_most, from_less}

-- ── ring ──
pub mul_distrib_left : (c x y : ℤ) → c *ℤ (x +ℤ y) ≡ c *ℤ x +ℤ c *ℤ y
mul_distrib_left c x y = let a = atoms₃ c x y in equal (search parts) (omega arith)

pub mul_distrib_right : (x y c : ℤ) → (x +ℤ y) *ℤ c ≡ x *ℤ c +ℤ y *ℤ c
mul_distrib_right x y c = let a = atoms₃ c x y in equal (search parts) (omega arith)

pub mul_assoc : (x y z : ℤ) → (x *ℤ y) *ℤ z ≡ x *ℤ (y *ℤ z)
mul_assoc x y z = let a = atoms₃ x y z in equal (search parts) (omega arith)

pub mul_neg : (x y : ℤ) → x *ℤ neg_ℤ y ≡ neg_ℤ (x *ℤ y)
mul_neg x y = let a = atoms₂ x y in equal (search parts) (omega arith)

pub sub_sub : (x y : ℤ) → x -ℤ (x -ℤ y) ≡ y
sub_sub x y = let a = atoms₂ x y in equal (search parts) (omega arith)

pub neg_sub : (x y : ℤ) → neg_ℤ (x -ℤ y) ≡ y -ℤ x
neg_sub x y = let a = atoms₂ x y in equal (search parts) (omega arith)

-- no difference: equal
pub equal_of_sub : (x y : ℤ) → x -ℤ y ≡ pos 0 → x ≡ y
equal_of_sub x y e = let a = atoms₂ x y in equal (search parts) (omega (arith, from_equal e (search parts)))

-- ── order ──
pub le_trans : {x y z : ℤ} → x ≤ℤ y → y ≤ℤ z → x ≤ℤ z
le_trans {x} {y} {z} h g = let a = atoms₃ x y z in at_most (search parts) (omega (arith, from_at_most h (search parts), from_at_most g (search parts)))

pub le_antisym : {x y : ℤ} → x ≤ℤ y → y ≤ℤ x → x ≡ y
le_antisym {x} {y} h g = let a = atoms₂ x y in equal (search parts) (omega (arith, from_at_most h (search parts), from_at_most g (search parts)))

pub le_add : {x y z w : ℤ} → x ≤ℤ y → z ≤ℤ w → (x +ℤ z) ≤ℤ (y +ℤ w)
le_add {x} {y} {z} {w} h g = let a = atoms₄ x y z w in at_most (search parts) (omega (arith, from_at_most h (search parts), from_at_most g (search parts)))

pub le_neg : {x y : ℤ} → x ≤ℤ y → neg_ℤ y ≤ℤ neg_ℤ x
le_neg {x} {y} h = let a = atoms₂ x y in at_most (search parts) (omega (arith, from_at_most h (search parts)))

pub le_of_lt : {x y : ℤ} → x <ℤ y → x ≤ℤ y
le_of_lt {x} {y} h = let a = atoms₂ x y in at_most (search parts) (omega (arith, from_less h (search parts)))

pub lt_le_clash : {x y : ℤ} → x <ℤ y → y ≤ℤ x → ⊥
lt_le_clash {x} {y} h g = let a = atoms₂ x y in omega (arith, from_less h (search parts), from_at_most g (search parts))

-- one of two integers is below the other, or not
pub lt_or_ge : (x y : ℤ) → (x <ℤ y) ⊎ (y ≤ℤ x)
lt_or_ge x y = go (lt_z x y) refl
  where
    go : (t : Bool) → lt_z x y ≡ t → (x <ℤ y) ⊎ (y ≤ℤ x)
    go true e = inl (lt_z_yes (rw e tt))
    go false e = inr (lt_z_no (rw e tt))

-- the same, from a test of the machine
pub lt_of_test : (x y : ℤ) → lt_z x y ≡ true → x <ℤ y
lt_of_test x y e = lt_z_yes (rw e tt)

pub ge_of_test : (x y : ℤ) → lt_z x y ≡ false → y ≤ℤ x
ge_of_test x y e = lt_z_no (rw e tt)

pub le_of_test : (x y : ℤ) → le_z x y ≡ true → x ≤ℤ y
le_of_test x y e = le_z_yes (rw e tt)

-- ── a natural factor keeps the order, and can be taken away ──
pub mul_le : (k : ℕ) {x y : ℤ} → x ≤ℤ y → (pos k *ℤ x) ≤ℤ (pos k *ℤ y)
mul_le k {x} {y} h = let a = atoms₂ x y in at_most (search parts) (omega (arith, grown))
  where
    grown : k * (positive x + negative y) ≤ k * (positive y + negative x)
    grown = mul-le-mul (omega arith) (from_at_most h (atom x, atom y))

pub mul_lt : (k : ℕ) {x y : ℤ} → x <ℤ y → (pos (suc k) *ℤ x) <ℤ (pos (suc k) *ℤ y)
mul_lt k {x} {y} h = let a = atoms₂ x y in less (search parts) (omega (arith, grown))
  where
    grown : suc k * suc (positive x + negative y) ≤ suc k * (positive y + negative x)
    grown = mul-le-mul (omega arith) (from_less h (atom x, atom y))

pub mul_le_cancel : (k : ℕ) (x y : ℤ) → (pos (suc k) *ℤ x) ≤ℤ (pos (suc k) *ℤ y) → x ≤ℤ y
mul_le_cancel k x y h = go (lt_or_ge y x)
  where
    go : (y <ℤ x) ⊎ (x ≤ℤ y) → x ≤ℤ y
    go (inl l) = absurd (lt_le_clash (mul_lt k l) h)
    go (inr l) = l
