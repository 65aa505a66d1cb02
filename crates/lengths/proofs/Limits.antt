-- A capacity less a value along a dart once at most: how great it is, and that the machine's steps on the way to it fit.
use mathlib.Core.Path.{◌≡◌, refl, sym, ◌∙◌, ap, ap₂, subst}
use mathlib.Core.Logic.{◌⊎◌, inl, inr}
use mathlib.Core.Bool.{Bool, true, false}
use Prim.Native.Nat.{ℕ, ◌+◌}
use native.Mathlib.Omega.{arith}
use lib.IntN.{ℤ, pos, negsuc, ◌+ℤ◌, ◌-ℤ◌, ◌*ℤ◌}
use mir.Syntax.{w32}
use mir.Val.{to_z, of_z, SFits}
use Rattle.integers.proofs.Limits.{limited_plus, limited_minus, limited_more}
use Rattle.signed.proofs.Limits.{limited_fits, same_bits}
use Rattle.integers.specs.Sum.{when}
use Rattle.integers.proofs.Omega.{atoms₂, parts, equal}
use Rattle.integers.specs.inner.Limited.{Limited}
use Rattle.arrays.specs.inner.Sizes.{most_value, most_length}

-- ── along a dart, against it, or not at all ──
abbrev pub Unit : ℤ → Type 0
Unit x = (x ≡ pos 0) ⊎ ((x ≡ pos 1) ⊎ (x ≡ negsuc 0))

pub two_tests : (p q : Bool) → Unit (when p (pos 1) -ℤ when q (pos 1))
two_tests true true = inl refl
two_tests true false = inr (inl refl)
two_tests false true = inr (inr refl)
two_tests false false = inl refl

pub less_nothing : (c value : ℤ) → c -ℤ value *ℤ pos 0 ≡ c
less_nothing c value = let t = atoms₂ c value in equal (search parts) (omega arith)

pub limited_unit : {a b : ℕ} {c value : ℤ} (f : ℤ) → Unit f → Limited a c → Limited b value → Limited (a + b) (c -ℤ value *ℤ f)
limited_unit {a} {b} {c} {value} f u h g = go u
  where
    once : c -ℤ value *ℤ pos 1 ≡ c -ℤ value
    once = let t = atoms₂ c value in equal (search parts) (omega arith)

    back : c -ℤ value *ℤ negsuc 0 ≡ c +ℤ value
    back = let t = atoms₂ c value in equal (search parts) (omega arith)

    go : Unit f → Limited (a + b) (c -ℤ value *ℤ f)
    go (inl e) = subst (Limited (a + b)) (sym (ap (λ z. c -ℤ value *ℤ z) e ∙ less_nothing c value)) (limited_more (omega arith) h)
    go (inr (inl e)) = subst (Limited (a + b)) (sym (ap (λ z. c -ℤ value *ℤ z) e ∙ once)) (limited_minus h g)
    go (inr (inr e)) = subst (Limited (a + b)) (sym (ap (λ z. c -ℤ value *ℤ z) e ∙ back)) (limited_plus h g)

-- ── one step of the machine, on a length and a value ──
module _ {x y : ℤ} (h : Limited most_length x) (g : Limited most_value y) where
  pub minus_read : to_z w32 (of_z w32 x) -ℤ to_z w32 (of_z w32 y) ≡ x -ℤ y
  minus_read = ap₂ (λ a b. a -ℤ b) (same_bits (omega arith) h) (same_bits (omega arith) g)

  pub plus_read : to_z w32 (of_z w32 x) +ℤ to_z w32 (of_z w32 y) ≡ x +ℤ y
  plus_read = ap₂ (λ a b. a +ℤ b) (same_bits (omega arith) h) (same_bits (omega arith) g)

  pub minus_fits : SFits w32 (to_z w32 (of_z w32 x) -ℤ to_z w32 (of_z w32 y))
  minus_fits = subst (SFits w32) (sym minus_read) (limited_fits (most_length + most_value) (x -ℤ y) (omega arith) (limited_minus h g))

  pub plus_fits : SFits w32 (to_z w32 (of_z w32 x) +ℤ to_z w32 (of_z w32 y))
  plus_fits = subst (SFits w32) (sym plus_read) (limited_fits (most_length + most_value) (x +ℤ y) (omega arith) (limited_plus h g))
