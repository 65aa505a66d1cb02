-- A number with its sign is its magnitude in base ten, with a minus before it if it is below zero.
use mathlib.Core.Path.{◌≡◌, refl, sym, ap, ◌∙◌}
use mathlib.Core.Bool.{true, false}
use mathlib.Core.List.{◌∷◌}
use Prim.Native.Nat.{ℕ, ◌<◌}
use native.Mathlib.Omega.{arith}
use lib.IntN.{ℤ, pos, negsuc, nat_abs}
use lib.Signed.{lt_z}
use mir.Syntax.{w32}
use mir.Val.{SFits, to_z, of_z}
use borrow.Author.Tests.{ltb-true}
use Rattle.signed.proofs.Laws.{number_of_bits}
use Rattle.texts.specs.Decimal.{decimal, number}

number_below : (x : ℤ) → lt_z x (pos 0) ≡ true → number x ≡ 45 ∷ decimal (nat_abs x)
unfolding number
number_below (pos n) h = let b : n < 0 = ltb-true n 0 h in absurd (omega arith)
number_below (negsuc n) h = refl

number_not_below : (x : ℤ) → lt_z x (pos 0) ≡ false → number x ≡ decimal (nat_abs x)
unfolding number
number_not_below (pos n) h = refl
number_not_below (negsuc n) h = let z : ◌≡◌ {A = ℕ} 0 1 = cc in absurd (omega arith)

-- what is written of an i32 of which n is the magnitude
pub with_minus : (x : ℤ) (n : ℕ) → SFits w32 x → n ≡ nat_abs (to_z w32 (of_z w32 x)) → lt_z (to_z w32 (of_z w32 x)) (pos 0) ≡ true → 45 ∷ decimal n ≡ number x
with_minus x n f e h =
    let z = number_of_bits x f in
    ap (λ m. 45 ∷ decimal m) (e ∙ ap nat_abs z) ∙ sym (number_below x (rw z at h))

pub without_minus : (x : ℤ) (n : ℕ) → SFits w32 x → n ≡ nat_abs (to_z w32 (of_z w32 x)) → lt_z (to_z w32 (of_z w32 x)) (pos 0) ≡ false → decimal n ≡ number x
without_minus x n f e h =
    let z = number_of_bits x f in
    ap decimal (e ∙ ap nat_abs z) ∙ sym (number_not_below x (rw z at h))
