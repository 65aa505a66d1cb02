-- Numbers written out, by computation: one digit and more, the greatest flow and the least, and the signs.
use mathlib.Core.Path.{◌≡◌, refl, ap}
use mathlib.Core.List.{[], ◌∷◌}
use native.Mathlib.Omega.{arith}
use lib.IntN.{pos, negsuc}
use Rattle.texts.specs.Decimal.{digits, decimal, number}
use Rattle.texts.proofs.Digits.{decimal_computed}

pub zero_alone : decimal 0 ≡ 48 ∷ []
unfolding decimal digits
zero_alone = refl

pub seven : decimal 7 ≡ 55 ∷ []
unfolding decimal digits
seven = refl

pub ten : decimal 10 ≡ 49 ∷ 48 ∷ []
unfolding decimal digits
ten = refl

-- `negsuc n` is −(n + 1)
pub minus_one : number (negsuc 0) ≡ 45 ∷ 49 ∷ []
unfolding number decimal digits
minus_one = refl

pub no_minus_zero : number (pos 0) ≡ 48 ∷ []
unfolding number decimal digits
no_minus_zero = refl

pub greatest_flow : decimal 600000000 ≡ 54 ∷ 48 ∷ 48 ∷ 48 ∷ 48 ∷ 48 ∷ 48 ∷ 48 ∷ 48 ∷ []
unfolding digits
greatest_flow = decimal_computed 8 600000000 (omega arith)

pub least_flow : number (negsuc 599999999) ≡ 45 ∷ 54 ∷ 48 ∷ 48 ∷ 48 ∷ 48 ∷ 48 ∷ 48 ∷ 48 ∷ 48 ∷ []
unfolding number
least_flow = ap (λ s. 45 ∷ s) greatest_flow

pub least_of_32_bits : number (negsuc 2147483647) ≡ 45 ∷ 50 ∷ 49 ∷ 52 ∷ 55 ∷ 52 ∷ 56 ∷ 51 ∷ 54 ∷ 52 ∷ 56 ∷ []
unfolding number digits
least_of_32_bits = ap (λ s. 45 ∷ s) (decimal_computed 9 2147483648 (omega arith))
