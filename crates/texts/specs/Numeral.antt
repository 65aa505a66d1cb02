-- The number that bytes of ASCII are in base ten. Of bytes that are no digits it is some number.
use Rattle.std.specs.Prelude.{ℕ, ◌+◌, ◌-◌, ◌*◌, List, [], ◌∷◌}

-- each byte is a digit more on the right of what was read before it; 48 is the digit 0
unfoldable pub numeral_on : ℕ → List ℕ → ℕ
numeral_on n [] = n
numeral_on n (b ∷ bs) = numeral_on (n * 10 + (b - 48)) bs

unfoldable pub numeral : List ℕ → ℕ
numeral bs = numeral_on 0 bs
