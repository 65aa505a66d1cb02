-- Numbers in base ten, as bytes of ASCII. Document 01, "What the unit holds": "Numbers are in base ten." What is printed has no plus and no leading zero; a
-- number below zero has the minus sign of ASCII before it.
use Rattle.std.specs.Prelude.{ℕ, zero, suc, ◌+◌, ◌/◌, ◌%◌, cond, List, [], ◌∷◌, ◌++◌, ltb, ℤ, pos, negsuc}

-- the byte of a digit; 48 is the digit 0
abbrev pub digit : ℕ → ℕ
digit n = 48 + n

-- one digit below ten; else the digits of n div 10, then the digit of n mod 10. The first number only bounds the depth.
unfoldable pub digits : ℕ → ℕ → List ℕ
digits zero n = []
digits (suc depth) n = cond (ltb n 10) (digit n ∷ []) (digits depth (n / 10) ++ (digit (n % 10) ∷ []))

-- n has fewer than n + 1 digits, or one, so the depth is never reached
unfoldable pub decimal : ℕ → List ℕ
decimal n = digits (suc n) n

-- 45 is the minus sign; negsuc n is −(n + 1)
unfoldable pub number : ℤ → List ℕ
number (pos n) = decimal n
number (negsuc n) = 45 ∷ decimal (suc n)
