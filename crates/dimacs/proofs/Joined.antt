-- Fields that were placed one after another are the lines of the text.
use mathlib.Core.Path.{◌≡◌, ◌∙◌, ap}
use mathlib.Core.List.{List, [], ◌∷◌, ◌++◌, append_assoc}
use Prim.Native.Nat.{ℕ, ◌+◌}
use lib.ListN.{length, length-append}
use lib.IntN.{ℤ}
use Rattle.texts.specs.Decimal.{decimal}
use Rattle.dimacs.specs.Text.{natural, problem_line, arc_line}

-- a number and one byte behind it
abbrev pub ended : ℕ → ℕ → List ℕ
ended n b = decimal n ++ (b ∷ [])

pub ended_length : (n b : ℕ) → length (ended n b) ≡ length (decimal n) + 1
ended_length n b = length-append (decimal n) (b ∷ [])

pub problem_joined : (n m : ℕ) → (112 ∷ 32 ∷ 109 ∷ 97 ∷ 120 ∷ 32 ∷ []) ++ (ended n 32 ++ ended m 10) ≡ problem_line n m
unfolding problem_line
problem_joined n m = ap (λ r. 112 ∷ 32 ∷ 109 ∷ 97 ∷ 120 ∷ 32 ∷ r) (append_assoc (decimal n) (32 ∷ []) (ended m 10))

pub arc_joined : (v w : ℕ) (c : ℤ) → (97 ∷ 32 ∷ []) ++ (ended (v + 1) 32 ++ (ended (w + 1) 32 ++ ended (natural c) 10)) ≡ arc_line v w c
unfolding arc_line
arc_joined v w c =
    ap (λ r. 97 ∷ 32 ∷ r)
    (append_assoc (decimal (v + 1)) (32 ∷ []) (ended (w + 1) 32 ++ ended (natural c) 10)
    ∙ ap (λ r. decimal (v + 1) ++ (32 ∷ r)) (append_assoc (decimal (w + 1)) (32 ∷ []) (ended (natural c) 10)))
