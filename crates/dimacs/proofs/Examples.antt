-- Drawing A of document 01 as a text, by computation, and its greatest flow; and a text that no drawing wrote, with a comment, spaces in a row, lines in
-- another order and no last line feed, read by the same definition.
use mathlib.Core.Path.{◌≡◌, refl}
use mathlib.Core.List.{List, [], ◌∷◌}
use Prim.Native.Nat.{ℕ}
use native.Mathlib.Omega.{arith}
use lib.IntN.{pos}
use Rattle.integers.proofs.Tests.{every, every_at_most}
use Rattle.maps.specs.Dart.{rev}
use Rattle.maps.proofs.Examples.{A, a_capacity, a_sound}
use Rattle.flows.specs.ProvingSet.{member}
use Rattle.flows.proofs.Examples.{settings, a_twelve, a_thirteen}
use Rattle.texts.specs.Decimal.{digits, decimal}
use Rattle.texts.specs.Lines.{lines}
use Rattle.texts.specs.Numeral.{numeral_on, numeral}
use Rattle.dimacs.specs.Problem.{Greatest}
use Rattle.dimacs.specs.Reading.{on_first, pieces, not_empty, same, told, of_lines, problem_of}
use Rattle.dimacs.specs.Text.{natural, problem_line, node_line, arc_line, dimacs_text}
use Rattle.dimacs.proofs.Settling.{NotBelowZero}
use Rattle.dimacs.proofs.Greatest.{greatest_of_set}

-- "p max 2 6", "n 1 s", "n 2 t", "a 1 2 5", "a 2 1 0", "a 1 2 3", "a 2 1 0", "a 1 2 4", "a 2 1 0"
abbrev pub a_bytes : List ℕ
a_bytes =
    112 ∷ 32 ∷ 109 ∷ 97 ∷ 120 ∷ 32 ∷ 50 ∷ 32 ∷ 54 ∷ 10 ∷
    110 ∷ 32 ∷ 49 ∷ 32 ∷ 115 ∷ 10 ∷
    110 ∷ 32 ∷ 50 ∷ 32 ∷ 116 ∷ 10 ∷
    97 ∷ 32 ∷ 49 ∷ 32 ∷ 50 ∷ 32 ∷ 53 ∷ 10 ∷
    97 ∷ 32 ∷ 50 ∷ 32 ∷ 49 ∷ 32 ∷ 48 ∷ 10 ∷
    97 ∷ 32 ∷ 49 ∷ 32 ∷ 50 ∷ 32 ∷ 51 ∷ 10 ∷
    97 ∷ 32 ∷ 50 ∷ 32 ∷ 49 ∷ 32 ∷ 48 ∷ 10 ∷
    97 ∷ 32 ∷ 49 ∷ 32 ∷ 50 ∷ 32 ∷ 52 ∷ 10 ∷
    97 ∷ 32 ∷ 50 ∷ 32 ∷ 49 ∷ 32 ∷ 48 ∷ 10 ∷ []

pub a_text : dimacs_text A a_capacity 0 1 ≡ a_bytes
unfolding dimacs_text problem_line node_line arc_line natural lines decimal digits a_capacity rev
a_text = refl

a_good : NotBelowZero A a_capacity
unfolding a_capacity every
a_good = every_at_most 6 (λ d. pos 0) a_capacity refl

-- "12: 5, 3, 4", and 13 cannot be delivered
pub a_greatest : Greatest (problem_of a_bytes) (pos 12)
a_greatest =
    rw (← a_text)
    (greatest_of_set A a_capacity 0 1 a_good a_sound.range (omega arith) (omega arith) (λ e. absurd (omega (arith, e)))
    (pos 12) (settings (pos 5 ∷ pos 3 ∷ pos 4 ∷ [])) a_twelve (member (1 ∷ [])) a_thirteen.0)

-- "c by hand", "p max  3 2", "a 1 2 7", "n 1 s", "n 3 t", "a 2 3 40"
abbrev pub hand_bytes : List ℕ
hand_bytes =
    99 ∷ 32 ∷ 98 ∷ 121 ∷ 32 ∷ 104 ∷ 97 ∷ 110 ∷ 100 ∷ 10 ∷
    112 ∷ 32 ∷ 109 ∷ 97 ∷ 120 ∷ 32 ∷ 32 ∷ 51 ∷ 32 ∷ 50 ∷ 10 ∷
    97 ∷ 32 ∷ 49 ∷ 32 ∷ 50 ∷ 32 ∷ 55 ∷ 10 ∷
    110 ∷ 32 ∷ 49 ∷ 32 ∷ 115 ∷ 10 ∷
    110 ∷ 32 ∷ 51 ∷ 32 ∷ 116 ∷ 10 ∷
    97 ∷ 32 ∷ 50 ∷ 32 ∷ 51 ∷ 32 ∷ 52 ∷ 48 ∷ []

pub hand_read : problem_of hand_bytes ≡ record {
  nodes = 3;
  size = 2;
  source = 1;
  sink = 3;
  arcs = record { start = 1; end = 2; capacity = 7 } ∷ record { start = 2; end = 3; capacity = 40 } ∷ [];
}
unfolding problem_of of_lines told same pieces on_first not_empty numeral numeral_on
hand_read = refl
