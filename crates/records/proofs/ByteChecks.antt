-- The order of the checks on bytes, by computation: the numbers of the refusals, as the list has them.
use Prim.Native.Nat.{ℕ}
use mathlib.Core.Path.{◌≡◌, refl}
use mathlib.Core.List.{List, [], ◌∷◌}
use lib.IntN.{pos}
use Rattle.refusals.specs.Order.{Check, ◌at◌when◌, in_turn}
use Rattle.fields.specs.Fields.{u16_at}
use Rattle.records.specs.Record.{record_checks}
use Rattle.records.specs.Check.{number_checks, field_checks, edge_checks}
use Rattle.records.specs.Sheet.{head_record_checks, head_checks, edge_record_checks, byte_checks}

unfoldable pub numbers : List Check → List ℕ
numbers [] = []
numbers ((k at p when P) ∷ cs) = k ∷ numbers cs

-- "24, right after 3, means that the outer dart is no dart"
pub three_then_outer : numbers (number_checks 2 1 0) ≡ 3 ∷ 24 ∷ []
unfolding numbers number_checks
three_then_outer = refl

-- "4 an end is no node; 5 a turn is no dart; 6 a limit out of range; 7 the two limits add to less than zero"
pub four_to_seven : numbers (field_checks 2 1 0 1 0 1 (pos 5) (pos 0)) ≡ 4 ∷ 5 ∷ 6 ∷ 7 ∷ []
unfolding numbers field_checks
four_to_seven = refl

-- after a head that says two nodes and two edges: the head's checks, then all of edge 0, then all of edge 1, then 8
pub edge_by_edge : numbers (byte_checks (1 ∷ 2 ∷ 0 ∷ 2 ∷ 0 ∷ []))
    ≡ 1 ∷ 2 ∷ 1 ∷ 3 ∷ 24 ∷ 1 ∷ 2 ∷ 1 ∷ 4 ∷ 5 ∷ 6 ∷ 7 ∷ 1 ∷ 2 ∷ 1 ∷ 4 ∷ 5 ∷ 6 ∷ 7 ∷ 8 ∷ []
unfolding numbers in_turn byte_checks head_record_checks head_checks edge_record_checks record_checks number_checks edge_checks field_checks u16_at
edge_by_edge = refl
