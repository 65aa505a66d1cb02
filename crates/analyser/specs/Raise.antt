-- What the weir must be raised to. Document 02, Job 7: "A planner names a channel and a delivery. Give the smallest forward limit, from its present one to
-- 1,000,000, with which the delivery has settings .. The sheet is not altered": on the sheet's drawing. After the sheet checks 13, 14, 15, 25 and 16.
use Rattle.std.specs.Prelude.{ℕ, List, ◌++◌, ℤ, Option, Result}
use Rattle.refusals.specs.Order.{Check}
use Rattle.refusals.specs.declared.Refusal.{Refusal}
use Rattle.records.specs.Sheet.{nodes_of, edges_of, sheet_drawing}
use Rattle.sheets.specs.Open.{sheet_checks}
use Rattle.raising.specs.Raise.{limit_checks, RaiseFound}

unfoldable pub raise_checks : List ℕ → (source sink : ℕ) → ℤ → (edge : ℕ) → List ℤ → List ℕ → List Check
raise_checks s source sink value edge flows set = sheet_checks s ++ limit_checks (nodes_of s) (edges_of s) source sink value edge flows set

abbrev pub RaisesLimit : List ℕ → (source sink : ℕ) → ℤ → (edge : ℕ) → (flows flows' : List ℤ) (set set' : List ℕ) → Result (Option ℤ) Refusal → Type 0
RaisesLimit s source sink value edge flows flows' set set' answer =
    RaiseFound (sheet_drawing s) (raise_checks s source sink value edge flows set) source sink value edge flows flows' set set' answer
