-- Largest. Document 01, "Operations": "Largest refuses as Solve without 15": on the sheet's drawing.
use Rattle.std.specs.Prelude.{ℕ, List, ◌++◌, ℤ, Option, Result}
use Rattle.refusals.specs.Order.{Check}
use Rattle.refusals.specs.declared.Refusal.{Refusal}
use Rattle.records.specs.Sheet.{nodes_of, edges_of, sheet_drawing}
use Rattle.sheets.specs.Open.{sheet_checks}
use Rattle.questions.specs.Largest.{search_checks, LargestFound}

unfoldable pub largest_checks : List ℕ → (source sink : ℕ) → List ℤ → List ℕ → List Check
largest_checks s source sink flows set = sheet_checks s ++ search_checks (nodes_of s) (edges_of s) source sink flows set

abbrev pub FindsLargest : List ℕ → (source sink : ℕ) → (flows flows' : List ℤ) (set set' : List ℕ) → Result (Option ℤ) Refusal → Type 0
FindsLargest s source sink flows flows' set set' answer =
    LargestFound (sheet_drawing s) (largest_checks s source sink flows set) source sink flows flows' set set' answer
