-- Solve. Document 01, "Operations": "Solve takes headgate, outfall, delivery. Sheet checks; 13 ..; 14 ..; 15 ..; 16 ..": on the sheet's drawing.
use Rattle.std.specs.Prelude.{ℕ, List, ◌++◌, ℤ, Result}
use Rattle.refusals.specs.Order.{Check}
use Rattle.refusals.specs.declared.Refusal.{Refusal}
use Rattle.records.specs.Sheet.{nodes_of, edges_of, sheet_drawing}
use Rattle.sheets.specs.Open.{sheet_checks}
use Rattle.questions.specs.Solve.{question_checks, Solved}
use Rattle.questions.specs.declared.Solution.{Solution}

unfoldable pub solve_checks : List ℕ → (source sink : ℕ) → ℤ → List ℤ → List ℕ → List Check
solve_checks s source sink value flows set = sheet_checks s ++ question_checks (nodes_of s) (edges_of s) source sink value flows set

abbrev pub Solves : List ℕ → (source sink : ℕ) → ℤ → (flows flows' : List ℤ) (set set' : List ℕ) → Result Solution Refusal → Type 0
Solves s source sink value flows flows' set set' answer =
    Solved (sheet_drawing s) (solve_checks s source sink value flows set) source sink value flows flows' set set' answer
