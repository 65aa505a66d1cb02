-- Mark. Document 01, "Operations": "Mark takes headgate, outfall, settings. Sheet checks, 13, 14; 16 ..; 17 ..; 18 ..": on the sheet's drawing.
use Rattle.std.specs.Prelude.{ℕ, List, ◌++◌, ℤ, Result}
use Rattle.refusals.specs.Order.{Check}
use Rattle.refusals.specs.declared.Refusal.{Refusal}
use Rattle.records.specs.Sheet.{sheet_drawing}
use Rattle.sheets.specs.Open.{sheet_checks}
use Rattle.questions.specs.Mark.{paper_checks, Marked}

unfoldable pub mark_checks : List ℕ → ℕ → ℕ → List ℤ → List Check
mark_checks s source sink flows = sheet_checks s ++ paper_checks (sheet_drawing s) source sink flows

abbrev pub Marks : List ℕ → ℕ → ℕ → List ℤ → Result ℤ Refusal → Type 0
Marks s source sink flows answer = Marked (sheet_drawing s) (mark_checks s source sink flows) source sink flows answer
