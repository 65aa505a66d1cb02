-- The DIMACS text of a sheet. Document 02, Job 2: "Write that form: .. The order is that of Largest, with 22 for a limit below zero put after 14; 16 here means
-- only a short output": on the sheet's drawing.
use Rattle.std.specs.Prelude.{ℕ, List, ◌++◌, Result}
use Rattle.refusals.specs.Order.{Check}
use Rattle.refusals.specs.declared.Refusal.{Refusal}
use Rattle.records.specs.Sheet.{sheet_drawing}
use Rattle.sheets.specs.Open.{sheet_checks}
use Rattle.dimacs.specs.Write.{text_checks, TextWritten}

unfoldable pub dimacs_checks : List ℕ → (source sink : ℕ) → List ℕ → List Check
dimacs_checks s source sink out = sheet_checks s ++ text_checks (sheet_drawing s) source sink out

abbrev pub WritesDimacs : List ℕ → (source sink : ℕ) → (out out' : List ℕ) → Result ℕ Refusal → Type 0
WritesDimacs s source sink out out' answer = TextWritten (sheet_drawing s) (dimacs_checks s source sink out) source sink out out' answer
