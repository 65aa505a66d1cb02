-- Totals by node. Document 02, Job 9: "After the sheet checks, 16 means either slice is too short": on the sheet's drawing.
use Rattle.std.specs.Prelude.{ℕ, List, ◌++◌, ℤ, Result}
use Rattle.refusals.specs.Order.{Check}
use Rattle.refusals.specs.declared.Refusal.{Refusal}
use Rattle.records.specs.Sheet.{nodes_of, capacity_of, sheet_map}
use Rattle.sheets.specs.Open.{sheet_checks}
use Rattle.totals.specs.Totals.{total_checks, TotalGiven}

unfoldable pub totals_checks : List ℕ → List ℕ → List ℤ → List Check
totals_checks s set out = sheet_checks s ++ total_checks (nodes_of s) set out

abbrev pub GivesTotals : List ℕ → (set : List ℕ) → (out out' : List ℤ) → Result ℤ Refusal → Type 0
GivesTotals s set out out' answer = TotalGiven (sheet_map s) (capacity_of s) (totals_checks s set out) set out out' answer
