-- The least and the largest delivery. Document 02, Job 4: "Report the least deliverable value beside the largest": on the sheet's drawing. After the sheet
-- checks 13, 14, and 16 for all four slices.
use Rattle.std.specs.Prelude.{ℕ, List, ◌++◌, ℤ, Option, Result}
use Rattle.refusals.specs.Order.{Check}
use Rattle.refusals.specs.declared.Refusal.{Refusal}
use Rattle.records.specs.Sheet.{nodes_of, edges_of, sheet_drawing}
use Rattle.sheets.specs.Open.{sheet_checks}
use Rattle.ranges.specs.Range.{span_checks, RangeFound}
use Rattle.ranges.specs.declared.Range.{Range}

unfoldable pub range_checks : List ℕ → (source sink : ℕ) → (low : List ℤ) (below : List ℕ) (high : List ℤ) (above : List ℕ) → List Check
range_checks s source sink low below high above = sheet_checks s ++ span_checks (nodes_of s) (edges_of s) source sink low below high above

abbrev pub FindsRange : List ℕ → (source sink : ℕ)
    → (low low' : List ℤ) (below below' : List ℕ) (high high' : List ℤ) (above above' : List ℕ)
    → Result (Option Range) Refusal → Type 0
FindsRange s source sink low low' below below' high high' above above' answer =
    RangeFound (sheet_drawing s) (range_checks s source sink low below high above) source sink low low' below below' high high' above above' answer
