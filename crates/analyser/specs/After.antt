-- Limits from a capture. Document 02, Job 10: "Give these forward limits after a named record, one per channel in a slice of their own .., and Largest on
-- them":
-- on the sheet's drawing. After the sheet checks 26, every record of the capture, 6 and 7 on the limits found, then 13, 14 and 16.
use Rattle.std.specs.Prelude.{ℕ, List, ◌++◌, ℤ, Option, Result}
use Rattle.refusals.specs.Order.{Check}
use Rattle.refusals.specs.declared.Refusal.{Refusal}
use Rattle.records.specs.Sheet.{sheet_drawing}
use Rattle.sheets.specs.Open.{sheet_checks}
use Rattle.capture.specs.Capture.{capture_checks, FoundAfter}

unfoldable pub after_checks : List ℕ → List ℕ → (w n source sink : ℕ) → (limits flows : List ℤ) → (set : List ℕ) → List Check
after_checks s b w n source sink limits flows set = sheet_checks s ++ capture_checks (sheet_drawing s) b w n source sink limits flows set

-- s the sheet, b the capture's bytes, w the window, n the named record
abbrev pub FindsAfter : List ℕ → List ℕ → (w n source sink : ℕ) → (limits limits' flows flows' : List ℤ) (set set' : List ℕ)
    → Result (Option ℤ) Refusal → Type 0
FindsAfter s b w n source sink limits limits' flows flows' set set' answer =
    FoundAfter (sheet_drawing s) (after_checks s b w n source sink limits flows set) b w n source sink limits limits' flows flows' set set' answer
