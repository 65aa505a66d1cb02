-- Levels from settings. Document 01, "Operations": "sheet checks, 16, 17, then 18 for any node": on the sheet's drawing.
use Rattle.std.specs.Prelude.{ℕ, List, ◌++◌, ℤ, Result}
use Rattle.refusals.specs.Order.{Check}
use Rattle.refusals.specs.declared.Refusal.{Refusal}
use Rattle.records.specs.Sheet.{sheet_drawing}
use Rattle.sheets.specs.Open.{sheet_checks}
use Rattle.levels.specs.LevelsOf.{balanced_checks, LevelsGiven}

unfoldable pub levels_checks : List ℕ → List ℤ → List ℤ → List Check
levels_checks s flows levels = sheet_checks s ++ balanced_checks (sheet_drawing s) flows levels

abbrev pub GivesLevels : List ℕ → List ℤ → (levels levels' : List ℤ) → Result Unit Refusal → Type 0
GivesLevels s flows levels levels' answer = LevelsGiven (sheet_drawing s) (levels_checks s flows levels) flows levels levels' answer
