-- Settings from levels. Document 01, "Operations": "sheet checks, 16, 19 ..., 20 .., 17.": on the sheet's drawing.
use Rattle.std.specs.Prelude.{ℕ, List, ◌++◌, ℤ, Result}
use Rattle.refusals.specs.Order.{Check}
use Rattle.refusals.specs.declared.Refusal.{Refusal}
use Rattle.records.specs.Sheet.{sheet_drawing}
use Rattle.sheets.specs.Open.{sheet_checks}
use Rattle.levels.specs.SettingsOf.{leveled_checks, SettingsGiven}

unfoldable pub settings_checks : List ℕ → List ℤ → List ℤ → List Check
settings_checks s levels flows = sheet_checks s ++ leveled_checks (sheet_drawing s) levels flows

abbrev pub GivesSettings : List ℕ → List ℤ → (flows flows' : List ℤ) → Result Unit Refusal → Type 0
GivesSettings s levels flows flows' answer = SettingsGiven (sheet_drawing s) (settings_checks s levels flows) levels flows flows' answer
