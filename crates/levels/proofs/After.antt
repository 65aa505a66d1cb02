-- The answers of the two level operations where checks stand in front that none refuses.
use mathlib.Core.List.{List, ◌++◌}
use lib.IntN.{ℤ}
use Rattle.std.specs.Prelude.{Result, Ok, Err}
use Rattle.refusals.specs.declared.Refusal.{Refusal}
use Rattle.refusals.specs.Order.{Check, NoneOf}
use Rattle.refusals.proofs.Order.{none_append, first_right}
use Rattle.maps.specs.Drawing.{Drawing}
use Rattle.levels.specs.LevelsOf.{LevelsGiven}
use Rattle.levels.specs.SettingsOf.{SettingsGiven}

pub levels_after : (before : List Check) → NoneOf before → (𝓓 : Drawing) (checks : List Check) (flows levels levels' : List ℤ) (r : Result Unit Refusal)
    → LevelsGiven 𝓓 checks flows levels levels' r → LevelsGiven 𝓓 (before ++ checks) flows levels levels' r
levels_after before none 𝓓 checks flows levels levels' (Ok done) h = (none_append before checks none h.0, h.1)
levels_after before none 𝓓 checks flows levels levels' (Err r) h = (first_right before checks r.number r.place none h.0, h.1)

pub settings_after : (before : List Check) → NoneOf before → (𝓓 : Drawing) (checks : List Check) (levels flows flows' : List ℤ) (r : Result Unit Refusal)
    → SettingsGiven 𝓓 checks levels flows flows' r → SettingsGiven 𝓓 (before ++ checks) levels flows flows' r
settings_after before none 𝓓 checks levels flows flows' (Ok done) h = (none_append before checks none h.0, h.1)
settings_after before none 𝓓 checks levels flows flows' (Err r) h = (first_right before checks r.number r.place none h.0, h.1)
