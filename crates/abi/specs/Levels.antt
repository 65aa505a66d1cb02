-- What a C program is told by the two level operations. Document 01, "Operations": Levels from settings and Settings from levels give their slice and no
-- number. The result is the number of the refusal, or 0; the place is behind a pointer.
use Rattle.std.specs.Prelude.{ℕ, ◌≡◌, List, ℤ, Result, Ok, Err}
use Rattle.refusals.specs.declared.Refusal.{Refusal}
use Rattle.analyser.specs.LevelsOf.{GivesLevels}
use Rattle.analyser.specs.SettingsOf.{GivesSettings}

-- place is that of the refusal, and as it was where there is an answer
abbrev pub LevelTold : Result Unit Refusal → (result place place' : ℕ) → Type 0
LevelTold (Ok done) result place place' = (result ≡ 0) × (place' ≡ place)
LevelTold (Err r) result place place' = (result ≡ r.number) × (place' ≡ r.place)

-- an answer of Levels from settings, and what is told of it
abbrev pub TellsLevels : List ℕ → (flows levels levels' : List ℤ) (place place' result : ℕ) → Type 0
TellsLevels s flows levels levels' place place' result =
    (answer : Result Unit Refusal) × GivesLevels s flows levels levels' answer × LevelTold answer result place place'

-- an answer of Settings from levels, and what is told of it
abbrev pub TellsSettings : List ℕ → (levels flows flows' : List ℤ) (place place' result : ℕ) → Type 0
TellsSettings s levels flows flows' place place' result =
    (answer : Result Unit Refusal) × GivesSettings s levels flows flows' answer × LevelTold answer result place place'
