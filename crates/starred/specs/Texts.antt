-- The three texts that the starred lines say the key prints, byte for byte: one line of text a line here, its end (10) included.
use Rattle.std.specs.Prelude.{ℕ, List, [], ◌∷◌, ◌++◌}

-- "key prints `can 6`, `0 0`, `1 2`, `2 4`, one per line"
abbrev pub can_six : List ℕ
can_six = (99 ∷ 97 ∷ 110 ∷ 32 ∷ 54 ∷ 10 ∷ [])
    ++ ((48 ∷ 32 ∷ 48 ∷ 10 ∷ [])
    ++ ((49 ∷ 32 ∷ 50 ∷ 10 ∷ [])
    ++ (50 ∷ 32 ∷ 52 ∷ 10 ∷ [])))

-- "key prints `cannot 13 1`, `0`"
abbrev pub cannot_thirteen : List ℕ
cannot_thirteen = (99 ∷ 97 ∷ 110 ∷ 110 ∷ 111 ∷ 116 ∷ 32 ∷ 49 ∷ 51 ∷ 32 ∷ 49 ∷ 10 ∷ [])
    ++ (48 ∷ 10 ∷ [])

-- "key prints `refused 12`"
abbrev pub refused_twelve : List ℕ
refused_twelve = 114 ∷ 101 ∷ 102 ∷ 117 ∷ 115 ∷ 101 ∷ 100 ∷ 32 ∷ 49 ∷ 50 ∷ 10 ∷ []
