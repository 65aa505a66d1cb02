-- Sets as flags, one byte for each member that there could be.
use Rattle.std.specs.Prelude.{Bool, List, ℕ, eqb, get_or}

-- the members are those whose flag is 1
abbrev pub flagged : List ℕ → ℕ → Bool
flagged inside v = eqb (get_or inside v 0) 1
