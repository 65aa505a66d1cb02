-- Arrays and slices as functions of the index.
use Rattle.std.specs.Prelude.{List, ℕ, get_or, ℤ, pos}

-- 0 past the end
abbrev pub at : List ℕ → ℕ → ℕ
at l d = get_or l d 0

abbrev pub atℤ : List ℤ → ℕ → ℤ
atℤ l d = get_or l d (pos 0)
