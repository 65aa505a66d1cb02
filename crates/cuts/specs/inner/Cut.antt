-- The cut of a set of nodes, over arrays: the sum of the lengths of the darts with tail in the set and head outside it.
-- It is `cut` of any map with these tails.
use Rattle.std.specs.Prelude.{ℕ, Bool, not, ◌&&◌, ℤ}
use Rattle.integers.specs.Sum.{sumℤ, when}
use Rattle.maps.specs.Dart.{rev}

-- the dart d leaves the set S
abbrev pub leaves_of : (ℕ → ℕ) → (ℕ → Bool) → ℕ → Bool
leaves_of tail S d = S (tail d) && not (S (tail (rev d)))

unfoldable pub cut_of : ℕ → (ℕ → ℕ) → (ℕ → ℤ) → (ℕ → Bool) → ℤ
cut_of darts tail length S = sumℤ darts (λ d. when (leaves_of tail S d) (length d))
