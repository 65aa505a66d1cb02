-- Cuts. Document 01, "A proving set": "The outward total of a set of nodes is the sum of limits of darts with tail in it and head outside it."
-- The outward total is the capacity of the cut here. A capacity below zero counts as it is, and darts between two nodes of the set do not count.
use Rattle.std.specs.Prelude.{ℕ, Bool, not, ◌&&◌, ◌||◌, ℤ, ◌-ℤ◌}
use Rattle.integers.specs.Sum.{sumℤ, when}
use Rattle.maps.specs.Map.{Map, darts, head}

-- the dart d leaves the set S
abbrev pub leaves : Map → (ℕ → Bool) → ℕ → Bool
leaves 𝓜 S d = S (𝓜.tail d) && not (S (head 𝓜 d))

-- the sum of c over the darts that leave S
unfoldable pub cut : Map → (ℕ → ℤ) → (ℕ → Bool) → ℤ
cut 𝓜 c S = sumℤ (darts 𝓜) (λ d. when (leaves 𝓜 S d) (c d))

-- what a flow of this value from s to t sends out of S: the value if S holds s only, its negative if S holds t only, 0 otherwise
abbrev pub sent : (ℕ → Bool) → ℕ → ℕ → ℤ → ℤ
sent S s t value = when (S s) value -ℤ when (S t) value

abbrev pub union : (ℕ → Bool) → (ℕ → Bool) → ℕ → Bool
union A B v = A v || B v

abbrev pub intersection : (ℕ → Bool) → (ℕ → Bool) → ℕ → Bool
intersection A B v = A v && B v
