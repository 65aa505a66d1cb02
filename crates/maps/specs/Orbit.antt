-- Orbits ("rounds") of a step on 0, .., n - 1, and their numbers from 0 in order of their lowest members.
use Rattle.std.specs.Prelude.{ℕ, zero, suc, min, ◌<◌, ◌≡◌, Bool, eqb}
use Rattle.integers.specs.Sum.{count}

-- j steps from d
unfoldable pub iter : (ℕ → ℕ) → ℕ → ℕ → ℕ
iter next zero d = d
iter next (suc j) d = next (iter next j d)

-- d is met on the way round from c
abbrev pub Orbit : (ℕ → ℕ) → ℕ → ℕ → Type 0
Orbit next c d = (j : ℕ) × (iter next j c ≡ d)

-- the lowest of d and the places that the first j steps from d lead to; n steps go all the way round
unfoldable pub lowest : (ℕ → ℕ) → ℕ → ℕ → ℕ
lowest next zero d = d
lowest next (suc j) d = min (lowest next j d) (iter next (suc j) d)

-- d is the lowest member of its orbit
unfoldable pub is_lowest : ℕ → (ℕ → ℕ) → ℕ → Bool
is_lowest n next d = eqb (lowest next n d) d

-- as many orbits as lowest members
unfoldable pub orbits : ℕ → (ℕ → ℕ) → ℕ
orbits n next = count n (is_lowest n next)

-- the number of an orbit: how many orbits have a lower lowest member
unfoldable pub orbit_of : ℕ → (ℕ → ℕ) → ℕ → ℕ
orbit_of n next d = count (lowest next n d) (is_lowest n next)

-- the step stays below n, and no two places have one next
pub record Permutes (n : ℕ) (next : ℕ → ℕ) : Type 0 where
  pub stays : (d : ℕ) → d < n → next d < n
  pub apart : (c d : ℕ) → c < n → d < n → next c ≡ next d → c ≡ d
