-- The net flow out of each node, as it is added up dart by dart.
use Rattle.std.specs.Prelude.{ℕ, eqb, ℤ}
use Rattle.integers.specs.Sum.{sumℤ, when}
use Rattle.flows.specs.Settings.{on_darts}

-- the sum over those of the first n darts that have their tail at v; `net` of a map is this for all its darts
unfoldable pub net_up_to : (ℕ → ℕ) → (ℕ → ℤ) → ℕ → ℕ → ℤ
net_up_to tail x n v = sumℤ n (λ d. when (eqb v (tail d)) (on_darts x d))
