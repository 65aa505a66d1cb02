-- Settings within limited capacities are limited.
use Prim.Native.Nat.{ℕ, ◌<◌}
use lib.IntN.{ℤ, pos}
use lib.Signed.{◌≤ℤ◌}
use Rattle.integers.specs.inner.Limited.{Limited}
use Rattle.integers.proofs.Laws.{le_trans}
use Rattle.integers.proofs.Limits.{limited_both}
use Rattle.maps.specs.Dart.{rev}
use Rattle.maps.specs.Map.{Map, darts}
use Rattle.maps.proofs.Darts.{rev_in}
use Rattle.flows.specs.Settings.{on_darts, Within}
use Rattle.flows.proofs.OnDarts.{on_darts_antisymmetric}

-- settings within capacities of at most C are at most C in magnitude: the reverse dart has the negative, and its own capacity
pub settings_limited : (𝓜 : Map) (C : ℕ) (c x : ℕ → ℤ) → ((d : ℕ) → d < darts 𝓜 → c d ≤ℤ pos C) → Within 𝓜 c x → (d : ℕ) → d < darts 𝓜 → Limited C
    (on_darts x d)
settings_limited 𝓜 C c x low within d l =
    limited_both (le_trans (within d l) (low d l))
    (rw (on_darts_antisymmetric 𝓜 x d l) at (le_trans (within (rev d) (rev_in 𝓜.edges d l)) (low (rev d) (rev_in 𝓜.edges d l))))
