-- A worked example: edges from node 0 to node 1 and from node 1 to node 2, with heights 0, −1 and 2. The winding of a dart is the drop along it: 1 and −3, and
-- the negatives of these for the reverses.
use mathlib.Core.Path.{refl}
use mathlib.Core.List.{[], ◌∷◌}
use Prim.Native.Nat.{ℕ, zero, suc, ◌<◌}
use native.Mathlib.Omega.{arith}
use lib.IntN.{pos, negsuc}
use Rattle.maps.specs.Dart.{rev}
use Rattle.heights.specs.inner.Heights.{HeightsOf}
use Rattle.arrays.specs.At.{at, atℤ}

-- what holds of 0, 1, 2 and 3 holds of each number below 4
four : (P : ℕ → Type 0) → P 0 → P 1 → P 2 → P 3 → (d : ℕ) → d < 4 → P d
four P p q r s zero l = p
four P p q r s (suc zero) l = q
four P p q r s (suc (suc zero)) l = r
four P p q r s (suc (suc (suc zero))) l = s
four P p q r s (suc (suc (suc (suc d)))) l = absurd (omega arith)

pub three_nodes : HeightsOf 4 (at (0 ∷ 1 ∷ 1 ∷ 2 ∷ [])) (atℤ (pos 1 ∷ negsuc 0 ∷ negsuc 2 ∷ pos 3 ∷ [])) (atℤ (pos 0 ∷ negsuc 0 ∷ pos 2 ∷ []))
unfolding rev
three_nodes = four _ refl refl refl refl
