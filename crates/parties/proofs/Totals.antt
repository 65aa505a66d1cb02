-- The total of the flows let in: a dart's reverse has the negative.
use Prim.Native.Nat.{ℕ, ◌<◌}
use mathlib.Core.Path.{◌≡◌, refl, ◌∙◌, ap₂}
use mathlib.Core.List.{List, [], ◌∷◌}
use native.Mathlib.Omega.{arith}
use lib.IntN.{ℤ, neg_ℤ, ◌+ℤ◌}
use Rattle.integers.proofs.Omega.{atoms₂, parts, equal}
use Rattle.maps.specs.Dart.{rev}
use Rattle.maps.specs.Map.{Map, darts}
use Rattle.flows.specs.Settings.{on_darts}
use Rattle.flows.proofs.OnDarts.{on_darts_antisymmetric}
use Rattle.arrays.specs.At.{atℤ}
use Rattle.parties.specs.Reached.{total}

pub total_antisymmetric : (𝓜 : Map) (fs : List (List ℤ)) (d : ℕ) → d < darts 𝓜 → total fs (rev d) ≡ neg_ℤ (total fs d)
unfolding total
total_antisymmetric 𝓜 [] d l = refl
total_antisymmetric 𝓜 (xs ∷ fs) d l =
    ap₂ ◌+ℤ◌ (on_darts_antisymmetric 𝓜 (atℤ xs) d l) (total_antisymmetric 𝓜 fs d l)
    ∙ (let a = atoms₂ (on_darts (atℤ xs) d) (total fs d) in equal (search parts) (omega arith))
