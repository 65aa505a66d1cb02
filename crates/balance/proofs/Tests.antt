-- The test of one signed number below another, as the machine makes it.
use mathlib.Core.Path.{◌≡◌, refl}
use mathlib.Core.Bool.{Bool, true, false}
use lib.IntN.{ℤ}
use lib.Signed.{◌<ℤ◌, lt_z}
use Rattle.integers.proofs.Laws.{lt_of_test, ge_of_test, lt_le_clash}
use Rattle.refusals.specs.Order.{Decides}

pub decides_less : (x y : ℤ) → Decides (x <ℤ y) (lt_z x y)
decides_less x y = go (lt_z x y) refl
  where
    go : (t : Bool) → lt_z x y ≡ t → Decides (x <ℤ y) t
    go true e = lt_of_test x y e
    go false e = λ h. lt_le_clash h (ge_of_test x y e)
