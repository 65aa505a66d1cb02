-- Tests that decide a condition: a comparison, and a test of another condition that it follows from and that follows from it.
use mathlib.Core.Path.{◌≡◌}
use mathlib.Core.Logic.{◌≢◌}
use mathlib.Core.Bool.{Bool, true, false, not}
use Prim.Native.Nat.{ℕ}
use native.Mathlib.Decide.{ℕ_discrete}
use lib.Dec.{eqb}
use Rattle.integers.proofs.Tests.{eqb_true, eqb_false}
use Rattle.refusals.specs.Order.{Decides}

-- the test `a != b`
pub decides_ne : {P : Type 0} (a b : ℕ) → (a ≢ b → P) → (a ≡ b → P → ⊥) → Decides P (not (eqb a b))
decides_ne {P} a b f g = go (ℕ_discrete a b)
  where
    go : Dec (a ≡ b) → Decides P (not (eqb a b))
    go (yes p) = rw (eqb_true a b p) (g p)
    go (no p) = rw (eqb_false a b p) (f p)

pub decides_by : {P Q : Type 0} (b : Bool) → (P → Q) → ((P → ⊥) → Q → ⊥) → Decides P b → Decides Q b
decides_by true f g h = f h
decides_by false f g h = g h
