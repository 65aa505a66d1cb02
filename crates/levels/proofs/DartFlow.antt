-- The flow of a dart: its edge's flow, or the negative of it.
use mathlib.Core.Path.{◌≡◌}
use mathlib.Core.Logic.{◌≢◌}
use Prim.Native.Nat.{ℕ, ◌/◌, ◌%◌}
use native.Mathlib.Omega.{arith}
use lib.IntN.{ℤ, pos, neg_ℤ, ◌-ℤ◌}
use Rattle.integers.proofs.Omega.{atoms₁, parts, equal}
use Rattle.integers.proofs.Tests.{eqb_true, eqb_false}
use Rattle.flows.specs.Settings.{on_darts}

pub zero_minus : (x : ℤ) → pos 0 -ℤ x ≡ neg_ℤ x
zero_minus x = let t = atoms₁ x in equal (search parts) (omega arith)

pub flow_forth : (x : ℕ → ℤ) (d : ℕ) → d % 2 ≡ 0 → on_darts x d ≡ x (d / 2)
unfolding on_darts
flow_forth x d e = rw (eqb_true (d % 2) 0 e)

pub flow_back : (x : ℕ → ℤ) (d : ℕ) → d % 2 ≢ 0 → on_darts x d ≡ neg_ℤ (x (d / 2))
unfolding on_darts
flow_back x d h = rw (eqb_false (d % 2) 0 h)
