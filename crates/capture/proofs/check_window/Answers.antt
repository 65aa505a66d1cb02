-- Check 26: three tests, one for each way in which it can hold.
use mathlib.Core.Path.{refl}
use mathlib.Core.Logic.{◌⊎◌, inl, inr}
use Prim.Native.Nat.{◌/◌, ◌≤◌}
use native.Mathlib.Omega.{arith}
use lib.ListN.{length}
use Rattle.refusals.specs.Order.{FirstOf, NoneOf}
use Rattle.refusals.proofs.Order.{neither}
use Rattle.records.specs.Check.{Outside}
use Rattle.capture.specs.Capture.{window_checks}
use Rattle.capture.proofs.check_window.Goals as goal
use Rattle.capture.proofs.check_window.Goals.{
  then-window-lt1-via-then-window-lt1,
  then-window-lt1-via-else-window-lt1+then-window-gt256,
  then-window-lt1-via-else-window-lt1+else-window-gt256+then-capture-named,
}

pub returns-then-window-lt1 : goal.returns-then-window-lt1
unfolding FirstOf window_checks
returns-then-window-lt1 c =
    let some : Outside 1 256 c.args.window ⊎ (length c.args.capture.now / 11 ≤ c.args.named) = elim c.then-window-lt1.branch [
      | then-window-lt1-via-then-window-lt1 w ↦ inl (inl (omega arith))
      | then-window-lt1-via-else-window-lt1+then-window-gt256 w ↦ inl (inr (omega arith))
      | then-window-lt1-via-else-window-lt1+else-window-gt256+then-capture-named w ↦ inr (omega arith)
    ] in
    rw c.refused.ensures (inl (some, refl, refl))

pub returns : goal.returns
unfolding NoneOf window_checks
returns c = (neither (neither (λ h. omega arith) (λ h. omega arith)) (λ h. omega arith), tt)
