-- Invariant: the limits below d are lowered, and the others are as they were.
use mathlib.Core.Path.{◌≡◌}
use lib.IntN.{◌-ℤ◌}
use Rattle.flows.specs.Settings.{on_darts}
use Rattle.arrays.specs.At.{atℤ}
use Rattle.arrays.specs.Filled.{filled}
use Rattle.sessions.proofs.lower.Given as goal

abbrev pub invariant-loop-d : goal.invariant-loop-d
invariant-loop-d l = l.left ≡ filled l.d (λ k. atℤ l.fn.left k -ℤ on_darts (atℤ l.offer) k) l.fn.left
