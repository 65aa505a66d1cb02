use mathlib.Core.Path.{refl}
use native.Mathlib.Omega.{arith}
use Rattle.rotations.proofs.Holding.{zeros}
use Rattle.rotations.proofs.Register.{register_none}
use Rattle.rotations.proofs.rotation_fault.Goals as goal

pub loop-d-init : goal.loop-d-init
loop-d-init c = record { long = refl; entered = register_none _ _ _ zeros; same_tail = λ k l. absurd (omega arith) }
