use mathlib.Core.Path.{◌∙◌}
use native.Mathlib.Omega.{arith}
use Rattle.signed.proofs.Laws.{number_of_bits}
use Rattle.arrays.proofs.FillLoops.{copy_start, copy_step}
use Rattle.levels.proofs.fill_differences.Goals as goal

pub loop-e-init : goal.loop-e-init
loop-e-init c = copy_start _ _

pub loop-e-preserved : goal.loop-e-preserved
loop-e-preserved c =
    copy_step _ c.loop-e.e _ _ _ c.loop-e.invariant (omega arith)
    (number_of_bits _ (record { sfits = c.drop_across.type_inv }) ∙ c.drop_across.ensures)
