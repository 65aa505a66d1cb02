use mathlib.Core.Path.{sym, ◌∙◌}
use native.Mathlib.Omega.{arith}
use Rattle.cuts.proofs.Adding.{cut_none, sum_stays, sum_fits, sum_held}
use Rattle.cuts.proofs.total.Goals as goal
use Rattle.cuts.proofs.total.Goals.{then-share-ne0, else-share-ne0}

pub loop-e-init : goal.loop-e-init
loop-e-init c = sym (cut_none _ _ _)

pub overflow_add-sum : goal.overflow_add-sum
overflow_add-sum c =
    let share = c.edge_share-share in
    sum_fits c.loop-e.e _ _ _ _ share.result c.loop-e.invariant (record { sfits = share.type_inv }) share.ensures
    c.from-sum.result
    (record { sfits = c.from-sum.type_inv })
    c.from-sum.ensures
    (omega (arith, c.requires.0))
    (λ i m. c.requires.3 i (omega arith))

pub loop-e-preserved : goal.loop-e-preserved
loop-e-preserved c =
    let share = c.edge_share-share in
    elim c.if-share-ne0.branch [
      | then-share-ne0 w ↦
          w.sum-is
          ∙ sum_held c.loop-e.e _ _ _ _ share.result c.loop-e.invariant (record { sfits = share.type_inv }) share.ensures
          w.from-sum.result
          (record { sfits = w.from-sum.type_inv })
          w.from-sum.ensures
          (omega (arith, c.requires.0))
          (λ i m. c.requires.3 i (omega arith))
      | else-share-ne0 w ↦
          w.sum-is ∙ sum_stays c.loop-e.e _ _ _ _ share.result c.loop-e.invariant (record { sfits = share.type_inv }) share.ensures w.if-share-ne0.false
    ]
