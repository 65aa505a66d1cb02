use mathlib.Core.Path.{sym, ◌∙◌}
use native.Mathlib.Omega.{arith}
use borrow.Author.Tests.{leb-true}
use Rattle.refusals.proofs.Order.{said_yes}
use Rattle.arrays.specs.At.{atℤ}
use Rattle.sessions.proofs.Lowering.{judged_lowerable}
use Rattle.sessions.proofs.lowerable.Goals as goal
use Rattle.sessions.proofs.lowerable.Goals.{then-edges-le512, else-edges-le512}

-- the edges are few and their limits fit: the offer is judged
pub returns-then-limits_fit : goal.returns-then-limits_fit
returns-then-limits_fit c =
    let a = c.args in
    elim c.if-edges-le512.branch [
      | then-edges-le512 w ↦
          let fit = said_yes w.limits_fit.ensures (sym w.value-is ∙ c.if-limits_fit.true) in
          rw c.is_ok.ensures.value (judged_lowerable a.edges (atℤ a.left.now) (atℤ a.offer.now) _ (omega arith) fit c.check_within.ensures)
      | else-edges-le512 w ↦ absurd (omega (arith, leb-true _ _ (sym w.value-is ∙ c.if-limits_fit.true)))
    ]
