-- The limits are lowered where the offer keeps within them.
use mathlib.Core.Path.{subst}
use borrow.Author.Rules.{rules}
use Rattle.arrays.specs.At.{atℤ}
use Rattle.sessions.specs.Fit.{Lowerable}
use Rattle.sessions.proofs.Lowering.{lowerable_fits}
use Rattle.parties.proofs.Taking.{lowered_by_flows}
use Rattle.parties.proofs.take.Goals as goal

pub lower-requires : goal.lower-requires
lower-requires c =
    let h = c.if-lowerable.ensures in
    (search rules, h.few_edges, lowerable_fits _ (atℤ c.args.left.now) (atℤ c.args.offer.now) h)

pub returns-then-lowerable : goal.returns-then-lowerable
returns-then-lowerable c =
    let a = c.args in
    let e = c.wide-m.ensures in
    rw c.if-lowerable.true (record {
      tested = subst (λ k. Lowerable k (atℤ a.left.now) (atℤ a.offer.now)) e c.if-lowerable.ensures;
      after = lowered_by_flows _ a.edges a.left.now a.offer.now _ e c.lower.ensures.1;
    })
