use native.Mathlib.Omega.{arith}
use borrow.Author.Rules.{rules}
use Rattle.flows.specs.Check.{Exceeds, within_checks}
use Rattle.arrays.specs.At.{atℤ}
use Rattle.balance.proofs.Lowest.{lowest, none_holds}
use Rattle.balance.proofs.check_within.Goals as goal

-- it exceeds, and no edge below it does
pub returns-then-exceeds : goal.returns-then-exceeds
unfolding within_checks
returns-then-exceeds c =
    let a = c.args in
    let e = c.loop-e.e in
    let here : Exceeds (atℤ a.capacities.now) (atℤ a.flows.now) e = search rules in
    rw c.refused_at.ensures
    (lowest a.edges 17 (Exceeds (atℤ a.capacities.now) (atℤ a.flows.now)) e c.narrow.result (omega arith) c.loop-e.invariant here c.narrow.ensures)

-- all edges are tested
pub returns : goal.returns
unfolding within_checks
returns c = none_holds c.args.edges 17 (Exceeds (atℤ c.args.capacities.now) (atℤ c.args.flows.now)) (λ k l. c.loop-e.invariant k (omega arith))
