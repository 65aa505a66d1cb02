use native.Mathlib.Omega.{arith}
use borrow.Author.Count.{below_more}
use borrow.Author.Rules.{rules}
use Rattle.flows.specs.Check.{Exceeds, within_checks}
use Rattle.arrays.specs.At.{at, atℤ}
use Rattle.balance.proofs.Lowest.{lowest, none_holds}
use Rattle.levels.specs.inner.Across.{across}
use Rattle.levels.proofs.check_differences.Goals as goal

-- it exceeds, and no edge below it does
pub returns-then-exceeds : goal.returns-then-exceeds
unfolding within_checks
returns-then-exceeds c =
    let a = c.args in
    let e = c.loop-e.e in
    let flow = across (at a.lefts.now) (atℤ a.levels.now) in
    let here : Exceeds (atℤ a.capacities.now) flow e = search rules in
    rw c.refused_at.ensures
    (lowest a.edges 17 (Exceeds (atℤ a.capacities.now) flow) e c.narrow.result (omega arith) c.loop-e.invariant here c.narrow.ensures)

pub loop-e-preserved : goal.loop-e-preserved
loop-e-preserved c =
    let a = c.args in
    let e = c.loop-e.e in
    let flow = across (at a.lefts.now) (atℤ a.levels.now) in
    let here : Exceeds (atℤ a.capacities.now) flow e → ⊥ = search rules in
    below_more (λ k. Exceeds (atℤ a.capacities.now) flow k → ⊥) e c.loop-e.invariant here

-- all edges are tested
pub returns : goal.returns
unfolding within_checks
returns c =
    let a = c.args in
    none_holds a.edges 17 (Exceeds (atℤ a.capacities.now) (across (at a.lefts.now) (atℤ a.levels.now))) (λ k l. c.loop-e.invariant k (omega arith))
