use native.Mathlib.Omega.{arith}
use borrow.Author.Rules.{rules}
use Rattle.arrays.specs.At.{atℤ}
use Rattle.balance.specs.inner.Check.{Off, off_checks}
use Rattle.balance.proofs.Lowest.{lowest, none_holds}
use Rattle.balance.proofs.check_balance.Goals as goal

-- it is off balance, and no node below it is
pub returns-then-off_balance : goal.returns-then-off_balance
unfolding off_checks
returns-then-off_balance c =
    let a = c.args in
    let v = c.loop-v.v in
    let here : Off a.a a.b (atℤ a.nets.now) v = search rules in
    rw c.refused_at.ensures (lowest a.nodes 18 (Off a.a a.b (atℤ a.nets.now)) v c.narrow.result (omega arith) c.loop-v.invariant here c.narrow.ensures)

-- all nodes are tested
pub returns : goal.returns
unfolding off_checks
returns c = none_holds c.args.nodes 18 (Off c.args.a c.args.b (atℤ c.args.nets.now)) (λ u l. c.loop-v.invariant u (omega arith))
