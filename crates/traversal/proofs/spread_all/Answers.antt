use Rattle.std.proofs.Common.{refl, arith}
use mathlib.Core.Logic.{inl, inr}
use Rattle.traversal.proofs.Spreading.{few, trees_few, growing_none, all_grown}
use Rattle.traversal.proofs.spread_all.Goals as goal

pub grow-end-requires : goal.grow-end-requires
grow-end-requires c =
    let p = c.requires in
    let e = c.unmark_all.ensures in (
      p.0,
      e.0,
      p.2,
      p.3,
      p.5,
      growing_none p.2 e.1,
      record { inside = p.4; fresh = e.1 _ (omega (arith, p.2, p.4)); next = inl (refl, refl, refl) },
    )

pub grow-end-requires-then-from-d : goal.grow-end-requires-then-from-d
grow-end-requires-then-from-d c =
    let p = c.requires in
    let i = c.loop-d.invariant in (
      i.order_long,
      i.from_long,
      p.2,
      p.3,
      p.5,
      i.whole,
      record { inside = c.loop-d-test.true; fresh = c.if-from-d.true; next = inr (i.some, i.passed) },
    )

pub overflow_add-trees : goal.overflow_add-trees
overflow_add-trees c = let i = c.loop-d.invariant in omega (arith, trees_few i.whole, few i.whole, c.requires.2)

pub returns : goal.returns
returns c =
    let i = c.loop-d.invariant in
    (i.order_long, i.from_long, all_grown i.whole i.some (λ d l. i.passed d (omega (arith, c.loop-d-test.false))))
