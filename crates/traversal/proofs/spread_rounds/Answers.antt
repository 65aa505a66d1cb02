use Rattle.std.proofs.Common.{ℕ, ◌<◌, ◌≤◌, refl, below_more, arith}
use mathlib.Core.Logic.{inl}
use Rattle.traversal.proofs.Spreading.{few, trees_few, growing_none, all_marked, all_listed, all_grown}
use Rattle.traversal.proofs.Rounding.{rounds_none}
use Rattle.traversal.proofs.Coming.{none_came}
use Rattle.traversal.proofs.spread_rounds.Goals as goal
use Rattle.traversal.proofs.spread_rounds.Goals.{then-from-lowest+in_ok-end-2, else-from-lowest}

pub grow_rounds-requires : goal.grow_rounds-requires
grow_rounds-requires c =
    let p = c.requires in
    let e = c.unmark_all.ensures in (
      p.0,
      e.0,
      p.2,
      p.3,
      p.4,
      p.5,
      p.6,
      growing_none p.3 e.1,
      record { inside = p.7; fresh = e.1 _ (omega (arith, p.3, p.7)); next = inl (refl, refl, refl) },
      rounds_none p.3 e.1 p.8,
      none_came,
      λ h z. absurd (omega (arith, z)),
    )

-- ── in the loop ──
pub overflow_add-trees : goal.overflow_add-trees
overflow_add-trees c = let i = c.loop-lowest.invariant in omega (arith, few i.grown, trees_few i.grown, c.requires.3)

pub loop-lowest-preserved : goal.loop-lowest-preserved
loop-lowest-preserved c =
    let o = c.loop-lowest in
    let i = o.invariant in
    elim c.if-from-lowest.branch [
      | then-from-lowest+in_ok-end-2 w ↦ let e = w.in_ok-end-2.ensures in rw (w.order-is, w.from-is, w.owner-is, w.end-is, w.trees-is) (record {
        order_long = e.0;
        from_long = e.1;
        owner_long = e.2;
        some = omega arith;
        grown = e.3.0;
        rounds = e.3.1;
        passed = below_more _ o.lowest (λ y l. e.3.3 y (i.passed y l)) e.3.2;
        came = e.3.4;
        rounded = e.3.5;
      })
      | else-from-lowest w ↦ rw (w.order-is, w.from-is, w.owner-is, w.end-is, w.trees-is) (record {
        order_long = i.order_long;
        from_long = i.from_long;
        owner_long = i.owner_long;
        some = i.some;
        grown = i.grown;
        rounds = i.rounds;
        passed = below_more _ o.lowest i.passed w.if-from-lowest.false;
        came = i.came;
        rounded = i.rounded;
      })
    ]

-- ── all darts are listed ──
pub returns-then-end-darts : goal.returns-then-end-darts
returns-then-end-darts c =
    let i = c.loop-lowest.invariant in
    let every = all_marked i.grown (omega (arith, c.if-end-darts.true)) in
    let came = i.came.came in (
      i.order_long,
      i.from_long,
      i.owner_long,
      (i.some, all_grown i.grown i.some every, i.rounds, every, record { came = λ k l. came k (omega (arith, l, c.if-end-darts.true)) }),
    )

pub returns : goal.returns
returns c =
    let i = c.loop-lowest.invariant in
    let every = λ (d : ℕ) (l : d < c.args.darts). i.passed d (omega (arith, c.loop-lowest-test.false)) in
    let came = i.came.came in
    let full : c.args.darts ≤ c.loop-lowest.end = all_listed i.grown every in (
      i.order_long,
      i.from_long,
      i.owner_long,
      (i.some, all_grown i.grown i.some every, i.rounds, every, record { came = λ k l. came k (omega (arith, l, full)) }),
    )
