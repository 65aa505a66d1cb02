use Rattle.std.proofs.Common.{◌*◌, ◌/◌, ◌<◌, sym, ◌∙◌, ap, arith}
use mathlib.Core.Logic.{inl}
use Rattle.maps.specs.Dart.{rev}
use Rattle.maps.proofs.Darts.{rev_in}
use Rattle.traversal.proofs.Spreading.{few, room, growing_planted, growing_added}
use Rattle.traversal.proofs.Rounding.{growing_turned}
use Rattle.traversal.proofs.Coming.{back_in, comes_planted, comes_crossed}
use Rattle.traversal.proofs.grow_rounds.Goals as goal

pub add_round-requires : goal.add_round-requires
add_round-requires c =
    let p = c.requires in (
      p.0,
      p.1,
      p.2,
      p.3,
      p.5,
      p.6,
      p.8.inside,
      omega (arith, p.3, p.8.inside),
      omega (arith, p.3, room p.7 _ p.8.inside p.8.fresh),
      p.8.fresh,
      (λ o f e a. growing_planted p.7 p.4 p.5 p.8 a),
      p.9,
      p.10,
      p.7.marked,
      comes_planted p.7 p.8 (back_in p.4) p.11,
    )

-- ── in the loop ──
pub offset_bounds-order-front : goal.offset_bounds-order-front
offset_bounds-order-front c = omega (arith, few c.loop-head.invariant.grown, c.requires.3)

pub bounds-order-front : goal.bounds-order-front
bounds-order-front c = omega (arith, few c.loop-head.invariant.grown, c.requires.3)

pub overflow_add-head : goal.overflow_add-head
overflow_add-head c = omega (arith, few c.loop-head.invariant.grown, c.requires.3)

pub add_round-requires-then-from-back : goal.add_round-requires-then-from-back
add_round-requires-then-from-back c =
    let p = c.requires in
    let l = c.loop-head in
    let i = l.invariant in
    let front = c.loop-head-test.true in
    let is = c.wide-p.ensures in
    let dart : c.wide-p.result < c.args.darts = omega (arith, is, i.grown.inside l.head front) in
    let half = c.args.darts / 2 in
    let r : rev c.wide-p.result < 2 * half = rev_in half c.wide-p.result (omega (arith, dart, p.4)) in
    let back : c.reverse-back.result < c.args.darts = omega (arith, c.reverse-back.ensures.0, r, p.4) in
    let crossed = c.reverse-back.ensures.0 ∙ ap rev is in
    let z = c.if-from-back.true in (
      i.order_long,
      i.from_long,
      i.owner_long,
      p.3,
      p.5,
      p.6,
      back,
      omega (arith, dart, p.3),
      omega (arith, room i.grown c.reverse-back.result back z, p.3),
      z,
      (λ o f e a. growing_added i.grown back a front is (inl crossed)),
      i.rounds,
      i.came,
      i.grown.marked,
      comes_crossed i.grown (back_in p.4) i.rounded front crossed is z,
    )

pub loop-head-smaller-then-from-back : goal.loop-head-smaller-then-from-back
loop-head-smaller-then-from-back c = omega (arith, few c.loop-head.invariant.grown)

pub loop-head-smaller : goal.loop-head-smaller
loop-head-smaller c = omega (arith, few c.loop-head.invariant.grown)

pub loop-head-preserved-then-from-back : goal.loop-head-preserved-then-from-back
loop-head-preserved-then-from-back c =
    let i = c.loop-head.invariant in
    let front = c.loop-head-test.true in
    let q = c.in_ok-end-2.ensures in
    let g = q.3 in
    let passed : c.loop-head.head < c.in_ok-end-2.end = omega (arith, g.4) in
    let at_front = c.reverse-back.ensures.0 ∙ ap rev (c.wide-p.ensures ∙ sym (g.3 c.loop-head.head front)) in
    record {
      order_long = q.0;
      from_long = q.1;
      owner_long = q.2;
      grown = growing_turned g.0 g.1 passed at_front g.2;
      rounds = g.1;
      begun = g.5 _ i.begun;
      stay = λ y k. g.5 y (i.stay y k);
      came = g.6;
      rounded = g.7;
    }
