use mathlib.Core.Path.{◌≡◌, sym, ◌∙◌, ap}
use Prim.Native.Nat.{◌<◌}
use native.Mathlib.Omega.{arith}
use lib.IntN.{pos}
use lib.ListN.{set, length-set}
use lib.Seq.{get_or-set_same}
use Rattle.arrays.specs.At.{at, atℤ}
use Rattle.heights.proofs.FillingHeights.{dart_in, some-dart, first_own, origin_in, node_in}
use Rattle.heights.proofs.FillingHeights.{filling_start, filling_turned, filling_rooted, new_fits, filling_stored, filled, filled_rooted}
use Rattle.heights.proofs.fill_heights.Goals as goal
use Rattle.heights.proofs.fill_heights.Goals.{then-d-back, else-d-back+then-p-d, else-d-back+else-p-d}

pub loop-i-init : goal.loop-i-init
loop-i-init c =
    let a = c.args in
    let ok = c.requires.1 in
    let root = c.from-root.result in
    let root_in : root < 1024 = node_in ok (dart_in ok (some-dart ok) c.from-start.ensures) c.from-root.ensures in
    let same : at a.tails.now (at a.order.now 0) ≡ root = ap (at a.tails.now) (sym c.from-start.ensures) ∙ sym c.from-root.ensures in
    let zero = get_or-set_same a.heights.now root (pos 0) (pos 0) (omega (arith, c.requires.0)) in (
      length-set a.heights.now root (pos 0) ∙ c.requires.0,
      filling_start (some-dart ok) ok.based (first_own ok) (ap (atℤ (set a.heights.now root (pos 0))) same ∙ zero),
    )

pub reverse-back-requires : goal.reverse-back-requires
reverse-back-requires c = omega (arith, c.requires.1.few, origin_in c.requires.1 c.loop-i-test.true c.from-d.ensures c.from-p.ensures)

pub bounds-tails-p : goal.bounds-tails-p
bounds-tails-p c = omega (arith, c.requires.1.few, origin_in c.requires.1 c.loop-i-test.true c.from-d.ensures c.from-p.ensures)

pub bounds-heights-known : goal.bounds-heights-known
bounds-heights-known c = node_in c.requires.1 (origin_in c.requires.1 c.loop-i-test.true c.from-d.ensures c.from-p.ensures) c.from-known.ensures

pub bounds-winding-p : goal.bounds-winding-p
bounds-winding-p c = omega (arith, c.requires.1.few, origin_in c.requires.1 c.loop-i-test.true c.from-d.ensures c.from-p.ensures)

pub overflow_sub-heights : goal.overflow_sub-heights
overflow_sub-heights c =
    new_fits c.requires.1 c.loop-i.heights c.loop-i.invariant.1 c.loop-i-test.true c.from-d.ensures c.from-p.ensures c.from-known.ensures
    (c.if-d-back.true ∙ c.reverse-back.ensures.0)
    c.from.ensures

pub loop-i-preserved : goal.loop-i-preserved
loop-i-preserved c =
    let ok = c.requires.1 in
    let o = c.loop-i in
    elim c.if-d-back.branch [
      | then-d-back w ↦
          rw w.heights-is
          (filling_stored ok o.heights o.invariant.1 c.loop-i-test.true c.from-d.ensures c.from-p.ensures w.from-known.ensures
          (w.if-d-back.true ∙ c.reverse-back.ensures.0)
          w.from.ensures
          o.invariant.0
          w.from-next.ensures)
      | else-d-back+then-p-d w ↦
          rw w.heights-is
          (filling_rooted ok o.heights o.invariant.1 c.loop-i-test.true c.from-d.ensures c.from-p.ensures w.if-p-d.true w.from-base.ensures o.invariant.0)
      | else-d-back+else-p-d w ↦
          rw w.heights-is (
            o.invariant.0,
            filling_turned ok o.invariant.1 c.loop-i-test.true c.from-d.ensures c.from-p.ensures w.if-p-d.false
                (λ e. w.if-d-back.false (e ∙ sym c.reverse-back.ensures.0)),
          )
    ]

pub returns : goal.returns
returns c =
    let ok = c.requires.1 in
    let i = c.loop-i.invariant in
    (i.0, filled ok i.1 c.loop-i-test.false, filled_rooted ok i.1 c.loop-i-test.false)
