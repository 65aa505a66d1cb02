-- A tree: its first dart, then the loop. Invariant: the trees so far, and that marks stay. The measure is how many darts have yet to be passed.
use mathlib.Core.Path.{◌≡◌, sym, ◌∙◌, subst}
use mathlib.Core.Logic.{◌≢◌}
use Prim.Native.Nat.{ℕ, ◌+◌, ◌*◌, ◌/◌, ◌-◌, ◌<◌}
use native.Mathlib.Omega.{arith}
use lib.ListN.{length}
use borrow.Author.Rules.{rules}
use Rattle.maps.specs.Dart.{rev}
use Rattle.maps.proofs.Darts.{rev_in}
use Rattle.arrays.specs.At.{at}
use Rattle.traversal.specs.inner.Mark.{unmarked}
use Rattle.traversal.specs.inner.Forest.{Growing}
use Rattle.traversal.proofs.Spreading.{few, room, room_between, growing_planted, growing_on, marks_stay}
use Rattle.traversal.proofs.grow.Statement.{statement}
use Rattle.traversal.proofs.grow.Tie as tie

abbrev invariant-loop : tie.invariant-loop-head
invariant-loop rotations darts first trees order₀ from₀ listed d head₀ end₀ order from head end =
    (length order ≡ 1024) × (length from ≡ 1024) × Growing darts (at rotations) first (at order) (at from) head end (trees + 1)
    × (at from d ≢ unmarked) × ((y : ℕ) → at from₀ y ≢ unmarked → at from y ≢ unmarked)

abbrev decreases-loop : tie.decreases-loop-head
decreases-loop rotations darts first trees order₀ from₀ listed d head₀ end₀ order from head end = darts - head

add-requires : tie.Need-add-end-requires invariant-loop decreases-loop
add-requires c κs =
    let p = c.requires in
    (p.0, p.1, omega (arith, p.2, p.6.inside), omega (arith, p.2, p.6.inside), λ z. omega (arith, room p.5 _ p.6.inside z, p.2))

loop-holds : tie.Need-loop-head-init invariant-loop decreases-loop
loop-holds c =
    let p = c.requires in
    let e = c.add-end.ensures in
    (e.0, e.1, growing_planted p.5 p.3 p.4 p.6 e.2, e.2.has, λ y h. h)

-- ── in the loop ──
abbrev begun : tie.At-loop-head invariant-loop decreases-loop → tie.Start invariant-loop decreases-loop
begun c = c.before.before.before.before

abbrev at-loop : tie.After-wide-p invariant-loop decreases-loop → tie.At-loop-head invariant-loop decreases-loop
at-loop c = c.before.before.before.before

-- the dart at the head is below the number of darts
dart-below : (c : tie.After-wide-p invariant-loop decreases-loop) → c.wide-p.result < (begun (at-loop c)).args.darts
dart-below c =
    let o = (at-loop c).loop-head in
    omega (arith, c.wide-p.ensures, o.invariant.2.inside o.head c.loop-head-test.true)

mul_wide : tie.Need-offset_bounds-order-head invariant-loop decreases-loop
mul_wide c = omega (arith, few c.loop-head.invariant.2, (begun c.before).requires.2)

element-copy-out-wide : tie.Need-bounds-order-head invariant-loop decreases-loop
element-copy-out-wide c = omega (arith, few c.loop-head.invariant.2, (begun c.before.before).requires.2)

mul-wide-2 : tie.Need-offset_bounds-rotations-p invariant-loop decreases-loop
mul-wide-2 c = omega (arith, dart-below c, (begun (at-loop c)).requires.2)

element-copy-out-wide-2 : tie.Need-bounds-rotations-p invariant-loop decreases-loop
element-copy-out-wide-2 c = omega (arith, dart-below c.before, (begun (at-loop c.before)).requires.2)

-- and so is its rotation
turn_below : (c : tie.After-wide-t invariant-loop decreases-loop) → c.wide-t.result < (begun (at-loop c.before.before.before)).args.darts
turn_below c =
    let w = c in
    omega (arith, c.wide-t.ensures, (begun (at-loop w.before.before.before)).requires.4 w.wide-p.result (dart-below w.before.before.before))

add-requires-2 : tie.Need-add-end-requires-in-loop-head invariant-loop decreases-loop
add-requires-2 c κs =
    let t = c in
    let w = t in
    let o = (at-loop w.before.before.before.before.before).loop-head in
    let p = (begun (at-loop w.before.before.before.before.before)).requires in (
      o.invariant.0,
      o.invariant.1,
      omega (arith, turn_below t.before.before, p.2),
      omega (arith, dart-below w.before.before.before.before.before, p.2),
      λ z. omega (arith, room o.invariant.2 t.wide-t.result (turn_below t.before.before) z, p.2),
    )

abbrev turned : tie.After-add-end-in-loop-head invariant-loop decreases-loop → tie.After-wide-t invariant-loop decreases-loop
turned c = c.before.before.before

reverse-requires : tie.Need-reverse-back-requires invariant-loop decreases-loop
reverse-requires c κs =
    let w = (turned c) in
    omega (arith, dart-below w.before.before.before, (begun (at-loop w.before.before.before)).requires.2)

-- and its reverse
back_below : (c : tie.After-reverse-back invariant-loop decreases-loop) → c.reverse-back.result <
    (begun (at-loop (turned c.before).before.before.before)).args.darts
back_below c =
    let w = (turned c.before) in
    let a = (begun (at-loop w.before.before.before)).args in
    let p = (begun (at-loop w.before.before.before)).requires in
    let r : rev w.wide-p.result < 2 * (a.darts / 2) = rev_in (a.darts / 2) w.wide-p.result (omega (arith, dart-below w.before.before.before, p.3)) in
    omega (arith, c.reverse-back.ensures.0, r)

add-requires-3 : tie.Need-add-end-requires-in-loop-head-2 invariant-loop decreases-loop
add-requires-3 c κs =
    let v = c in
    let t = turned v.before.before.before in
    let w = t in
    let o = (at-loop w.before.before.before).loop-head in
    let p = (begun (at-loop w.before.before.before)).requires in
    let q = v.add-end-in-loop-head.ensures in (
      q.0,
      q.1,
      omega (arith, back_below v.before.before, p.2),
      omega (arith, dart-below w.before.before.before, p.2),
      λ z. omega (
        arith,
        p.2,
        room_between o.invariant.2 w.loop-head-test.true (sym w.wide-p.ensures) (sym t.wide-t.ensures) (turn_below t) q.2
            v.reverse-back.result (back_below v.before.before) z,
      ),
    )

abbrev reversed : tie.After-add-end-in-loop-head-2 invariant-loop decreases-loop → tie.After-reverse-back invariant-loop decreases-loop
reversed c = c.before.before.before

add-head : tie.Need-overflow_add-head invariant-loop decreases-loop
add-head c =
    let w = (turned (reversed c).before) in
    omega (arith, few (at-loop w.before.before.before).loop-head.invariant.2, (begun (at-loop w.before.before.before)).requires.2, w.loop-head-test.true)

loop-less : tie.Need-loop-head-smaller invariant-loop decreases-loop
loop-less c =
    let w = (turned (reversed c).before) in
    omega (arith, few (at-loop w.before.before.before).loop-head.invariant.2, (begun (at-loop w.before.before.before)).requires.2, w.loop-head-test.true)

loop-again : tie.Need-loop-head-preserved invariant-loop decreases-loop
loop-again c =
    let v = reversed c in
    let t = turned v.before in
    let w = t in
    let o = (at-loop w.before.before.before).loop-head in
    let q = v.add-end-in-loop-head.ensures in
    let r = c.add-end-in-loop-head-2.ensures in (
      r.0,
      r.1,
      growing_on o.invariant.2 w.loop-head-test.true (sym w.wide-p.ensures) (sym t.wide-t.ensures) (sym v.reverse-back.ensures.0)
          (turn_below t) (back_below v) q.2 r.2,
      marks_stay q.2 r.2 _ o.invariant.3,
      λ y h. marks_stay q.2 r.2 y (o.invariant.4 y h),
    )

returns : tie.Need-returns invariant-loop decreases-loop
returns c =
    let o = c.loop-head in
    let e : o.end ≡ o.head = omega (arith, c.loop-head-test.false, o.invariant.2.ordered) in
    let a = (begun c.before).args in (
      o.invariant.0,
      o.invariant.1,
      subst (λ n. Growing a.darts (at a.rotations.now) a.first (at o.order) (at o.from) n o.end (a.trees + 1)) (sym e) o.invariant.2,
      o.invariant.3,
      λ y h. o.invariant.4 y (λ e. h (sym (c.add-end.ensures.2.grew y h) ∙ e)),
    )

pub grow_spec : {M : Type 1} → statement M
grow_spec =
    tie.close
    (tie.spec
    invariant-loop
    decreases-loop
    add-requires
    loop-holds
    mul_wide
    element-copy-out-wide
    (λ c κs. search rules)
    mul-wide-2
    element-copy-out-wide-2
    (λ c κs. search rules)
    add-requires-2
    reverse-requires
    add-requires-3
    add-head
    loop-less
    loop-again
    returns)
