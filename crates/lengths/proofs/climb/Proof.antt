-- Invariant: the climb so far, and p is the dart that y was met from. The measure is the place of the dart reached.
use mathlib.Core.Path.{◌≡◌, sym, ◌∙◌}
use Prim.Native.Nat.{◌<◌}
use native.Mathlib.Omega.{arith}
use lib.ListN.{length}
use borrow.Author.Rules.{rules}
use mir.Syntax.{w32}
use mir.Val.{to_z}
use Rattle.arrays.specs.At.{at, atℤ}
use Rattle.traversal.proofs.Spreading.{place}
use Rattle.lengths.proofs.Climbing.{
  Climbing,
  climbing_start,
  climbing_end,
  origin_in,
  nearer,
  climbing_turned,
  edge_fresh,
  climbing_carried,
  by_bits,
  from_bits,
}
use Rattle.lengths.proofs.climb.Statement.{statement}
use Rattle.lengths.proofs.climb.Tie as tie

abbrev invariant-loop : tie.invariant-loop-p
invariant-loop order from darts x value lengths₀ y₀ p₀ lengths y p =
    (length lengths ≡ 1024) × (p ≡ at from y) × Climbing darts x (at order) (at from) (to_z w32 value) (atℤ lengths₀) (atℤ lengths) y

abbrev decreases-loop : tie.decreases-loop-p
decreases-loop order from darts x value lengths₀ y₀ p₀ lengths y p = place (at order) darts y

-- ── before the loop ──
mul_wide : tie.Need-offset_bounds-from-x invariant-loop decreases-loop
mul_wide c = omega (arith, c.requires.1.below, c.requires.1.few)

element-copy-out-wide : tie.Need-bounds-from-x invariant-loop decreases-loop
element-copy-out-wide c = omega (arith, c.requires.1.below, c.requires.1.few)

loop-holds : tie.Need-loop-p-init invariant-loop decreases-loop
loop-holds c = let p = c.requires in (p.0, c.wide-p.ensures, climbing_start (by_bits p.1))

-- ── one step up ──
abbrev begun : tie.At-loop-p invariant-loop decreases-loop → tie.Start invariant-loop decreases-loop
begun c = c.before.before.before.before

step_in : (c : tie.In-loop-p invariant-loop decreases-loop) → c.loop-p.p < 1024
step_in c =
    let ok = by_bits (begun c.before).requires.1 in
    let o = c.loop-p in
    omega (arith, origin_in ok o.invariant.2 o.invariant.1 c.loop-p-test.true, ok.few)

step_less : (c : tie.In-loop-p invariant-loop decreases-loop)
    → place (at (begun c.before).args.order.now) (begun c.before).args.darts c.loop-p.p
    < place (at (begun c.before).args.order.now) (begun c.before).args.darts c.loop-p.y
step_less c =
    let ok = by_bits (begun c.before).requires.1 in
    let o = c.loop-p in
    nearer ok o.invariant.2 o.invariant.1 c.loop-p-test.true

mul-wide-2 : tie.Need-offset_bounds-from-y invariant-loop decreases-loop
mul-wide-2 c = omega (arith, step_in c)

element-copy-out-wide-2 : tie.Need-bounds-from-y invariant-loop decreases-loop
element-copy-out-wide-2 c = omega (arith, step_in c.before)

abbrev turn : tie.After-wide-p-in-loop-p invariant-loop decreases-loop → tie.In-loop-p invariant-loop decreases-loop
turn c = c.before.before.before

reverse-requires : tie.Need-reverse-back-requires invariant-loop decreases-loop
reverse-requires c κs = omega (arith, step_in (turn c))

carry-requires : tie.Need-carry-requires invariant-loop decreases-loop
carry-requires c κs =
    let t = c in
    let i = turn t.before.before.before in
    let o = i.loop-p in
    let ok = by_bits (begun i.before).requires.1 in
    let r = edge_fresh ok o.invariant.2 o.invariant.1 i.loop-p-test.true (t.if-child-back.true ∙ t.reverse-back.ensures.0) in
    (o.invariant.0, omega (arith, r.0, ok.few), omega (arith, r.1, ok.few), r.2, r.3, r.4, ok.small)

loop-less : tie.Need-loop-p-smaller-then-child-back invariant-loop decreases-loop
loop-less c = step_less (turn c.before.before.before.before)

loop-again : tie.Need-loop-p-preserved-then-child-back invariant-loop decreases-loop
loop-again c =
    let t = c in
    let w = t in
    let i = turn w.before.before.before.before in
    let o = i.loop-p in
    let ok = by_bits (begun i.before).requires.1 in
    let e = c.carry.ensures in (
      e.0,
      w.wide-p-in-loop-p.ensures,
      climbing_carried ok o.invariant.2 o.invariant.1 i.loop-p-test.true (t.if-child-back.true ∙ t.reverse-back.ensures.0) e.1,
    )

loop-less-2 : tie.Need-loop-p-smaller invariant-loop decreases-loop
loop-less-2 c = step_less (turn c.before.before)

loop-again-2 : tie.Need-loop-p-preserved invariant-loop decreases-loop
loop-again-2 c =
    let w = c in
    let i = turn w.before.before in
    let o = i.loop-p in
    let ok = by_bits (begun i.before).requires.1 in (
      o.invariant.0,
      w.wide-p-in-loop-p.ensures,
      climbing_turned ok o.invariant.2 o.invariant.1 i.loop-p-test.true (λ e. c.if-child-back.false (e ∙ sym c.reverse-back.ensures.0)),
    )

returns : tie.Need-returns invariant-loop decreases-loop
returns c =
    let o = c.loop-p in
    let p = (begun c.before).requires in
    (o.invariant.0, from_bits p.1.small (climbing_end (by_bits p.1) o.invariant.2 o.invariant.1 c.loop-p-test.false))

pub climb_spec : {M : Type 1} → statement M
climb_spec =
    tie.close
    (tie.spec
    invariant-loop
    decreases-loop
    mul_wide
    element-copy-out-wide
    (λ c κs. search rules)
    loop-holds
    mul-wide-2
    element-copy-out-wide-2
    (λ c κs. search rules)
    reverse-requires
    carry-requires
    loop-less
    loop-again
    loop-less-2
    loop-again-2
    returns)
