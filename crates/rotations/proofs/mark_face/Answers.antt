use mathlib.Core.Path.{◌≡◌, sym, ◌∙◌, ap}
use mathlib.Core.List.{List}
use Prim.Native.Nat.{ℕ, suc, ◌-◌, ◌≤◌, ◌<◌}
use native.Mathlib.Omega.{arith}
use lib.ListN.{length, set, length-set}
use lib.Seq.{get_or-set_same, get_or-set_other}
use Rattle.maps.specs.Dart.{rev}
use Rattle.maps.specs.Orbit.{iter}
use Rattle.arrays.specs.At.{at}
use Rattle.rotations.proofs.Trail.{set_off, still_in, walk_on, walk_end, walk_round, fewer}
use Rattle.rotations.proofs.Laying.{Laying, laying_none, laying_on, laying_end, laying_rounded}
use Rattle.rotations.proofs.mark_face.Goals as goal

pub loop-x-init : goal.loop-x-init
loop-x-init c = record {
  long = c.requires.0;
  long_grouped = c.requires.1;
  inside = c.requires.2.inside;
  steps = 0;
  walking = set_off _ _ _ _;
  laying = laying_none _ _ _ _;
  counted = c.requires.3;
  room = c.requires.4;
}

-- a place is left for it
pub overflow_sub-begin : goal.overflow_sub-begin
overflow_sub-begin c = let i = c.loop-x.invariant in omega (arith, fewer c.loop-x.lefts i.long c.requires.2 i.walking, i.counted)

pub loop-x-smaller : goal.loop-x-smaller
loop-x-smaller c = let i = c.loop-x.invariant in omega (arith, fewer c.loop-x.lefts i.long c.requires.2 i.walking)

-- the reverse of the place that the walk stands at is laid in the array
one_more : {next before : ℕ → ℕ} {start end k begin x : ℕ} (grouped : List ℕ) (v : ℕ) → Laying next before (at grouped) start end k begin
    → 0 < begin → begin ≤ length grouped → iter next k start ≡ x → v ≡ rev x → Laying next before (at (set grouped (begin - 1) v)) start end (suc k) (begin - 1)
one_more {begin = begin} grouped v λ₀ some room here is =
    laying_on λ₀ (at (set grouped (begin - 1) v)) (omega arith) here (get_or-set_same grouped (begin - 1) v 0 (omega arith) ∙ is)
    (λ i h. get_or-set_other grouped (begin - 1) i v 0 h)

pub loop-x-preserved : goal.loop-x-preserved
loop-x-preserved c =
    let o = c.loop-x in
    let i = o.invariant in
    let is = c.wide-x.ensures ∙ ap (at c.args.rotations.now) c.reverse-back.ensures.0 in
    let less = fewer o.lefts i.long c.requires.2 i.walking in
    let on = rw (← is) at (walk_on o.lefts i.long c.requires.2 i.walking (λ e. c.if-x-start.false (is ∙ e))) in
    record {
      long = length-set o.lefts o.x c.args.number ∙ i.long;
      long_grouped = length-set o.grouped (o.begin - 1) c.narrow.result ∙ i.long_grouped;
      inside = still_in c.requires.2 on;
      steps = suc i.steps;
      walking = on;
      laying = one_more o.grouped c.narrow.result i.laying (omega (arith, less, i.counted)) (omega (arith, c.requires.2.few)) i.walking.trail.here
          (c.narrow.ensures ∙ c.reverse-back.ensures.0);
      counted = omega (arith, less, i.counted);
      room = omega (arith, i.room);
    }

pub returns : goal.returns
returns c =
    let o = c.loop-x in
    let i = o.invariant in
    let back = sym (c.wide-x.ensures ∙ ap (at c.args.rotations.now) c.reverse-back.ensures.0) ∙ c.if-x-start.true in
    let less = fewer o.lefts i.long c.requires.2 i.walking in
    let round = walk_round o.lefts i.long c.requires.2 i.walking back in
    let laid =
    one_more o.grouped c.narrow.result i.laying (omega (arith, less, i.counted)) (omega (arith, c.requires.2.few)) i.walking.trail.here
    (c.narrow.ensures ∙ c.reverse-back.ensures.0)
    in (
      length-set o.lefts o.x c.args.number ∙ i.long,
      length-set o.grouped (o.begin - 1) c.narrow.result ∙ i.long_grouped,
      walk_end o.lefts i.long c.requires.2 i.walking back,
      laying_end c.args.edges c.requires.2.permutes c.requires.2.inside round laid,
      omega (arith, less, i.counted),
      laying_rounded laid round i.walking.away,
    )
