use mathlib.Core.Path.{sym, ◌∙◌}
use Prim.Native.Nat.{suc}
use native.Mathlib.Omega.{arith}
use lib.ListN.{length-set}
use Rattle.rotations.proofs.Trail.{set_off, still_in, walk_on, walk_end, fewer}
use Rattle.rotations.proofs.mark_orbit.Goals as goal

pub loop-x-init : goal.loop-x-init
loop-x-init c = record { long = c.requires.0; inside = c.requires.1.inside; steps = 0; walking = set_off _ _ _ _ }

pub loop-x-smaller : goal.loop-x-smaller
loop-x-smaller c = let i = c.loop-x.invariant in omega (arith, fewer c.loop-x.label i.long c.requires.1 i.walking)

-- the place is marked, and the walk has stepped on
pub loop-x-preserved : goal.loop-x-preserved
loop-x-preserved c =
    let o = c.loop-x in
    let i = o.invariant in
    let on = rw (← c.wide-x.ensures) at (walk_on o.label i.long c.requires.1 i.walking (λ e. c.if-x-start.false (c.wide-x.ensures ∙ e))) in
    record {
      long = length-set o.label o.x c.args.number ∙ i.long;
      inside = still_in c.requires.1 on;
      steps = suc i.steps;
      walking = on;
    }

pub returns : goal.returns
returns c =
    let o = c.loop-x in
    let i = o.invariant in (
      length-set o.label o.x c.args.number ∙ i.long,
      walk_end o.label i.long c.requires.1 i.walking (sym c.wide-x.ensures ∙ c.if-x-start.true),
    )
