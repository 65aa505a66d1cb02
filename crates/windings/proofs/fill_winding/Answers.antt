use native.Mathlib.Omega.{arith}
use Rattle.windings.proofs.Round.{rev_below, set_off, parent_in, few_yet, walk_on, walk_end, nearer}
use Rattle.windings.proofs.fill_winding.Goals as goal

pub loop-x-init : goal.loop-x-init
loop-x-init c = (c.requires.0, set_off (λ d l. c.requires.4 d))

pub cross-requires : goal.cross-requires
cross-requires c =
    let o = c.loop-x in
    let p = c.from-p.result in
    let r = c.requires.3 in
    let p_in = parent_in r o.invariant.1 c.from-p.ensures in
    (o.invariant.0, omega (arith, p_in, c.requires.1), few_yet r o.invariant.1 p p_in, few_yet r o.invariant.1 _ (rev_below c.args.darts p c.requires.2 p_in))

pub loop-x-smaller : goal.loop-x-smaller
loop-x-smaller c = nearer c.requires.3 c.loop-x.invariant.1 c.from-p.ensures c.right-x.ensures c.if-x-y.false

pub loop-x-preserved : goal.loop-x-preserved
loop-x-preserved c = (c.cross.ensures.0, walk_on c.requires.3 c.loop-x.invariant.1 c.from-p.ensures c.right-x.ensures c.cross.ensures.1 c.if-x-y.false)

pub returns : goal.returns
returns c = (c.cross.ensures.0, walk_end c.requires.3 c.loop-x.invariant.1 c.from-p.ensures c.right-x.ensures c.cross.ensures.1 c.if-x-y.true)
