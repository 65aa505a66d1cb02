use native.Mathlib.Omega.{arith}
use Rattle.arrays.specs.At.{at}
use Rattle.desk.proofs.Marking.{extremes_one, extremes_next, extremes_of}
use Rattle.desk.proofs.least_and_greatest.Goals as goal

pub loop-q-init : goal.loop-q-init
loop-q-init c = extremes_one (at c.args.points.now)

pub loop-q-preserved : goal.loop-q-preserved
loop-q-preserved c =
    let l = c.loop-q in
    extremes_next (at c.args.points.now) l.q l.least l.greatest c.min-least.result c.max-greatest.result c.min-least.ensures c.max-greatest.ensures l.invariant

pub returns : goal.returns
returns c = extremes_of (at c.args.points.now) c.loop-q.q c.args.n (omega arith) c.loop-q.invariant
