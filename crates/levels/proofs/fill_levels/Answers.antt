use mathlib.Core.Path.{◌∙◌}
use native.Mathlib.Omega.{arith}
use lib.IntN.{pos}
use lib.ListN.{length-set}
use Rattle.levels.proofs.FillingLevels.{dart_in, face_in, new_fits, kept_stored, filling_stored, filling_rooted, filled}
use Rattle.levels.proofs.fill_levels.Goals as goal
use Rattle.levels.proofs.fill_levels.Goals.{then-p-d, else-p-d}

-- met from p: the level left of p is known
pub minus-requires : goal.minus-requires
minus-requires c =
    new_fits c.requires c.loop-i.levels c.loop-i.invariant.filling c.loop-i-test.true c.wide-d.ensures c.wide-p.ensures c.wide-known.ensures
    c.dart_flow-flow.ensures.0 c.dart_flow-flow.ensures.1 c.if-p-d.false

pub bounds-levels-across : goal.bounds-levels-across
bounds-levels-across c =
    omega (arith, face_in c.requires (dart_in c.requires c.loop-i-test.true c.wide-d.ensures) c.wide-across.ensures, c.loop-i.invariant.long)

pub loop-i-preserved : goal.loop-i-preserved
loop-i-preserved c =
    let o = c.loop-i in
    let across = c.wide-across.result in
    let in-tree = dart_in c.requires c.loop-i-test.true c.wide-d.ensures in
    elim c.if-p-d.branch [
      | then-p-d w ↦ rw w.levels-is (record {
        long = length-set o.levels across (pos 0) ∙ o.invariant.long;
        filling = filling_rooted c.requires o.levels o.invariant.filling c.loop-i-test.true c.wide-d.ensures c.wide-p.ensures w.if-p-d.true o.invariant.long
            c.wide-across.ensures;
        kept = kept_stored c.args.levels.now o.levels (pos 0) in-tree c.wide-across.ensures o.invariant.kept;
      })
      | else-p-d w ↦ rw w.levels-is (record {
        long = length-set o.levels across _ ∙ o.invariant.long;
        filling = filling_stored c.requires o.levels o.invariant.filling c.loop-i-test.true c.wide-d.ensures c.wide-p.ensures w.wide-known.ensures
            w.dart_flow-flow.ensures.0 w.dart_flow-flow.ensures.1 w.if-p-d.false o.invariant.long c.wide-across.ensures w.minus.ensures;
        kept = kept_stored c.args.levels.now o.levels _ in-tree c.wide-across.ensures o.invariant.kept;
      })
    ]

pub returns : goal.returns
returns c =
    record {
      as_long = c.loop-i.invariant.long;
      filled = filled c.requires.crossing c.loop-i.invariant.filling (omega arith);
      kept = c.loop-i.invariant.kept;
    }
