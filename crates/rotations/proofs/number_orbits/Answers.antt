use native.Mathlib.Omega.{arith}
use Rattle.rotations.proofs.Numbering.{numbering_start, numbering_end, used_few, pass, markable, mark}
use Rattle.rotations.proofs.number_orbits.Goals as goal
use Rattle.rotations.proofs.number_orbits.Goals.{then-label-d, else-label-d}

pub loop-d-init : goal.loop-d-init
loop-d-init c = record { long = c.unmark_all.ensures.0; numbered = numbering_start c.requires.1 c.requires.2 c.unmark_all.ensures.1 }

-- no more numbers than places are used
pub narrow-requires : goal.narrow-requires
narrow-requires c = omega (arith, c.requires.1, used_few c.requires.1 c.requires.2 c.loop-d.invariant.numbered)

pub mark_orbit-requires : goal.mark_orbit-requires
mark_orbit-requires c = (
  c.loop-d.invariant.long,
  rw c.narrow.ensures (markable c.requires.1 c.requires.2 c.loop-d.invariant.numbered c.loop-d-test.true c.if-label-d.true),
)

pub loop-d-preserved : goal.loop-d-preserved
loop-d-preserved c =
    let p = c.requires in
    let i = c.loop-d.invariant in
    let t = c.loop-d-test.true in
    elim c.if-label-d.branch [
      | then-label-d w ↦ rw (w.label-is, w.f-is) (record {
        long = w.mark_orbit.ensures.0;
        numbered = mark p.1 p.2 i.numbered t w.if-label-d.true (rw w.narrow.ensures at w.mark_orbit.ensures.1);
      })
      | else-label-d w ↦ rw (w.label-is, w.f-is) (record { long = i.long; numbered = pass p.1 p.2 i.numbered t w.if-label-d.false })
    ]

-- all places have their numbers
pub returns : goal.returns
returns c =
    let i = c.loop-d.invariant in
    let e = numbering_end c.requires.1 c.requires.2 i.numbered (omega arith) in
    (i.long, e.0, e.1)
