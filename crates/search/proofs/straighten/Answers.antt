use Rattle.std.proofs.Common.{refl, arith}
use Rattle.search.proofs.Passes.{pass_first, pass_last, pass_ring, pass_down, pass_next, pass_none}
use Rattle.search.proofs.straighten.Goals as goal
use Rattle.search.proofs.straighten.Goals.{then-risen-gt0+else-is_round, else-risen-gt0}

pub loop-f-init : goal.loop-f-init
loop-f-init c = pass_first c.requires

-- ── the ascent has come round ──
pub returns-then-is_round : goal.returns-then-is_round
returns-then-is_round c =
    let i = c.loop-f.invariant in
    let r = c.is_round.ensures.0 c.if-is_round.true in
    (_, pass_ring i c.loop-f-test.true (c.ascend-risen.ensures i.marks i.matched) r.0 r.1 c.wide-dart.result c.wide-dart.ensures)

-- ── it has not come round ──
pub descend-end-requires : goal.descend-end-requires
descend-end-requires c =
    let i = c.loop-f.invariant in
    pass_down i c.loop-f-test.true (c.ascend-risen.ensures i.marks i.matched) (c.is_round.ensures.1 c.if-is_round.false)

pub loop-f-preserved : goal.loop-f-preserved
loop-f-preserved c =
    let i = c.loop-f.invariant in
    let some = c.loop-f-test.true in
    let a = c.ascend-risen.ensures i.marks i.matched in
    elim c.if-risen-gt0.branch [
      | then-risen-gt0+else-is_round w ↦ rw (w.potentials-is, w.parents-is, w.waiting-is, w.queue-is, w.links-is, w.end-is)
          (let q = w.descend-end.ensures in pass_next i some a (w.is_round.ensures.1 w.if-is_round.false) q.1 q.0)
      | else-risen-gt0 w ↦ rw (w.potentials-is, w.parents-is, w.waiting-is, w.queue-is, w.links-is, w.end-is)
          (pass_none i some a (omega (arith, w.if-risen-gt0.false)))
    ]

pub returns : goal.returns
returns c = (_, pass_last _ c.loop-f.invariant (omega (arith, c.loop-f-test.false)) refl)
