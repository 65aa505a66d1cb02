use Rattle.std.proofs.Common.{◌<◌, arith}
use Rattle.search.proofs.Rising.{rising_first, rising_room, rising_less, rising_more, rising_stops}
use Rattle.search.proofs.ascend.Goals as goal
use Rattle.search.proofs.ascend.Goals.{then-darts-p-via-then-darts-p, then-darts-p-via-else-darts-p+then-links-y-ne1024}

pub up-init : goal.up-init
up-init c = let p = c.requires in rising_first _ _ _ _ _ _ p.0 p.3

-- ── it stops ──
pub returns-then-darts-p : goal.returns-then-darts-p
returns-then-darts-p c =
    let p = c.requires in
    elim c.then-darts-p.branch [
      | then-darts-p-via-then-darts-p w ↦
          rising_stops _ _ _ _ _ p.2 p.3 c.up.invariant (λ h e. omega (arith, w.if-darts-p.true, c.wide-p.ensures))
      | then-darts-p-via-else-darts-p+then-links-y-ne1024 w ↦
          rising_stops _ _ _ _ _ p.2 p.3 c.up.invariant (λ h e. w.if-links-y-ne1024.true e)
    ]

-- ── it goes on ──
pub overflow_add-count : goal.overflow_add-count
overflow_add-count c =
    let p = c.requires in omega (arith, rising_room _ _ _ _ _ p.2 p.3 c.up.invariant c.if-links-y-ne1024.false)

pub up-smaller : goal.up-smaller
up-smaller c = let p = c.requires in rising_less _ _ _ _ _ p.2 p.3 c.up.invariant c.if-links-y-ne1024.false

pub up-preserved : goal.up-preserved
up-preserved c =
    let p = c.requires in
    let w = c.wide-p in
    let dart : w.result < c.args.darts = omega (arith, c.if-darts-p.false) in
    rising_more _ _ _ _ _ p.2 p.3 c.up.invariant w.result c.right-y.result w.ensures dart c.if-links-y-ne1024.false
    c.right-y.ensures (omega (arith, c.right-y.ensures, p.4 w.result dart))
