-- Checks 13, 14 and 16: the ends, then the slice of limits, then the other two.
use native.Mathlib.Omega.{arith}
use Rattle.std.proofs.lemmas.Result.{err_from_is_err_and}
use Rattle.capture.proofs.Lasting.{ends_refused, limits_short, room_judged}
use Rattle.capture.proofs.check_last.Goals as goal

pub returns-in_err-check_ends : goal.returns-in_err-check_ends
returns-in_err-check_ends c =
    let p = err_from_is_err_and c.from_residual.result c.from_residual.ensures.1 in
    rw (p.1, p.2) (ends_refused _ _ _ _ _ _ _ _ _ c.in_err-check_ends.ensures)

pub returns-then-limits-edges : goal.returns-then-limits-edges
returns-then-limits-edges c = rw c.refused.ensures (limits_short _ _ _ _ _ _ _ c.in_ok-check_ends.ensures (omega arith))

pub returns : goal.returns
returns c = room_judged _ _ _ _ _ _ _ c.in_ok-check_ends.ensures (omega arith) c.check_room.result c.check_room.ensures
