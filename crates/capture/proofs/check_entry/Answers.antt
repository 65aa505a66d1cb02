-- One record: each way out is the first check that holds of it, or the records up to it have passed.
use native.Mathlib.Omega.{arith}
use Rattle.std.proofs.lemmas.Result.{err_from_is_err_and}
use Rattle.capture.proofs.Reading.{found_as}
use Rattle.capture.proofs.Checking.{out_found, out_channel, out_tick, passing_step}
use Rattle.capture.proofs.check_entry.Goals as goal

pub returns-in_err-entry : goal.returns-in_err-entry
returns-in_err-entry c =
    let p = err_from_is_err_and c.from_residual.result c.from_residual.ensures.1 in
    rw (p.1, p.2) (out_found c.requires.1 c.requires.0 _ (found_as _ _ _ c.in_err-entry.ensures))

pub returns-then-edges-from : goal.returns-then-edges-from
returns-then-edges-from c =
    rw c.refused.ensures (out_channel c.requires.1 c.requires.0 _ (found_as _ _ _ c.in_ok-entry.ensures) (omega arith))

pub returns-then-entry-last : goal.returns-then-entry-last
returns-then-entry-last c =
    rw c.refused-then-entry-last.ensures (out_tick c.requires.1 c.requires.0 _ (found_as _ _ _ c.in_ok-entry.ensures) (omega arith) (omega arith))

pub returns : goal.returns
returns c = passing_step c.requires.1 c.requires.0 _ (found_as _ _ _ c.in_ok-entry.ensures) (omega arith) (omega arith)
