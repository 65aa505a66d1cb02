-- Largest into arrays of 512 and 9: it does not refuse, and what it answers is the largest.
use Rattle.desk.proofs.Asking.{largest_is, never_refused}
use Rattle.desk.proofs.find_largest.Goals as goal

pub returns-in-Ok : goal.returns-in-Ok
returns-in-Ok c = largest_is _ _ _ c.requires c.in-Ok.largest c.largest-answer.new.flows c.largest-answer.new.set c.in-Ok.ensures

pub returns-in-Err : goal.returns-in-Err
returns-in-Err c = absurd (never_refused _ _ _ c.requires _ c.largest-answer.new.flows c.largest-answer.new.set c.in-Err.ensures)
