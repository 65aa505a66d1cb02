-- The reader holds the capture that was passed, and its place is no farther than the end; the records before it have passed.
-- Measure: the bytes left.
use Rattle.std.proofs.Common.{◌≡◌, ◌-◌, ◌≤◌, length}
use Rattle.capture.specs.inner.Taken.{Passing}
use Rattle.capture.proofs.check_capture.Given as goal

abbrev pub invariant-loop-reader : goal.invariant-loop-reader
invariant-loop-reader l = record {
  same : l.reader.capture.now ≡ l.capture;
  inside : l.reader.at ≤ length l.capture;
  passing : Passing l.edges l.capture l.reader.at l.last;
}

abbrev pub decreases-loop-reader : goal.decreases-loop-reader
decreases-loop-reader l = length l.capture - l.reader.at
