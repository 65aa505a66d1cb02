-- Invariant: each node that a dart below d leaves has one of them in the table.
use mathlib.Core.Path.{◌≡◌}
use lib.ListN.{length}
use Rattle.arrays.specs.At.{at}
use Rattle.totals.specs.inner.Starts.{Starts}
use Rattle.totals.proofs.fill_starts.Given as goal

abbrev pub invariant-loop-d : goal.invariant-loop-d
invariant-loop-d l = record {
  long : length l.starts ≡ 1024;
  filled : Starts l.d (at l.tails) (at l.starts);
}
