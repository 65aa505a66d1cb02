-- The trees so far are whole, there is one, and every dart below d is marked.
use Rattle.std.proofs.Common.{◌≡◌, ◌≢◌, ℕ, ◌<◌, length}
use Rattle.arrays.specs.At.{at}
use Rattle.traversal.specs.inner.Mark.{unmarked}
use Rattle.traversal.specs.inner.Forest.{Growing}
use Rattle.traversal.proofs.spread_all.Given as goal

abbrev pub invariant-loop-d : goal.invariant-loop-d
invariant-loop-d l = record {
  order_long : length l.order ≡ 1024;
  from_long : length l.from ≡ 1024;
  some : 0 < l.trees;
  whole : Growing l.darts (at l.rotations) l.first (at l.order) (at l.from) l.end l.end l.trees;
  passed : (e : ℕ) → e < l.d → at l.from e ≢ unmarked;
}
