-- The trees so far are whole, as are the rounds, there is one, and every dart below `lowest` is marked.
use Rattle.std.proofs.Common.{◌≡◌, ◌≢◌, ℕ, ◌<◌, length}
use Rattle.arrays.specs.At.{at}
use Rattle.traversal.specs.inner.Mark.{unmarked}
use Rattle.traversal.specs.inner.Forest.{Growing}
use Rattle.traversal.specs.inner.Rounds.{Rounds}
use Rattle.traversal.specs.inner.FirstCome.{FirstCome, RoundedOff}
use Rattle.traversal.proofs.spread_rounds.Given as goal

abbrev pub invariant-loop-lowest : goal.invariant-loop-lowest
invariant-loop-lowest l = record {
  order_long : length l.order ≡ 1024;
  from_long : length l.from ≡ 1024;
  owner_long : length l.owner ≡ 1024;
  some : 0 < l.trees;
  grown : Growing l.darts (at l.rotations) l.first (at l.order) (at l.from) l.end l.end l.trees;
  rounds : Rounds l.darts (at l.tails) (at l.rotations) (at l.from) (at l.owner);
  passed : (e : ℕ) → e < l.lowest → at l.from e ≢ unmarked;
  came : FirstCome (at l.rotations) l.first (at l.order) (at l.from) l.end;
  rounded : RoundedOff (at l.rotations) (at l.order) l.end;
}
