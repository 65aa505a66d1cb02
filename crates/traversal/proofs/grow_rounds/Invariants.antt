-- The trees so far, whole rounds, and that marks stay. The measure is how many darts have yet to be passed.
use Rattle.std.proofs.Common.{◌≡◌, ◌≢◌, ℕ, ◌+◌, ◌-◌, length}
use Rattle.arrays.specs.At.{at}
use Rattle.traversal.specs.inner.Mark.{unmarked}
use Rattle.traversal.specs.inner.Forest.{Growing}
use Rattle.traversal.specs.inner.Rounds.{Rounds}
use Rattle.traversal.specs.inner.FirstCome.{FirstCome, RoundedOff}
use Rattle.traversal.proofs.grow_rounds.Given as goal

abbrev pub invariant-loop-head : goal.invariant-loop-head
invariant-loop-head l = record {
  order_long : length l.order ≡ 1024;
  from_long : length l.from ≡ 1024;
  owner_long : length l.owner ≡ 1024;
  grown : Growing l.darts (at l.rotations) l.first (at l.order) (at l.from) l.head l.end (l.trees + 1);
  rounds : Rounds l.darts (at l.tails) (at l.rotations) (at l.from) (at l.owner);
  begun : at l.from l.d ≢ unmarked;
  stay : (y : ℕ) → at l.fn.from y ≢ unmarked → at l.from y ≢ unmarked;
  came : FirstCome (at l.rotations) l.first (at l.order) (at l.from) l.end;
  rounded : RoundedOff (at l.rotations) (at l.order) l.end;
}

abbrev pub decreases-loop-head : goal.decreases-loop-head
decreases-loop-head l = l.darts - l.head
