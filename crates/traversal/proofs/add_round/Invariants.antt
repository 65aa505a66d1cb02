-- The walk so far, the round as far as `last`, which stands in the order, and that marks stay.
use Rattle.std.proofs.Common.{◌≡◌, ◌≢◌, ℕ, ◌+◌, ◌-◌, ◌<◌, length}
use Rattle.arrays.specs.At.{at}
use Rattle.traversal.specs.inner.Mark.{unmarked}
use Rattle.traversal.specs.inner.Forest.{Growing}
use Rattle.traversal.specs.inner.FirstCome.{FirstCome}
use Rattle.traversal.proofs.Rounding.{Rounding}
use Rattle.traversal.proofs.add_round.Given as goal

abbrev pub invariant-loop-next : goal.invariant-loop-next
invariant-loop-next l = record {
  order_long : length l.order ≡ 1024;
  from_long : length l.from ≡ 1024;
  owner_long : length l.owner ≡ 1024;
  grown : Growing l.darts (at l.rotations) l.first (at l.order) (at l.from) l.front l.listed (l.trees + 1);
  round : Rounding l.darts (at l.tails) (at l.rotations) (at l.from) (at l.owner) l.d l.last;
  turned : l.next ≡ at l.rotations l.last;
  ends : (j : ℕ) × (l.listed ≡ j + 1) × (at l.order j ≡ l.last);
  longer : l.end < l.listed;
  kept : (i : ℕ) → i < l.end → at l.order i ≡ at l.fn.order i;
  stay : (y : ℕ) → at l.fn.from y ≢ unmarked → at l.from y ≢ unmarked;
  came : FirstCome (at l.rotations) l.first (at l.order) (at l.from) l.listed;
}

abbrev pub decreases-loop-next : goal.decreases-loop-next
decreases-loop-next l = l.darts - l.listed
