-- Invariant: the sums are those over the darts of the edges below e.
use Rattle.std.proofs.Common.{◌≡◌, ℕ, ◌*◌, ◌<◌, length}
use Rattle.arrays.specs.At.{at, atℤ}
use Rattle.balance.specs.inner.NetUpTo.{net_up_to}
use Rattle.balance.proofs.fill_nets.Given as goal

abbrev pub invariant-loop-e : goal.invariant-loop-e
invariant-loop-e l = record {
  long : length l.nets ≡ 1024;
  sums : (v : ℕ) → v < 1024 → atℤ l.nets v ≡ net_up_to (at l.tails) (atℤ l.flows) (2 * l.e) v;
}
