-- Invariant: the members below v are counted.
use mathlib.Core.Path.{◌≡◌}
use Prim.Native.Nat.{◌≤◌}
use Rattle.integers.specs.Sum.{count}
use Rattle.flows.specs.ProvingSet.{member}
use Rattle.totals.proofs.count_members.Given as goal

abbrev pub invariant-loop-v : goal.invariant-loop-v
invariant-loop-v l = record {
  few : l.members ≤ l.v;
  counted : l.members ≡ count l.v (member l.set);
}
