-- The ones of the words below i are counted.
use mathlib.Core.Path.{◌≡◌}
use Prim.Native.Nat.{◌*◌, ◌≤◌}
use lib.ListN.{take}
use Rattle.flows.specs.ProvingSet.{size}
use Rattle.node_sets.proofs.count_set.Given as goal

abbrev pub invariant-loop-i : goal.invariant-loop-i
invariant-loop-i l = (l.total ≤ 64 * l.i) × (l.total ≡ size (take l.i l.words))
