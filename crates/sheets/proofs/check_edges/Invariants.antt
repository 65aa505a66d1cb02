-- Invariant: no check refuses an edge below e.
use Prim.Native.Nat.{ℕ, ◌<◌}
use Rattle.refusals.specs.Order.{NoneOf}
use Rattle.records.specs.Check.{edge_checks}
use Rattle.sheets.specs.Write.{slices_drawing}
use Rattle.sheets.proofs.check_edges.Given as goal

abbrev pub invariant-loop-e : goal.invariant-loop-e
invariant-loop-e l = (i : ℕ) → i < l.e → NoneOf (edge_checks (slices_drawing l.nodes l.outer l.tails l.rotations l.capacities) i)
