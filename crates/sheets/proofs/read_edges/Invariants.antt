-- Invariant: every edge before e has passed, its fields stand in the arrays, and the other places are 0.
use Prim.Native.Nat.{ℕ, ◌*◌, ◌≤◌, ◌<◌}
use lib.IntN.{pos}
use Rattle.refusals.specs.Order.{NoneOf}
use Rattle.arrays.proofs.FillLoops.{Filling}
use Rattle.records.specs.Sheet.{field16, field32, edge_record_checks}
use Rattle.sheets.proofs.read_edges.Given as goal

abbrev pub invariant-loop-e : goal.invariant-loop-e
invariant-loop-e l = record {
  few : l.edges ≤ 512;
  passed : (i : ℕ) → i < l.e → NoneOf (edge_record_checks l.s i);
  tails : Filling 0 (field16 l.s 1) (2 * l.e) l.tails;
  rotations : Filling 0 (field16 l.s 5) (2 * l.e) l.rotations;
  capacities : Filling (pos 0) (field32 l.s 9) (2 * l.e) l.capacities;
}
