-- Invariant: the head and the records of the edges below e stand in front, and the rest is as it was.
use Prim.Native.Nat.{ℕ}
use mathlib.Core.Path.{◌≡◌}
use mathlib.Core.List.{List, ◌++◌}
use lib.ListN.{length, drop}
use Rattle.records.specs.Record.{record_length}
use Rattle.records.specs.Encode.{encode_head}
use Rattle.sheets.specs.Write.{slices_drawing}
use Rattle.sheets.proofs.Writing.{Front}
use Rattle.sheets.proofs.write_edges.Given as goal

abbrev pub invariant-loop-e : goal.invariant-loop-e
invariant-loop-e l = record {
  kept : length l.out ≡ length l.initial.out;
  written : (nodes outer : ℕ) (old : List ℕ)
      → l.initial.out ≡ encode_head (slices_drawing nodes outer l.tails l.rotations l.capacities) ++ drop (record_length 4) old
      → Front (slices_drawing nodes outer l.tails l.rotations l.capacities) l.e old l.out;
}
