-- Invariant: the state is the seed's after e steps, the head and the records of the edges below e stand in front, and the rest is as it was.
use mathlib.Core.Path.{◌≡◌}
use mathlib.Core.List.{List, ◌++◌}
use Prim.Native.Nat.{ℕ, ◌<◌}
use lib.ListN.{length, drop}
use Rattle.records.specs.Record.{record_length}
use Rattle.records.specs.Encode.{plain_head}
use Rattle.practice.specs.Seed.{state_after}
use Rattle.practice.specs.Practice.{grid_drawing}
use Rattle.practice.proofs.Writing.{Front}
use Rattle.practice.proofs.write_edges.Given as goal

abbrev pub invariant-loop-e : goal.invariant-loop-e
invariant-loop-e l = record {
  state_is : l.state ≡ state_after l.seed l.e;
  small : l.state < 2147483648;
  kept : length l.out ≡ length l.initial.out;
  written : (old : List ℕ) → l.initial.out ≡ plain_head (grid_drawing l.rows l.columns l.seed) ++ drop (record_length 1) old
      → Front (grid_drawing l.rows l.columns l.seed) l.e old l.out;
}
