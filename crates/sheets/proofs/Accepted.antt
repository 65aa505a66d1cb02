-- What the sheet checks leave: the bytes passed, the map passed, the counts are in range, and the outer dart is a dart.
use mathlib.Core.List.{List}
use Prim.Native.Nat.{ℕ, ◌*◌, ◌≤◌, ◌<◌}
use Rattle.refusals.specs.Order.{NoneOf}
use Rattle.refusals.proofs.Order.{append_none}
use Rattle.rotations.specs.MapChecks.{map_checks}
use Rattle.records.specs.Sheet.{nodes_of, edges_of, outer_of, sheet_map, byte_checks}
use Rattle.records.proofs.Bytes.{bytes_counts, bytes_outer}
use Rattle.sheets.specs.Open.{sheet_checks}

-- an accepted sheet's bytes passed, so its counts are in range
pub sheet_bytes : (s : List ℕ) → NoneOf (sheet_checks s) → NoneOf (byte_checks s)
unfolding sheet_checks
sheet_bytes s h = (append_none (byte_checks s) (map_checks (sheet_map s)) h).0

pub sheet-map : (s : List ℕ) → NoneOf (sheet_checks s) → NoneOf (map_checks (sheet_map s))
unfolding sheet_checks
sheet-map s h = (append_none (byte_checks s) (map_checks (sheet_map s)) h).1

pub sheet_counts : (s : List ℕ) → NoneOf (sheet_checks s) → (2 ≤ nodes_of s) × (nodes_of s ≤ 513) × (1 ≤ edges_of s) × (edges_of s ≤ 512)
sheet_counts s h = bytes_counts s (sheet_bytes s h)

-- and its outer dart is a dart
pub sheet_outer : (s : List ℕ) → NoneOf (sheet_checks s) → outer_of s < 2 * edges_of s
sheet_outer s h = bytes_outer s (sheet_bytes s h)
