-- The sheet checks, all of them in order, and what opening a sheet gives. Document 01, "Operations": "Sheet checks, in order."
use Rattle.std.specs.Prelude.{◌≡◌, Result, Ok, Err, List, ◌++◌, ℕ, ◌<◌}
use Rattle.refusals.specs.Order.{Check, NoneOf, FirstOf}
use Rattle.refusals.specs.declared.Refusal.{Refusal}
use Rattle.maps.specs.Map.{darts}
use Rattle.maps.specs.Face.{faces, left}
use Rattle.arrays.specs.At.{at, atℤ}
use Rattle.arrays.specs.declared.Sizes.{Sizes}
use Rattle.rotations.specs.MapChecks.{map_checks}
use Rattle.records.specs.Sheet.{nodes_of, edges_of, outer_of, tail_of, rotation_of, capacity_of, sheet_map, byte_checks}
use Rattle.sheets.specs.declared.Network.{Network}

-- 1 to 8 on the bytes, then 9 to 12 on the map
unfoldable pub sheet_checks : List ℕ → List Check
sheet_checks s = byte_checks s ++ map_checks (sheet_map s)

-- the network record, of these sizes, holds the sheet's drawing, and the face at the left of each dart
pub record Holds (s : List ℕ) (n : Network) (sizes : Sizes) : Type 0 where
  pub nodes_are : sizes.nodes ≡ nodes_of s
  pub edges_are : sizes.edges ≡ edges_of s
  pub faces_are : sizes.faces ≡ faces (sheet_map s)
  pub outer_is : sizes.outer ≡ outer_of s
  pub tails_are : at n.tails ≡ tail_of s
  pub rotations_are : at n.rotations ≡ rotation_of s
  pub capacities_are : atℤ n.capacities ≡ capacity_of s
  pub lefts_are : (d : ℕ) → d < darts (sheet_map s) → at n.lefts d ≡ left (sheet_map s) d

-- the record of an accepted sheet holds it; that of a refused one names the first check that holds
abbrev pub Opens : List ℕ → (n : Network) → (opened : Result Sizes Refusal) → Type 0
Opens s n (Ok sizes) = NoneOf (sheet_checks s) × Holds s n sizes
Opens s n (Err r) = FirstOf (sheet_checks s) r.number r.place
