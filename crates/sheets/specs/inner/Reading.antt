-- The records of a sheet's edges, read in one pass: checked, and where they pass their fields stand in arrays.
use Rattle.std.specs.Prelude.{◌≡◌, List, ℕ, ℤ, Result, Ok, Err}
use Rattle.refusals.specs.Order.{NoneOf, FirstOf}
use Rattle.refusals.specs.declared.Refusal.{Refusal}
use Rattle.arrays.specs.At.{at, atℤ}
use Rattle.records.specs.Sheet.{tail_of, rotation_of, capacity_of, byte_checks}
use Rattle.arrays.specs.declared.Sizes.{Sizes}
use Rattle.sheets.specs.declared.Network.{Network}

-- the arrays hold the tails, the rotations and the capacities of the sheet's darts
pub record FieldsRead (s tails rotations : List ℕ) (capacities : List ℤ) : Type 0 where
  pub tails_are : at tails ≡ tail_of s
  pub rotations_are : at rotations ≡ rotation_of s
  pub capacities_are : atℤ capacities ≡ capacity_of s

-- the answer is that of the checks 1 to 8
abbrev pub EdgesRead : (s tails rotations : List ℕ) (capacities : List ℤ) → Result Unit Refusal → Type 0
EdgesRead s tails rotations capacities (Ok done) = NoneOf (byte_checks s) × FieldsRead s tails rotations capacities
EdgesRead s tails rotations capacities (Err r) = FirstOf (byte_checks s) r.number r.place

-- the network record of what the checks found, with these arrays
abbrev pub network_of : Result Sizes Refusal → (tails rotations : List ℕ) (capacities : List ℤ) (lefts : List ℕ) → Network
network_of opened tails rotations capacities lefts = record {
  opened = opened;
  tails = tails;
  rotations = rotations;
  capacities = capacities;
  lefts = lefts;
}
