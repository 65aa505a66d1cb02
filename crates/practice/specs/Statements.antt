-- What is said of practice sheets. Document 02, Job 5: "Show that every sheet made is one the unit accepts, whatever the seed." A record, a field for each
-- statement, about every run of the operation: all that a field knows of a run is its contract, `Practises`. The proofs are in proofs/Statements.antt.
use Rattle.std.specs.Prelude.{ℕ, ◌≤◌, ◌<◌, ◌≡◌, List, length, take, drop, Result, Ok, Err}
use Rattle.refusals.specs.Order.{NoneOf}
use Rattle.refusals.specs.declared.Refusal.{Refusal}
use Rattle.maps.specs.Walk.{Connected}
use Rattle.records.specs.Sheet.{kind_of, sheet_map, sheet_drawing}
use Rattle.sheets.specs.Open.{sheet_checks}
use Rattle.practice.specs.Practice.{grid_drawing, practice_length, Practises}

pub record PracticeSheets : Type 0 where
  -- every sheet made is one the unit accepts: no sheet check holds of it. Its head is of kind 1
  pub practice_accepted : (rows columns seed : ℕ) (out out' : List ℕ) (n : ℕ)
      → Practises rows columns seed out out' (Ok n) → NoneOf (sheet_checks (take n out')) × (kind_of (take n out') ≡ 1)
  -- what is read from it is the grid with the seed's limits, and that is in one part
  pub practice_drawn : (rows columns seed : ℕ) (out out' : List ℕ) (n : ℕ)
      → Practises rows columns seed out out' (Ok n) → (sheet_drawing (take n out') ≡ grid_drawing rows columns seed) × Connected (sheet_map (take n out'))
  -- and there is a sheet for all rows and columns from 2 to 16 and every seed below 2,147,483,648, where there is room for it
  pub practice_made : (rows columns seed : ℕ) (out out' : List ℕ) (answer : Result ℕ Refusal)
      → 2 ≤ rows → rows ≤ 16 → 2 ≤ columns → columns ≤ 16 → seed < 2147483648 → practice_length rows columns ≤ length out
      → Practises rows columns seed out out' answer → answer ≡ Ok (practice_length rows columns)
  -- one sheet for each: of the same rows, columns and seed the same bytes, whatever was lent
  pub practice_one : (rows columns seed : ℕ) (out out' other other' : List ℕ) (n m : ℕ)
      → Practises rows columns seed out out' (Ok n) → Practises rows columns seed other other' (Ok m) → take n out' ≡ take m other'
  -- behind the sheet the output is as it was; all of it where it is refused
  pub rest_kept : (rows columns seed : ℕ) (out out' : List ℕ) (n : ℕ) → Practises rows columns seed out out' (Ok n) → drop n out' ≡ drop n out
  pub refused_kept : (rows columns seed : ℕ) (out out' : List ℕ) (r : Refusal) → Practises rows columns seed out out' (Err r) → out' ≡ out
