-- Document 02, Job 13: "where the unit says "cannot", no settings in n-th parts of a litre a minute carry that delivery either, for each whole n from 1 up, on
-- sheets and on limits left in a session of the sort Job 11 is exact for". Of the limits left; of sheets it is said in analyser/specs/Drops.antt.
use Rattle.std.specs.Prelude.{ℕ, List, ℤ, Ok}
use Rattle.flows.specs.Parts.{ExcludedInParts}
use Rattle.arrays.specs.At.{atℤ}
use Rattle.records.specs.Sheet.{sheet_map}
use Rattle.questions.specs.declared.Solution.TheVariants.{Cannot}
use Rattle.parties.specs.Shared.{Shared}
use Rattle.parties.specs.Calls.{Asks}
use Rattle.parties.specs.Reached.{Reached}

pub record InDropsLeft : Type 0 where
  pub ask_in_drops : (s : List ℕ) (S S' : Shared) (fs : List (List ℤ)) (p source sink : ℕ) (value : ℤ) (flows flows' : List ℤ) (set set' : List ℕ) (n : ℕ)
      → Reached s S fs → Asks S p source sink value flows flows' set set' S' (Ok (Cannot n)) → ExcludedInParts (sheet_map s) (atℤ S.left) source sink value
