-- A session begun by a start and passed on only through the calls. Document 02, Job 12: "Clearing counts among the calls of Job 11, whose account now sums both
-- parties' flows since the last clear."
use Rattle.std.specs.Prelude.{ℕ, ◌≡◌, List, [], ◌∷◌, ℤ, pos, ◌+ℤ◌, Ok, Err}
use Rattle.refusals.specs.declared.Refusal.{Refusal}
use Rattle.flows.specs.Settings.{on_darts}
use Rattle.arrays.specs.At.{atℤ}
use Rattle.parties.specs.Shared.{Shared}
use Rattle.parties.specs.Start.{Starts}
use Rattle.parties.specs.Seen.{Event, asks, commits, clears, Run}

-- what flows that were let in come to on a dart
unfoldable pub total : List (List ℤ) → ℕ → ℤ
total [] d = pos 0
total (xs ∷ fs) d = on_darts (atℤ xs) d +ℤ total fs d

-- the flows let in after an event, where fs were before it, the last in front: whose commit it was does not matter, and a clear begins anew
unfoldable pub booked : List (List ℤ) → Event → List (List ℤ)
booked fs (asks p k flows' set' r) = fs
booked fs (commits p xs (Ok done)) = xs ∷ fs
booked fs (commits p xs (Err r)) = fs
booked fs clears = []

-- and after a run
unfoldable pub since : List (List ℤ) → List Event → List (List ℤ)
since fs [] = fs
since fs (e ∷ es) = since (booked fs e) es

-- S is reached from a start on the sheet s that was accepted, in whatever memory, by calls in any number and order; fs are the flows of both parties' accepted
-- commits since the last clear
pub record Reached (s : List ℕ) (S : Shared) (fs : List (List ℤ)) : Type 0 where
  pub first : Shared
  pub starts : Starts s first (Ok tt)
  pub events : List Event
  pub run : Run first events S
  pub flows_are : fs ≡ since [] events

-- the same from one that was refused
pub record Barred (s : List ℕ) (S : Shared) (fs : List (List ℤ)) : Type 0 where
  pub first : Shared
  pub refusal : Refusal
  pub starts : Starts s first (Err refusal)
  pub events : List Event
  pub run : Run first events S
  pub flows_are : fs ≡ since [] events
