-- Limits from a capture, on a drawing. Document 02, Job 10: "Give these forward limits after a named record, one per channel in a slice of their own that 16
-- covers too, and Largest on them; the limits are written where Largest is none as well. After the sheet checks stands 26: W out of range, or the named record,
-- counted from 0, is not below the capture's bytes div 11. Then every record of the capture in turn: 2, 1 for a body cut short, 25, and 27 for a tick that goes
-- back. The limits found are then checked by 6 and 7 channel by channel, and Largest's 13, 14 and 16 come last."
use Rattle.std.specs.Prelude.{ℕ, ◌+◌, ◌*◌, ◌/◌, ◌≤◌, ◌<◌, ◌≡◌, ◌⊎◌, List, [], ◌∷◌, ◌++◌, length, ℤ, Option, Result, Ok, Err}
use Rattle.refusals.specs.Order.{Check, ◌when◌, in_turn}
use Rattle.refusals.specs.declared.Refusal.{Refusal}
use Rattle.maps.specs.Drawing.{Drawing}
use Rattle.flows.specs.ProvingSet.{words_for}
use Rattle.arrays.specs.Filled.{filled}
use Rattle.records.specs.Check.{Outside, capacity_checks}
use Rattle.questions.specs.Question.{end_checks}
use Rattle.questions.specs.Largest.{LargestFound}
use Rattle.capture.specs.Entry.{begun, entry_checks}
use Rattle.capture.specs.Window.{forward_of, found}

-- 26: "W is 1 to 256", and the named record is one of the whole ones
unfoldable pub window_checks : List ℕ → (w n : ℕ) → List Check
window_checks b w n = (26 when Outside 1 256 w ⊎ (length b / 11 ≤ n)) ∷ []

-- the records that begin in the capture, in turn, those after the named one too
unfoldable pub records_checks : (edges : ℕ) → List ℕ → List Check
records_checks edges b = in_turn (begun b) (entry_checks edges b)

-- 6 and 7 on capacities, channel by channel
unfoldable pub limits_checks : (edges : ℕ) → (ℕ → ℤ) → List Check
limits_checks edges c = in_turn edges (λ e. capacity_checks (c (2 * e)) (c (2 * e + 1)))

-- 13, 14, and 16 for all three slices
unfoldable pub last_checks : (nodes edges source sink : ℕ) → (limits flows : List ℤ) → (set : List ℕ) → List Check
last_checks nodes edges source sink limits flows set =
    end_checks nodes source sink ++ ((16 when (length limits < edges) ⊎ ((length flows < edges) ⊎ (length set < words_for nodes))) ∷ [])

-- 26, then the records, then 6 and 7 on the limits found
unfoldable pub taking_checks : (edges : ℕ) → (ℕ → ℤ) → List ℕ → (w n : ℕ) → List Check
taking_checks edges c b w n = window_checks b w n ++ (records_checks edges b ++ limits_checks edges (found c b w n))

unfoldable pub capture_checks : Drawing → List ℕ → (w n source sink : ℕ) → (limits flows : List ℤ) → (set : List ℕ) → List Check
capture_checks 𝓓 b w n source sink limits flows set =
    taking_checks 𝓓.map.edges 𝓓.capacity b w n ++ last_checks 𝓓.map.nodes 𝓓.map.edges source sink limits flows set

-- the drawing with the limits found
abbrev pub found_drawing : Drawing → List ℕ → (w n : ℕ) → Drawing
found_drawing 𝓓 b w n = record { map = 𝓓.map; capacity = found 𝓓.capacity b w n; outer = 𝓓.outer }

-- the forward limits in the first places of their slice, whether Largest finds a value or none; as it was where it is refused
abbrev pub LimitsGiven : (edges : ℕ) → (ℕ → ℤ) → (limits limits' : List ℤ) → Result (Option ℤ) Refusal → Type 0
LimitsGiven edges forward limits limits' (Ok value) = limits' ≡ filled edges forward limits
LimitsGiven edges forward limits limits' (Err r) = limits' ≡ limits

-- What is answered, where `checks` are the refusals in order: the limits after record n, and Largest on the drawing that has them.
abbrev pub FoundAfter : Drawing → List Check → List ℕ → (w n source sink : ℕ) → (limits limits' flows flows' : List ℤ) (set set' : List ℕ)
    → Result (Option ℤ) Refusal → Type 0
FoundAfter 𝓓 checks b w n source sink limits limits' flows flows' set set' answer =
    LimitsGiven 𝓓.map.edges (forward_of 𝓓.capacity b w n) limits limits' answer
    × LargestFound (found_drawing 𝓓 b w n) checks source sink flows flows' set set' answer
