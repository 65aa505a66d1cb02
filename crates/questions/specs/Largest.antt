-- Largest on a drawing. Document 01, "Operations": "Largest refuses as Solve without 15. It gives the largest deliverable
-- value, its highest settings, and a set proving the next greater one impossible. "None" means no whole number can be
-- delivered: settings untouched, and a set holding both or neither of headgate and outfall, outward total below 0."
use Rattle.std.specs.Prelude.{ℕ, ◌≡◌, List, ◌++◌, length, ℤ, pos, ◌+ℤ◌, Result, Ok, Err, Option, Some, None}
use Rattle.refusals.specs.Order.{Check, NoneOf, FirstOf}
use Rattle.refusals.specs.declared.Refusal.{Refusal}
use Rattle.maps.specs.Drawing.{Drawing}
use Rattle.questions.specs.Question.{end_checks, room_checks, SetWritten}
use Rattle.questions.specs.Answered.{HighestWritten, ProofWritten, Blocks}

-- 13, 14 and 16
unfoldable pub search_checks : (nodes edges source sink : ℕ) → List ℤ → List ℕ → List Check
search_checks nodes edges source sink flows set = end_checks nodes source sink ++ room_checks nodes edges (length flows) (length set)

-- What Largest answers, where `checks` are its refusals in order.
-- Some: the highest answer for it is written, and a set that proves the next greater value impossible. That no greater value can be delivered follows.
-- None: a set that holds both ends or neither, with its outward total below 0; the settings as they were. Refused: both slices as they were.
abbrev pub LargestFound : Drawing → List Check → (source sink : ℕ) → (flows flows' : List ℤ) (set set' : List ℕ) → Result (Option ℤ) Refusal → Type 0
LargestFound 𝓓 checks source sink flows flows' set set' (Ok (Some v)) =
    NoneOf checks
    × HighestWritten 𝓓 source sink v flows flows'
    × ProofWritten 𝓓 source sink (v +ℤ pos 1) set set'
LargestFound 𝓓 checks source sink flows flows' set set' (Ok None) =
    NoneOf checks
    × (flows' ≡ flows)
    × ((words : List ℕ) × SetWritten 𝓓.map.nodes words set set' × Blocks 𝓓 source sink words)
LargestFound 𝓓 checks source sink flows flows' set set' (Err r) = FirstOf checks r.number r.place × (flows' ≡ flows) × (set' ≡ set)
