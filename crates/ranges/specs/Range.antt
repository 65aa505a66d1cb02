-- The least and the largest value on a drawing. Document 02, Job 4: "Report the least deliverable value beside the largest, with its highest settings and a set
-- proving the next lower one impossible, in slices of their own that 16 covers too. .. Where Largest says none, this does too, with one set of that kind in
-- both set slices, and both settings slices untouched."
use Rattle.std.specs.Prelude.{ℕ, ◌≡◌, List, ◌++◌, length, ℤ, pos, ◌+ℤ◌, ◌-ℤ◌, Result, Ok, Err, Option, Some, None}
use Rattle.refusals.specs.Order.{Check, NoneOf, FirstOf}
use Rattle.refusals.specs.declared.Refusal.{Refusal}
use Rattle.maps.specs.Drawing.{Drawing}
use Rattle.questions.specs.Question.{end_checks, room_checks, SetWritten}
use Rattle.questions.specs.Answered.{HighestWritten, ProofWritten, Blocks}
use Rattle.ranges.specs.declared.Range.{Range}

-- 13, 14, and 16 for all four slices
unfoldable pub span_checks : (nodes edges source sink : ℕ) → (low : List ℤ) (below : List ℕ) (high : List ℤ) (above : List ℕ) → List Check
span_checks nodes edges source sink low below high above =
    end_checks nodes source sink
    ++ (room_checks nodes edges (length low) (length below) ++ room_checks nodes edges (length high) (length above))

-- What is answered, where `checks` are the refusals in order. Lent are slices for the settings of the least value, `low`, and of the largest, `high`, and for
-- the set of each, `below` and `above`; a name with ' is what its slice is left with.
-- Some: the highest answer for each value is written, with a set that proves the next lower value impossible,
-- and one the next greater. None: one set that holds both ends or neither, with its outward total below 0, the
-- same words in both slices of sets; the settings as they were. Refused: all four slices as they were.
abbrev pub RangeFound : Drawing → List Check → (source sink : ℕ)
    → (low low' : List ℤ) (below below' : List ℕ) (high high' : List ℤ) (above above' : List ℕ)
    → Result (Option Range) Refusal → Type 0
RangeFound 𝓓 checks source sink low low' below below' high high' above above' (Ok (Some range)) =
    NoneOf checks
    × HighestWritten 𝓓 source sink range.least low low'
    × ProofWritten 𝓓 source sink (range.least -ℤ pos 1) below below'
    × HighestWritten 𝓓 source sink range.largest high high'
    × ProofWritten 𝓓 source sink (range.largest +ℤ pos 1) above above'
RangeFound 𝓓 checks source sink low low' below below' high high' above above' (Ok None) =
    NoneOf checks
    × (low' ≡ low)
    × (high' ≡ high)
    × ((words : List ℕ)
    × SetWritten 𝓓.map.nodes words below below'
    × SetWritten 𝓓.map.nodes words above above'
    × Blocks 𝓓 source sink words)
RangeFound 𝓓 checks source sink low low' below below' high high' above above' (Err r) =
    FirstOf checks r.number r.place
    × (low' ≡ low)
    × (below' ≡ below)
    × (high' ≡ high)
    × (above' ≡ above)
