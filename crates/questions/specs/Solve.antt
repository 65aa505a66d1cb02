-- Solve on a drawing. Document 01, "Operations": "Solve takes headgate, outfall, delivery." After the checks on the drawing: "13 either is no node; 14 they are
-- equal; 15 delivery out of range; 16 the settings slice is shorter than the channels or the set slice than its words. "Can" writes the settings only; "cannot"
-- writes the set only and gives its size."
use Rattle.std.specs.Prelude.{ℕ, ◌≡◌, List, ◌++◌, length, ℤ, Result, Ok, Err}
use Rattle.refusals.specs.Order.{Check, NoneOf, FirstOf}
use Rattle.refusals.specs.declared.Refusal.{Refusal}
use Rattle.maps.specs.Drawing.{Drawing}
use Rattle.flows.specs.ProvingSet.{Proves, member, size}
use Rattle.questions.specs.Question.{end_checks, value_checks, room_checks, SetWritten}
use Rattle.questions.specs.Answered.{HighestWritten}
use Rattle.questions.specs.declared.Solution.{Solution}
use Rattle.questions.specs.declared.Solution.TheVariants.{Can, Cannot}

-- 13 to 16, of a drawing with so many nodes and edges
unfoldable pub question_checks : (nodes edges source sink : ℕ) → ℤ → List ℤ → List ℕ → List Check
question_checks nodes edges source sink value flows set =
    end_checks nodes source sink ++ (value_checks value ++ room_checks nodes edges (length flows) (length set))

-- What Solve answers, where `checks` are its refusals in order.
-- Can: the highest answer, of which there is one, in the first places of the slice of settings, the rest and the set as they were.
-- Cannot: some set that proves the delivery impossible, its words in front of the slice, with the number of ones in them; the settings as they were.
-- Refused: both slices as they were.
abbrev pub Solved : Drawing → List Check → (source sink : ℕ) → ℤ → (flows flows' : List ℤ) (set set' : List ℕ) → Result Solution Refusal → Type 0
Solved 𝓓 checks source sink value flows flows' set set' (Ok Can) =
    NoneOf checks
    × HighestWritten 𝓓 source sink value flows flows'
    × (set' ≡ set)
Solved 𝓓 checks source sink value flows flows' set set' (Ok (Cannot n)) =
    NoneOf checks
    × ((words : List ℕ) × SetWritten 𝓓.map.nodes words set set' × Proves 𝓓.map 𝓓.capacity source sink value (member words)
    × (n ≡ size words))
    × (flows' ≡ flows)
Solved 𝓓 checks source sink value flows flows' set set' (Err r) = FirstOf checks r.number r.place × (flows' ≡ flows) × (set' ≡ set)
