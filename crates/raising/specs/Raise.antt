-- What the forward capacity of an edge must be raised to, on a drawing. Document 02, Job 7: "Give the smallest forward limit, from its present one to
-- 1,000,000, with which the delivery has settings, and the highest settings under it, the set slice untouched; or none, when even 1,000,000 fails, with a set
-- proving it for that limit, the settings slice untouched. .. Solve's order holds, with 25, the channel does not exist, placed after 15."
use Rattle.std.specs.Prelude.{ℕ, ◌*◌, ◌≤◌, ◌≡◌, List, [], ◌∷◌, ◌++◌, length, ℤ, pos, ◌≤ℤ◌, ◌<ℤ◌, Result, Ok, Err, Option, Some, None}
use Rattle.refusals.specs.Order.{Check, ◌when◌, NoneOf, FirstOf}
use Rattle.refusals.specs.declared.Refusal.{Refusal}
use Rattle.maps.specs.Drawing.{Drawing}
use Rattle.flows.specs.Settings.{Carries}
use Rattle.questions.specs.Question.{end_checks, value_checks, room_checks}
use Rattle.questions.specs.Answered.{HighestWritten, ProofWritten}
use Rattle.raising.specs.Raised.{raised, raised_drawing}

-- 25: there is no such edge
unfoldable pub edge_checks : (edges edge : ℕ) → List Check
edge_checks edges edge = (25 when edges ≤ edge) ∷ []

-- 13, 14, 15, 25 and 16
unfoldable pub limit_checks : (nodes edges source sink : ℕ) → ℤ → (edge : ℕ) → List ℤ → List ℕ → List Check
limit_checks nodes edges source sink value edge flows set =
    end_checks nodes source sink ++ (value_checks value ++ (edge_checks edges edge ++ room_checks nodes edges (length flows) (length set)))

-- nothing carries the value with this forward capacity of the edge
abbrev pub Fails : Drawing → (source sink : ℕ) → ℤ → (edge : ℕ) → ℤ → Type 0
Fails 𝓓 source sink value edge limit = (x : ℕ → ℤ) → Carries 𝓓.map (raised 𝓓.capacity edge limit) source sink value x → ⊥

-- What is answered, where `checks` are the refusals in order.
-- Some: it lies from the present one to 1,000,000; the highest answer under it is written, the set is as it was; and with each limit from the present one to
-- below it nothing carries the value. None: a set is written that proves the value impossible with the limit 1,000,000, whatever the sheet's is; the settings
-- as they were. Refused: both slices as they were.
abbrev pub RaiseFound : Drawing → List Check → (source sink : ℕ) → ℤ → (edge : ℕ) → (flows flows' : List ℤ) (set set' : List ℕ) → Result (Option ℤ) Refusal
    → Type 0
RaiseFound 𝓓 checks source sink value edge flows flows' set set' (Ok (Some v)) =
    NoneOf checks
    × (𝓓.capacity (2 * edge) ≤ℤ v)
    × (v ≤ℤ pos 1000000)
    × HighestWritten (raised_drawing 𝓓 edge v) source sink value flows flows'
    × ((w : ℤ) → 𝓓.capacity (2 * edge) ≤ℤ w → w <ℤ v → Fails 𝓓 source sink value edge w)
    × (set' ≡ set)
RaiseFound 𝓓 checks source sink value edge flows flows' set set' (Ok None) =
    NoneOf checks
    × (flows' ≡ flows)
    × ProofWritten (raised_drawing 𝓓 edge (pos 1000000)) source sink value set set'
RaiseFound 𝓓 checks source sink value edge flows flows' set set' (Err r) = FirstOf checks r.number r.place × (flows' ≡ flows) × (set' ≡ set)
