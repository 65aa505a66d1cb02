-- Mark on a drawing. Document 01, "Operations": "Mark takes headgate, outfall, settings." After the checks on the drawing 13, 14; "16 settings shorter than the
-- channels; 17 a setting outside its channel's limits; 18 a node other than those two off balance. It gives the value."
use Rattle.std.specs.Prelude.{ℕ, ◌<◌, ◌≡◌, List, ◌∷◌, ◌++◌, length, ℤ, Result, Ok, Err}
use Rattle.refusals.specs.Order.{Check, ◌when◌, NoneOf, FirstOf}
use Rattle.refusals.specs.declared.Refusal.{Refusal}
use Rattle.maps.specs.Drawing.{Drawing}
use Rattle.maps.specs.Flow.{net}
use Rattle.flows.specs.Settings.{on_darts}
use Rattle.flows.specs.Check.{within_checks, balance_checks, EndOf}
use Rattle.arrays.specs.At.{atℤ}
use Rattle.questions.specs.Question.{end_checks}

-- 13, 14, 16, 17 and 18
unfoldable pub paper_checks : Drawing → (source sink : ℕ) → List ℤ → List Check
paper_checks 𝓓 source sink flows =
    end_checks 𝓓.map.nodes source sink
    ++ ((16 when length flows < 𝓓.map.edges)
    ∷ (within_checks 𝓓.map.edges 𝓓.capacity (atℤ flows)
    ++ balance_checks 𝓓.map (EndOf source sink) (atℤ flows)))

-- what Mark answers, where `checks` are its refusals in order; the value: "the sum over darts with tail at the headgate"
abbrev pub Marked : Drawing → List Check → (source sink : ℕ) → List ℤ → Result ℤ Refusal → Type 0
Marked 𝓓 checks source sink flows (Ok v) = NoneOf checks × (v ≡ net 𝓓.map (on_darts (atℤ flows)) source)
Marked 𝓓 checks source sink flows (Err r) = FirstOf checks r.number r.place
