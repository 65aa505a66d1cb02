-- Writing a drawing as text. Document 02, Job 2: "The order is that of Largest, with 22 for a limit below zero put after 14; 16 here means only a short
-- output." "Like Write, give the number of bytes".
use Rattle.std.specs.Prelude.{ℕ, ◌<◌, ◌≡◌, List, [], ◌∷◌, ◌++◌, length, drop, ℤ, pos, ◌<ℤ◌, Result, Ok, Err}
use Rattle.refusals.specs.Order.{Check, ◌when◌, NoneOf, FirstOf}
use Rattle.refusals.specs.declared.Refusal.{Refusal}
use Rattle.maps.specs.Map.{darts}
use Rattle.maps.specs.Drawing.{Drawing}
use Rattle.questions.specs.Question.{end_checks}
use Rattle.dimacs.specs.Text.{dimacs_text}

-- some limit, forward or back, is below zero
abbrev pub BelowZero : (darts : ℕ) → (ℕ → ℤ) → Type 0
BelowZero darts c = (d : ℕ) × (d < darts) × (c d <ℤ pos 0)

abbrev pub text_of : Drawing → (source sink : ℕ) → List ℕ
text_of 𝓓 source sink = dimacs_text 𝓓.map 𝓓.capacity source sink

-- 13, 14, 22 and 16
unfoldable pub text_checks : Drawing → (source sink : ℕ) → List ℕ → List Check
text_checks 𝓓 source sink out =
    end_checks 𝓓.map.nodes source sink
    ++ ((22 when BelowZero (darts 𝓓.map) 𝓓.capacity) ∷ (16 when length out < length (text_of 𝓓 source sink)) ∷ [])

-- What is answered, where `checks` are the refusals in order. Ok: so many bytes, the text, in front of the output, whose rest is as it was.
-- Refused: the output as it was.
abbrev pub TextWritten : Drawing → List Check → (source sink : ℕ) → (out out' : List ℕ) → Result ℕ Refusal → Type 0
TextWritten 𝓓 checks source sink out out' (Ok n) =
    NoneOf checks × (n ≡ length (text_of 𝓓 source sink)) × (out' ≡ text_of 𝓓 source sink ++ drop n out)
TextWritten 𝓓 checks source sink out out' (Err r) = FirstOf checks r.number r.place × (out' ≡ out)
