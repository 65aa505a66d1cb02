-- The checks of a question on the limits left. Document 02, Job 11: "Ask gives Solve's answer on the limits still left".
use Rattle.std.specs.Prelude.{ℕ, ◌≤◌, ◌≡◌, ◌⊎◌, List, ◌∷◌, ◌++◌, length, ℤ}
use Rattle.refusals.specs.Order.{Check, ◌when◌}
use Rattle.maps.specs.Drawing.{Drawing}
use Rattle.questions.specs.Question.{value_checks, room_checks}
use Rattle.sessions.specs.Fit.{Fit}

-- 13 to 16. A value that is no session is answered 13, as the session of no nodes is
unfoldable pub ask_checks : Drawing → (source sink : ℕ) → ℤ → List ℤ → List ℕ → List Check
ask_checks 𝓓 source sink value flows set =
    (13 when (𝓓.map.nodes ≤ source) ⊎ ((𝓓.map.nodes ≤ sink) ⊎ (Fit 𝓓 → ⊥)))
    ∷ (14 when source ≡ sink)
    ∷ (value_checks value ++ room_checks 𝓓.map.nodes 𝓓.map.edges (length flows) (length set))
