-- What is found in the end: the least capacity that serves, or that none does.
use Rattle.std.specs.Prelude.{◌≡◌, List, ℕ, ◌*◌, ℤ, pos, ◌≤ℤ◌, ◌<ℤ◌, Option, Some, None}
use Rattle.maps.specs.Drawing.{Drawing}
use Rattle.flows.specs.ProvingSet.{Proves}
use Rattle.arrays.specs.inner.Flags.{flagged}
use Rattle.questions.specs.Answered.{HighestWritten}
use Rattle.raising.specs.Raised.{raised, raised_drawing}
use Rattle.raising.specs.Raise.{Fails}

-- the greatest forward limit of a sheet
abbrev pub most_limit : ℤ
most_limit = pos 1000000

-- the least capacity that serves, with its highest flow; or that none does, with a set that proves it of the greatest
abbrev pub Sought : Drawing → (s t : ℕ) → ℤ → (edge : ℕ) → (before flows : List ℤ) → (inside : List ℕ) → Option ℤ → Type 0
Sought 𝓓 s t value edge before flows inside (Some v) =
    (𝓓.capacity (2 * edge) ≤ℤ v) × (v ≤ℤ most_limit) × HighestWritten (raised_drawing 𝓓 edge v) s t value before flows
    × ((w : ℤ) → 𝓓.capacity (2 * edge) ≤ℤ w → w <ℤ v → Fails 𝓓 s t value edge w)
Sought 𝓓 s t value edge before flows inside None =
    (flows ≡ before) × Proves 𝓓.map (raised 𝓓.capacity edge most_limit) s t value (flagged inside)
