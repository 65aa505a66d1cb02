-- A drawing with the forward capacity of one edge replaced. Document 02, Job 7: "the smallest forward limit" of a channel "with which the delivery has
-- settings". The forward limit of edge e is the capacity of dart 2e; that of dart 2e+1, its back limit, stays, and so does every other.
use Rattle.std.specs.Prelude.{ℕ, ◌*◌, cond, eqb, ℤ}
use Rattle.maps.specs.Drawing.{Drawing}

abbrev pub raised : (ℕ → ℤ) → (edge : ℕ) → ℤ → ℕ → ℤ
raised c edge limit d = cond (eqb d (2 * edge)) limit (c d)

abbrev pub raised_drawing : Drawing → (edge : ℕ) → ℤ → Drawing
raised_drawing 𝓓 edge limit = record { map = 𝓓.map; capacity = raised 𝓓.capacity edge limit; outer = 𝓓.outer }
