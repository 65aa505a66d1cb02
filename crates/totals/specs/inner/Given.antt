-- What the loop over the nodes leaves: the subtotals written, and their sum.
use Rattle.std.specs.Prelude.{ℕ, ◌≡◌, Bool, List, ℤ}
use Rattle.maps.specs.Map.{Map}
use Rattle.totals.specs.Subtotal.{total}
use Rattle.totals.specs.Totals.{subtotaled}

abbrev pub Subtotaled : Map → (ℕ → ℤ) → (ℕ → Bool) → (out out' : List ℤ) → ℤ → Type 0
Subtotaled 𝓜 c S out out' t = (out' ≡ subtotaled 𝓜 c S out) × (t ≡ total 𝓜 c S)
