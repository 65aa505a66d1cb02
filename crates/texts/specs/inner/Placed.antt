-- What each function that writes a piece of a text does: it puts the bytes at a place of the lent slice, leaves the rest, and returns the place behind them.
use Rattle.std.specs.Prelude.{ℕ, ◌+◌, ◌≡◌, List, length}
use Rattle.fields.specs.Fields.{put}

abbrev pub Placed : ℕ → List ℕ → (before after : List ℕ) → ℕ → Type 0
Placed at bytes before after end = (after ≡ put at bytes before) × (end ≡ at + length bytes)
