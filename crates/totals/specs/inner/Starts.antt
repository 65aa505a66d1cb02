-- A dart of each node, in a table.
use Rattle.std.specs.Prelude.{ℕ, ◌<◌, ◌≡◌}

-- each node that one of the first `count` darts leaves has one of them in the table
abbrev pub Starts : (count : ℕ) (tail start : ℕ → ℕ) → Type 0
Starts count tail start = (d : ℕ) → d < count → (start (tail d) < count) × (tail (start (tail d)) ≡ tail d)
