-- Which ends of a question a set of nodes holds.
use Rattle.std.specs.Prelude.{◌≡◌, Bool, true, false, ℕ}

-- S holds the source and not the sink; the sink and not the source; both or neither
abbrev pub AtSource : (s t : ℕ) → (ℕ → Bool) → Type 0
AtSource s t S = (S s ≡ true) × (S t ≡ false)

abbrev pub AtSink : (s t : ℕ) → (ℕ → Bool) → Type 0
AtSink s t S = (S s ≡ false) × (S t ≡ true)

abbrev pub Beside : (s t : ℕ) → (ℕ → Bool) → Type 0
Beside s t S = S s ≡ S t
