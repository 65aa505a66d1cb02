-- The nodes above a threshold.
use Rattle.std.specs.Prelude.{ℕ, Bool, ℤ}
use Rattle.std.specs.Int.Signed.{lt_z}

abbrev pub above : (ℕ → ℤ) → ℤ → ℕ → Bool
above height threshold v = lt_z threshold (height v)
