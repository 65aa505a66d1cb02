-- The mark of a place that has no number yet.
use Rattle.std.specs.Prelude.{ℕ}

abbrev pub unmarked : ℕ
unmarked = 65535
