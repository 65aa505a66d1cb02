-- A refusal: its number and its place ("A refusal is its number, with a lowest channel (17) or node (18), else place 0").
use Rattle.std.specs.Prelude.{ℕ, Result, Err}
use Rattle.refusals.specs.declared.Refusal.{Refusal}

-- the answer of an operation that refuses by number k at the place p
abbrev pub refused : {A : Type 0} → ℕ → ℕ → Result A Refusal
refused k p = Err (record { number = k; place = p })
