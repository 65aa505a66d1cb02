-- What is left where the checks passed.
use Rattle.std.specs.Prelude.{Result, Ok, Err}
use Rattle.refusals.specs.declared.Refusal.{Refusal}
use Rattle.rotations.specs.declared.Counted.{Counted}

abbrev pub IfPassed : Result Counted Refusal → (Counted → Type 0) → Type 0
IfPassed (Ok c) P = P c
IfPassed (Err r) P = Unit
