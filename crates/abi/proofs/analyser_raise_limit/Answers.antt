-- The limit that was found is told: the arm has what Raise limit ensures of its answer.
use mathlib.Core.Path.{◌≡◌, refl, ◌∙◌, ap}
use borrow.Author.Rules.{rules}
use lib.IntN.{ℤ}
use Rattle.std.specs.Prelude.{Option, Some, Result, Ok}
use Rattle.refusals.specs.declared.Refusal.{Refusal}
use Rattle.signed.proofs.Laws.{number_of_bits}
use Rattle.abi.proofs.analyser_raise_limit.Goals as goal

pub returns-in-Ok-Some : goal.returns-in-Ok-Some
returns-in-Ok-Some c =
    let k = c.in-Ok-Some in
    let outer : ◌≡◌ {A = Result (Option ℤ) Refusal} c.raise_limit-answer.result (Ok k.field-0) = k.is in
    let inner : ◌≡◌ {A = Option ℤ} k.field-0 (Some k.v) = rw outer at k.field-0-is in
    let is : ◌≡◌ {A = Result (Option ℤ) Refusal} c.raise_limit-answer.result (Ok (Some k.v)) = outer ∙ ap (λ (x : Option ℤ). Ok x) inner in (
      Ok (Some k.v),
      rw (number_of_bits _ c.ranges.value, is) at c.raise_limit-answer.ensures,
      (refl, refl, number_of_bits _ (record { sfits = search rules }), refl),
    )
