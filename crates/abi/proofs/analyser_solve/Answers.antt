-- Where it cannot, the set's size is told: the arm has what Solve ensures of its answer.
use mathlib.Core.Path.{◌≡◌, refl, ◌∙◌, ap}
use Rattle.std.specs.Prelude.{Result, Ok}
use Rattle.refusals.specs.declared.Refusal.{Refusal}
use Rattle.signed.proofs.Laws.{number_of_bits}
use Rattle.questions.specs.declared.Solution.{Solution}
use Rattle.questions.specs.declared.Solution.TheVariants.{Cannot}
use Rattle.abi.proofs.analyser_solve.Goals as goal

pub returns-in-Ok-Cannot : goal.returns-in-Ok-Cannot
returns-in-Ok-Cannot c =
    let k = c.in-Ok-Cannot in
    let outer : ◌≡◌ {A = Result Solution Refusal} c.solve-answer.result (Ok k.field-0) = k.is in
    let inner : ◌≡◌ {A = Solution} k.field-0 (Cannot k.n) = rw outer at k.field-0-is in
    let is : ◌≡◌ {A = Result Solution Refusal} c.solve-answer.result (Ok (Cannot k.n)) = outer ∙ ap (λ (x : Solution). Ok x) inner in (
      Ok (Cannot k.n),
      rw (number_of_bits _ c.ranges.value, is) at c.solve-answer.ensures.0,
      rw (number_of_bits _ c.ranges.value, is) at c.solve-answer.ensures.1,
      (refl, refl, refl, refl),
    )
