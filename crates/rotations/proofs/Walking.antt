-- What a walk that passed leaves: its trees are the parts, and with the groups it is what decisions need.
use mathlib.Core.Path.{◌≡◌, sym, subst}
use mathlib.Core.List.{List}
use Prim.Native.Nat.{ℕ}
use Rattle.std.specs.Prelude.{Result, Ok, Err}
use Rattle.refusals.specs.declared.Refusal.{Refusal}
use Rattle.arrays.specs.At.{at}
use Rattle.arrays.specs.Maps.{right_of}
use Rattle.traversal.specs.inner.Forest.{Forest}
use Rattle.traversal.specs.inner.FirstCome.{FirstCome}
use Rattle.grouping.specs.Grouped.{Grouped}
use Rattle.grouping.specs.inner.InRounds.{InRounds}
use Rattle.grouping.specs.inner.Walked.{Walked}
use Rattle.rotations.specs.inner.Laying.{step_of}
use Rattle.rotations.specs.inner.Passing.{IfPassed}
use Rattle.rotations.specs.declared.Counted.{Counted}

module _ {darts outer parts : ℕ} (rotations order from : List ℕ) (𝓕 : Forest darts (at rotations) outer (at order) (at from) parts)
    (came : FirstCome (at rotations) outer (at order) (at from) darts) where
  pub walked_if : (r : Result Counted Refusal) (lefts grouped starts : List ℕ)
      → IfPassed r (λ c. (c.parts ≡ parts) × Grouped (right_of lefts) darts c.faces grouped starts
      × InRounds darts (step_of rotations) c.faces (at grouped) (at starts))
      → IfPassed r (λ c. Walked darts c.faces outer c.parts (at rotations) lefts order from grouped starts)
  walked_if (Ok c) lefts grouped starts h =
      record {
        forest = subst (Forest darts (at rotations) outer (at order) (at from)) (sym h.0) 𝓕;
        groups = h.1;
        first_come = came;
        in-rounds = h.2;
      }
  walked_if (Err r) lefts grouped starts h = tt
