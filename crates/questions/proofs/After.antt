-- Checks in front of a question's: where none of them holds, its answer stands after them.
use mathlib.Core.List.{List, ◌++◌}
use Prim.Native.Nat.{ℕ}
use lib.IntN.{ℤ}
use Rattle.std.specs.Prelude.{Result, Ok, Err, Option, Some, None}
use Rattle.refusals.specs.Order.{Check, NoneOf}
use Rattle.refusals.specs.declared.Refusal.{Refusal}
use Rattle.refusals.proofs.Order.{none_append, first_right}
use Rattle.maps.specs.Drawing.{Drawing}
use Rattle.questions.specs.Solve.{Solved}
use Rattle.questions.specs.Largest.{LargestFound}
use Rattle.questions.specs.Mark.{Marked}
use Rattle.questions.specs.declared.Solution.{Solution}
use Rattle.questions.specs.declared.Solution.TheVariants.{Can, Cannot}

module _ (before : List Check) (passed : NoneOf before) (𝓓 : Drawing) (checks : List Check) (source sink : ℕ) where
  pub solved_after : (value : ℤ) (flows flows' : List ℤ) (set set' : List ℕ) (r : Result Solution Refusal)
      → Solved 𝓓 checks source sink value flows flows' set set' r
      → Solved 𝓓 (before ++ checks) source sink value flows flows' set set' r
  solved_after value flows flows' set set' (Ok Can) h = (none_append before checks passed h.0, h.1, h.2)
  solved_after value flows flows' set set' (Ok (Cannot n)) h = (none_append before checks passed h.0, h.1, h.2)
  solved_after value flows flows' set set' (Err r) h = (first_right before checks r.number r.place passed h.0, h.1, h.2)

  pub largest-after : (flows flows' : List ℤ) (set set' : List ℕ) (r : Result (Option ℤ) Refusal) → LargestFound 𝓓 checks source sink flows flows' set set' r
      → LargestFound 𝓓 (before ++ checks) source sink flows flows' set set' r
  largest-after flows flows' set set' (Ok (Some v)) h = (none_append before checks passed h.0, h.1, h.2)
  largest-after flows flows' set set' (Ok None) h = (none_append before checks passed h.0, h.1, h.2)
  largest-after flows flows' set set' (Err r) h = (first_right before checks r.number r.place passed h.0, h.1, h.2)

  pub marked_after : (flows : List ℤ) (r : Result ℤ Refusal) → Marked 𝓓 checks source sink flows r → Marked 𝓓 (before ++ checks) source sink flows r
  marked_after flows (Ok v) h = (none_append before checks passed h.0, h.1)
  marked_after flows (Err r) h = first_right before checks r.number r.place passed h
