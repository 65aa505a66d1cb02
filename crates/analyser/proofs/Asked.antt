-- An accepted sheet with two ends that are nodes: a proving set excludes every flow of its value, and the highest answer is one. What is said of Solve, of
-- Largest and of the key rests on these two.
use mathlib.Core.Path.{◌≡◌}
use mathlib.Core.Bool.{Bool}
use mathlib.Core.List.{List}
use Prim.Native.Nat.{ℕ, ◌<◌}
use lib.IntN.{ℤ}
use Rattle.refusals.specs.Order.{NoneOf}
use Rattle.flows.specs.Settings.{Carries}
use Rattle.flows.specs.Highest.{Highest}
use Rattle.flows.specs.ProvingSet.{Proves}
use Rattle.flows.proofs.HighestFlow.{highest_unique}
use Rattle.records.specs.Sheet.{nodes_of, edges_of, capacity_of, outer_of, sheet_map, sheet_drawing}
use Rattle.sheets.specs.Open.{sheet_checks}
use Rattle.questions.specs.Question.{end_checks}
use Rattle.questions.proofs.Asked.{ends_in, ends_differ}
use Rattle.analyser.proofs.SheetPlane.{plane, outer_in}
use Rattle.analyser.proofs.OnDrawing as on

module _ (s : List ℕ) (sheet : NoneOf (sheet_checks s)) (source sink : ℕ) (two : NoneOf (end_checks (nodes_of s) source sink)) where
  pub excludes : (value : ℤ) (S : ℕ → Bool) → Proves (sheet_map s) (capacity_of s) source sink value S
      → (x : ℕ → ℤ) → Carries (sheet_map s) (capacity_of s) source sink value x → ⊥
  excludes = on.excludes (sheet_drawing s) (plane s sheet) source sink two

  pub one_highest : (value : ℤ) (x y : ℕ → ℤ) → Highest (sheet_map s) (outer_of s) (capacity_of s) source sink value x
      → Highest (sheet_map s) (outer_of s) (capacity_of s) source sink value y
      → (e : ℕ) → e < edges_of s → x e ≡ y e
  one_highest value x y =
      let e = ends_in (nodes_of s) source sink two in
      highest_unique (plane s sheet) e.0 e.1 (ends_differ (nodes_of s) source sink two) (outer_of s) (outer_in s sheet) x y
