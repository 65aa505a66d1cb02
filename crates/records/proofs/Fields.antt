-- The fields of the darts 2e and 2e + 1, as they stand in the record of edge e, and zero past the darts.
use Prim.Native.Nat.{ℕ, ◌+◌, ◌*◌, ◌/◌, ◌%◌, ◌≤◌, ◌<◌}
use mathlib.Core.Path.{◌≡◌, ap, ◌∙◌}
use mathlib.Core.Bool.{cond}
use mathlib.Core.List.{List}
use native.Mathlib.Omega.{arith}
use lib.Dec.{ltb}
use lib.IntN.{pos}
use Rattle.integers.proofs.Tests.{ltb_true, ltb_false}
use Rattle.fields.specs.Fields.{u16_at, i32_at}
use Rattle.records.specs.Check.{field_checks, edge_checks}
use Rattle.records.specs.Sheet.{nodes_of, edges_of, edge_at, tail_of, rotation_of, capacity_of, sheet_drawing}

there : {A : Type 0} (d n : ℕ) (x y : A) → d < n → cond (ltb d n) x y ≡ x
there d n x y h = rw (ltb_true d n h)

module _ (s : List ℕ) (e : ℕ) (h : e < edges_of s) where
  pub tail_even : tail_of s (2 * e) ≡ u16_at s (edge_at s e + 1)
  unfolding tail_of
  tail_even = there (2 * e) (2 * edges_of s) _ _ (omega arith) ∙ ap (u16_at s) (omega arith)

  pub tail_odd : tail_of s (2 * e + 1) ≡ u16_at s (edge_at s e + 3)
  unfolding tail_of
  tail_odd = there (2 * e + 1) (2 * edges_of s) _ _ (omega arith) ∙ ap (u16_at s) (omega arith)

  pub rotation_even : rotation_of s (2 * e) ≡ u16_at s (edge_at s e + 5)
  unfolding rotation_of
  rotation_even = there (2 * e) (2 * edges_of s) _ _ (omega arith) ∙ ap (u16_at s) (omega arith)

  pub rotation_odd : rotation_of s (2 * e + 1) ≡ u16_at s (edge_at s e + 7)
  unfolding rotation_of
  rotation_odd = there (2 * e + 1) (2 * edges_of s) _ _ (omega arith) ∙ ap (u16_at s) (omega arith)

  pub capacity_even : capacity_of s (2 * e) ≡ i32_at s (edge_at s e + 9)
  unfolding capacity_of
  capacity_even = there (2 * e) (2 * edges_of s) _ _ (omega arith) ∙ ap (i32_at s) (omega arith)

  pub capacity_odd : capacity_of s (2 * e + 1) ≡ i32_at s (edge_at s e + 13)
  unfolding capacity_of
  capacity_odd = there (2 * e + 1) (2 * edges_of s) _ _ (omega arith) ∙ ap (i32_at s) (omega arith)

  -- the checks of an edge of a sheet are those of its record's fields
  pub edge_fields : edge_checks (sheet_drawing s) e
      ≡ field_checks (nodes_of s) (edges_of s)
      (u16_at s (edge_at s e + 1)) (u16_at s (edge_at s e + 3)) (u16_at s (edge_at s e + 5)) (u16_at s (edge_at s e + 7))
      (i32_at s (edge_at s e + 9)) (i32_at s (edge_at s e + 13))
  unfolding edge_checks
  edge_fields = rw (tail_even, tail_odd, rotation_even, rotation_odd, capacity_even, capacity_odd)

-- ── past the darts ──
nowhere : {A : Type 0} (d n : ℕ) (x y : A) → n ≤ d → cond (ltb d n) x y ≡ y
nowhere d n x y h = rw (ltb_false d n h)

module _ (s : List ℕ) (d : ℕ) (h : 2 * edges_of s ≤ d) where
  pub tail_past : tail_of s d ≡ 0
  unfolding tail_of
  tail_past = nowhere d (2 * edges_of s) (u16_at s (edge_at s (d / 2) + 1 + 2 * (d % 2))) 0 h

  pub rotation_past : rotation_of s d ≡ 0
  unfolding rotation_of
  rotation_past = nowhere d (2 * edges_of s) (u16_at s (edge_at s (d / 2) + 5 + 2 * (d % 2))) 0 h

  pub capacity_past : capacity_of s d ≡ pos 0
  unfolding capacity_of
  capacity_past = nowhere d (2 * edges_of s) (i32_at s (edge_at s (d / 2) + 9 + 4 * (d % 2))) (pos 0) h
