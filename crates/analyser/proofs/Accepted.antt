-- What an operation's whole list of checks leaves, once none of it holds: the sheet's part, and the part of the question.
use mathlib.Core.List.{List}
use Prim.Native.Nat.{ℕ}
use lib.ListN.{length}
use lib.IntN.{ℤ}
use Rattle.refusals.specs.Order.{NoneOf}
use Rattle.refusals.proofs.Order.{none_append, append_none}
use Rattle.records.specs.Sheet.{nodes_of, edges_of, sheet_drawing}
use Rattle.sheets.specs.Open.{sheet_checks}
use Rattle.questions.specs.Solve.{question_checks}
use Rattle.questions.specs.Largest.{search_checks}
use Rattle.questions.specs.Mark.{paper_checks}
use Rattle.questions.specs.Question.{end_checks, value_checks, room_checks}
use Rattle.questions.proofs.Asked as questions
use Rattle.levels.specs.LevelsOf.{balanced_checks}
use Rattle.analyser.specs.Solve.{solve_checks}
use Rattle.analyser.specs.Largest.{largest_checks}
use Rattle.analyser.specs.Mark.{mark_checks}
use Rattle.analyser.specs.LevelsOf.{levels_checks}

-- ── Solve ──
module _ (s : List ℕ) (source sink : ℕ) (value : ℤ) (flows : List ℤ) (set : List ℕ) where
  pub record Accepted : Type 0 where
    pub sheet : NoneOf (sheet_checks s)
    pub ends_two : NoneOf (end_checks (nodes_of s) source sink)
    pub value_inside : NoneOf (value_checks value)
    pub has_room : NoneOf (room_checks (nodes_of s) (edges_of s) (length flows) (length set))

  pub accepted : NoneOf (solve_checks s source sink value flows set) → Accepted
  unfolding solve_checks
  accepted h =
      let p = append_none (sheet_checks s) _ h in
      let q = questions.accepted (nodes_of s) (edges_of s) source sink flows set value p.1 in
      record { sheet = p.0; ends_two = q.ends_two; value_inside = q.value_inside; has_room = q.has_room }

  pub solve_none : Accepted → NoneOf (solve_checks s source sink value flows set)
  unfolding solve_checks question_checks
  solve_none a =
      none_append (sheet_checks s) _ a.sheet
      (none_append (end_checks (nodes_of s) source sink) _ a.ends_two (none_append (value_checks value) _ a.value_inside a.has_room))

-- ── Largest ──
module _ (s : List ℕ) (source sink : ℕ) (flows : List ℤ) (set : List ℕ) where
  pub record Sought : Type 0 where
    pub sheet : NoneOf (sheet_checks s)
    pub ends_two : NoneOf (end_checks (nodes_of s) source sink)
    pub has_room : NoneOf (room_checks (nodes_of s) (edges_of s) (length flows) (length set))

  pub sought : NoneOf (largest_checks s source sink flows set) → Sought
  unfolding largest_checks
  sought h =
      let p = append_none (sheet_checks s) _ h in
      let q = questions.sought (nodes_of s) (edges_of s) source sink flows set p.1 in
      record { sheet = p.0; ends_two = q.ends_two; has_room = q.has_room }

  pub largest_none : Sought → NoneOf (largest_checks s source sink flows set)
  unfolding largest_checks search_checks
  largest_none a = none_append (sheet_checks s) _ a.sheet (none_append (end_checks (nodes_of s) source sink) _ a.ends_two a.has_room)

-- ── Mark ──
pub mark_parts : (s : List ℕ) (source sink : ℕ) (flows : List ℤ) → NoneOf (mark_checks s source sink flows)
    → NoneOf (sheet_checks s) × NoneOf (paper_checks (sheet_drawing s) source sink flows)
unfolding mark_checks
mark_parts s source sink flows h = append_none (sheet_checks s) _ h

-- ── Levels from settings ──
pub levels_none : (s : List ℕ) (flows levels : List ℤ) → NoneOf (sheet_checks s)
    → NoneOf (balanced_checks (sheet_drawing s) flows levels) → NoneOf (levels_checks s flows levels)
unfolding levels_checks
levels_none s flows levels h b = none_append (sheet_checks s) _ h b
