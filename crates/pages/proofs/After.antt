-- A page's contract carried over: to checks that refuse alike, and to another account of each question alone.
use mathlib.Core.List.{List}
use Prim.Native.Nat.{ℕ, ◌<◌}
use lib.IntN.{ℤ}
use Rattle.std.specs.Prelude.{Result, Ok, Err}
use Rattle.refusals.specs.Order.{Check, NoneOf, FirstOf}
use Rattle.refusals.specs.declared.Refusal.{Refusal}
use Rattle.questions.specs.declared.Solution.{Solution}
use Rattle.pages.specs.Page.{Alone, Paged}
use Rattle.pages.specs.declared.Page.{Page}

module _ (checks checks' : List Check) (edges words n : ℕ) (alone alone' : ℕ → Alone)
    (none : NoneOf checks → NoneOf checks') (first : (k p : ℕ) → FirstOf checks k p → FirstOf checks' k p)
    (each : NoneOf checks → (i : ℕ) → i < n → (flows flows' : List ℤ) (set set' : List ℕ) (answer : Result Solution Refusal)
    → alone i flows flows' set set' answer → alone' i flows flows' set set' answer)
    (flows flows' : List ℤ) (sets sets' : List ℕ) where
  pub page_lines : (r : Result Page Refusal) → Paged checks edges words n alone flows flows' sets sets' r
      → Paged checks' edges words n alone' flows flows' sets sets' r
  page_lines (Ok page) h = (none h.0, h.1, (λ i l. each h.0 i l _ _ _ _ _ (h.2 i l)), h.3, h.4, h.5)
  page_lines (Err r) h = (first r.number r.place h.0, h.1, h.2)
