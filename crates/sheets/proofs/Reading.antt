-- Read: the ways out of the operation, each as a verdict of its whole list of checks, and the slices that it leaves.
use mathlib.Core.Path.{◌≡◌, refl, sym, ◌∙◌, ap}
use mathlib.Core.Logic.{◌⊎◌, inl}
use mathlib.Core.List.{List, [], ◌∷◌, ◌++◌}
use Prim.Native.Nat.{ℕ, ◌*◌, ◌≤◌, ◌<◌}
use native.Mathlib.Omega.{arith}
use lib.ListN.{length, get_or, take, drop, length-take}
use lib.Seq.{length-take-le, get_or-take}
use lib.IntN.{ℤ}
use Rattle.refusals.specs.Order.{Check, ◌when◌, NoneOf, FirstOf}
use Rattle.refusals.proofs.Order.{none_append, first_left, first_right, neither}
use Rattle.arrays.specs.Filled.{tabulate, filled}
use Rattle.arrays.proofs.Tabulate.{tabulate_get_d, tabulate_ext}
use Rattle.records.specs.Sheet.{edges_of}
use Rattle.sheets.specs.Open.{sheet_checks}
use Rattle.sheets.specs.Read.{read_checks}
use Rattle.sheets.proofs.Accepted.{sheet_counts, sheet_outer}
use Rattle.sheets.proofs.Opening.{opens_passed, opens_refused}

module _ (s tails rotations : List ℕ) (capacities : List ℤ) where
  abbrev short : List Check
  short = (16 when (length tails < 2 * edges_of s) ⊎ ((length rotations < 2 * edges_of s) ⊎ (length capacities < 2 * edges_of s))) ∷ []

  pub read_refused : (k p : ℕ) → FirstOf (sheet_checks s) k p → FirstOf (read_checks s tails rotations capacities) k p
  unfolding read_checks
  read_refused k p h = first_left (sheet_checks s) short k p h

  pub read_short : NoneOf (sheet_checks s) → (length tails < 2 * edges_of s) ⊎ ((length rotations < 2 * edges_of s) ⊎ (length capacities < 2 * edges_of s))
      → FirstOf (read_checks s tails rotations capacities) 16 0
  unfolding read_checks FirstOf
  read_short h t = first_right (sheet_checks s) short 16 0 h (inl (t, refl, refl))

  pub read_whole : NoneOf (sheet_checks s) → 2 * edges_of s ≤ length tails → 2 * edges_of s ≤ length rotations → 2 * edges_of s ≤ length capacities
      → NoneOf (read_checks s tails rotations capacities)
  unfolding read_checks NoneOf
  read_whole h t r c = none_append (sheet_checks s) short h (neither (λ l. omega arith) (neither (λ l. omega arith) (λ l. omega arith)), tt)

-- ── the slices as the definition says ──
-- the front of a list is the table of its first elements
pub front_copied : {A : Type 0} (n : ℕ) (l : List A) (past : A) → n ≤ length l → take n l ≡ tabulate n (λ d. get_or l d past)
front_copied n l past room =
    let size = length-take-le n l room in
    sym (tabulate_get_d n (take n l) past size) ∙ tabulate_ext n _ _ (λ d h. get_or-take n l d past h)

-- a part in front is no longer than its end says
pub part_short : {A : Type 0} (n : ℕ) (l : List A) → length (take n l) ≤ n
part_short n l = omega (arith, length-take n l)

-- the part in front was filled, and the rest is as it was
pub part_copied : {A : Type 0} (n m : ℕ) (f g : ℕ → A) (old part : List A) → n ≤ length old → n ≡ m → f ≡ g
    → part ≡ tabulate (length (take n old)) f → part ++ drop n old ≡ filled m g old
part_copied n m f g old part room e same h =
    ap (λ x. x ++ drop n old) (h ∙ ap (λ k. tabulate k f) (length-take-le n old room) ∙ ap (tabulate n) same) ∙ ap (λ k. filled k g old) e

-- what the ways out of Read stand on: what an accepted sheet has, then the refusals in order
pub ruleset read_steps = (opens_passed, opens_refused, sheet_counts, sheet_outer, read_refused, read_short)
