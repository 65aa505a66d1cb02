-- Refused in the stated order: a list of checks, and the first of them whose condition holds.
-- An operation's refusals are ONE list, in the paper's order, so the order is read off the page.
use Rattle.std.specs.Prelude.{ℕ, zero, suc, ◌≡◌, ◌⊎◌, Bool, true, false, List, [], ◌∷◌, ◌++◌, Result, Ok, Err}
use Rattle.refusals.specs.declared.Refusal.{Refusal}

infix 0 ◌at◌when◌
infix 0 ◌when◌
-- `k at p when P`: where P holds, the refusal is number k at the place p
-- ("A refusal is its number, with a lowest channel (17) or node (18), else place 0")
pub data Check : Type 1 where
  ◌at◌when◌ : ℕ → ℕ → Type 0 → Check

-- `k when P`: the same at place 0 ("else place 0")
abbrev pub ◌when◌ : ℕ → Type 0 → Check
k when P = k at 0 when P

-- no check of the list holds
unfoldable pub NoneOf : List Check → Type 0
NoneOf [] = Unit
NoneOf ((j at q when P) ∷ cs) = (P → ⊥) × NoneOf cs

-- the first check of the list that holds is number k at place p: it holds, and none before it does
unfoldable pub FirstOf : List Check → ℕ → ℕ → Type 0
FirstOf [] k p = ⊥
FirstOf ((j at q when P) ∷ cs) k p = (P × (k ≡ j) × (p ≡ q)) ⊎ ((P → ⊥) × FirstOf cs k p)

-- the checks of 0, then those of 1, .., then those of n - 1 ("For each channel in turn"); its first is of the lowest
unfoldable pub in_turn : ℕ → (ℕ → List Check) → List Check
in_turn zero f = []
in_turn (suc n) f = in_turn n f ++ f n

-- the answer of a function that makes these checks: Ok where none holds, else the first that does
abbrev pub Judged : List Check → Result Unit Refusal → Type 0
Judged cs (Ok done) = NoneOf cs
Judged cs (Err r) = FirstOf cs r.number r.place

-- a test that says whether P holds
abbrev pub Decides : Type 0 → Bool → Type 0
Decides P true = P
Decides P false = P → ⊥
