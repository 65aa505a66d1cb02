-- The first values of a function, as a list, and a slice that has them in front. Document 01, "Operations": "Extra elements in a lent slice, the sheet
-- excepted, are neither read nor written."
use Rattle.std.specs.Prelude.{ℕ, zero, suc, List, [], ◌∷◌, ◌++◌, drop}

-- f 0 ∷ .. ∷ f (n - 1) ∷ []
unfoldable pub tabulate : {A : Type 0} → ℕ → (ℕ → A) → List A
tabulate zero f = []
tabulate (suc n) f = tabulate n f ++ (f n ∷ [])

-- a slice whose first n elements are those of f, and whose others are as they were
abbrev pub filled : {A : Type 0} → ℕ → (ℕ → A) → List A → List A
filled n f old = tabulate n f ++ drop n old
