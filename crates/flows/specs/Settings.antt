-- Settings. Document 01, "Faces, settings, levels": "A setting is the flow on dart 2e; the reverse dart has its negative. No dart may carry more than its
-- limit. The value is the sum over darts with tail at the headgate (000, 10.3). At other nodes but the outfall that sum is zero. Settings carry a delivery, and
-- are right for it, if they meet all this and their value is that delivery." Settings are flows of the edges here: x e is the flow of edge e, a whole number.
use Rattle.std.specs.Prelude.{ℕ, ◌/◌, ◌%◌, ◌<◌, cond, eqb, ℤ, neg_ℤ, ◌≤ℤ◌}
use Rattle.maps.specs.Map.{Map, darts}
use Rattle.maps.specs.Flow.{Circulation, Flow}

-- the flow of the darts: x e on dart 2e, its negative on dart 2e+1
unfoldable pub on_darts : (ℕ → ℤ) → ℕ → ℤ
on_darts x d = cond (eqb (d % 2) 0) (x (d / 2)) (neg_ℤ (x (d / 2)))

-- no dart carries more than its capacity ("limit")
abbrev pub Within : Map → (ℕ → ℤ) → (ℕ → ℤ) → Type 0
Within 𝓜 c x = (d : ℕ) → d < darts 𝓜 → on_darts x d ≤ℤ c d

-- x carries the value ("delivery") from s ("headgate") to t ("outfall") within the capacities c
abbrev pub Carries : Map → (ℕ → ℤ) → (s t : ℕ) → ℤ → (ℕ → ℤ) → Type 0
Carries 𝓜 c s t value x = Flow 𝓜 c s t value (on_darts x)

-- "zero sum at every node"
abbrev pub Balanced : Map → (ℕ → ℤ) → Type 0
Balanced 𝓜 x = Circulation 𝓜 (on_darts x)
