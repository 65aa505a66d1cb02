-- The outward total of a set of nodes, node by node. Document 02, Job 9: "A node's subtotal is the sum of limits of its darts whose head is outside the set."
-- A limit is a capacity here; it may be below zero, and so may a subtotal. Both darts of a loop at a node of the set have their head in it, and add nothing.
use Rattle.std.specs.Prelude.{ℕ, zero, suc, Bool, cond, not, ◌&&◌, List, [], ◌∷◌, ◌++◌, eqb, ℤ}
use Rattle.integers.specs.Sum.{sumℤ, when}
use Rattle.maps.specs.Map.{Map, darts, head}

-- the sum of c over the darts that leave v with their head outside S
unfoldable pub subtotal : Map → (ℕ → ℤ) → (ℕ → Bool) → ℕ → ℤ
subtotal 𝓜 c S v = sumℤ (darts 𝓜) (λ d. when (eqb v (𝓜.tail d) && not (S (head 𝓜 d))) (c d))

-- the sum of the subtotals of the nodes in S
unfoldable pub total : Map → (ℕ → ℤ) → (ℕ → Bool) → ℤ
total 𝓜 c S = sumℤ 𝓜.nodes (λ v. when (S v) (subtotal 𝓜 c S v))

-- the values of f at those of 0, .., n - 1 that are in S, in rising order, one element for each
unfoldable pub listed : {A : Type 0} → ℕ → (ℕ → Bool) → (ℕ → A) → List A
listed zero S f = []
listed (suc n) S f = listed n S f ++ cond (S n) (f n ∷ []) []
