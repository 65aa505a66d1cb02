-- What the refusals 17 and 18 refuse. Document 01, "Operations": "17 a setting outside its channel's limits; 18 a node other than those two off balance", each
-- with the lowest channel or node; in Levels from settings, "18 for any node".
use Rattle.std.specs.Prelude.{ℕ, ◌+◌, ◌*◌, ◌≡◌, ◌⊎◌, ◌≢◌, List, [], ◌∷◌, ℤ, pos, neg_ℤ, ◌<ℤ◌}
use Rattle.refusals.specs.Order.{Check, ◌at◌when◌, in_turn}
use Rattle.maps.specs.Map.{Map}
use Rattle.maps.specs.Flow.{net}
use Rattle.flows.specs.Settings.{on_darts}

-- the flow of edge e is more than its forward capacity, or against it more than its back capacity
abbrev pub Exceeds : (ℕ → ℤ) → (ℕ → ℤ) → ℕ → Type 0
Exceeds c x e = (c (2 * e) <ℤ x e) ⊎ (c (2 * e + 1) <ℤ neg_ℤ (x e))

-- 17, edge by edge
unfoldable pub within_checks : ℕ → (ℕ → ℤ) → (ℕ → ℤ) → List Check
within_checks edges c x = in_turn edges (λ e. (17 at e when Exceeds c x e) ∷ [])

-- 18, node by node, but at those that are excused
unfoldable pub balance_checks : Map → (ℕ → Type 0) → (ℕ → ℤ) → List Check
balance_checks 𝓜 Excused x = in_turn 𝓜.nodes (λ v. (18 at v when (Excused v → ⊥) × (net 𝓜 (on_darts x) v ≢ pos 0)) ∷ [])

-- Mark excuses the source and the sink, Levels from settings no node
abbrev pub EndOf : ℕ → ℕ → ℕ → Type 0
EndOf s t v = (v ≡ s) ⊎ (v ≡ t)

abbrev pub NoNode : ℕ → Type 0
NoNode v = ⊥
