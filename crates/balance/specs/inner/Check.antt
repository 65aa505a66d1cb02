-- Refusal 18 on given sums at the nodes. Document 01, "Operations": "18 a node other than those two off balance", with the lowest node.
use Rattle.std.specs.Prelude.{Result, ◌≢◌, List, [], ◌∷◌, ℕ, ℤ, pos}
use Rattle.refusals.specs.Order.{Check, ◌at◌when◌, in_turn, Judged}
use Rattle.refusals.specs.declared.Refusal.{Refusal}
use Rattle.flows.specs.Check.{balance_checks, EndOf, NoNode}

-- node v is not one of the two ends a and b, and its sum is not 0
abbrev pub Off : ℕ → ℕ → (ℕ → ℤ) → ℕ → Type 0
Off a b nets v = (EndOf a b v → ⊥) × (nets v ≢ pos 0)

-- 18, node by node
unfoldable pub off_checks : ℕ → ℕ → ℕ → (ℕ → ℤ) → List Check
off_checks nodes a b nets = in_turn nodes (λ v. (18 at v when Off a b nets v) ∷ [])

-- the answer of "18 for any node" on a map with these nodes, edges and tails; its rotations have no part in it
abbrev pub JudgedAll : (nodes edges : ℕ) → (ℕ → ℕ) → (ℕ → ℤ) → Result Unit Refusal → Type 0
JudgedAll nodes edges tail x r =
    (rotation : ℕ → ℕ) → Judged (balance_checks (record { nodes = nodes; edges = edges; tail = tail; rotation = rotation }) NoNode x) r
