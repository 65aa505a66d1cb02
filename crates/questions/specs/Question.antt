-- A question's ends, its value, and the slices that its answer needs. Document 01, "Operations": "13 either is no node; 14 they are equal" of the headgate
-- (source) and the outfall (sink); "15 delivery out of range; 16 the settings slice is shorter than the channels or the set slice than its words".
use Rattle.std.specs.Prelude.{ℕ, ◌≤◌, ◌<◌, ◌≡◌, ◌⊎◌, List, [], ◌∷◌, ◌++◌, drop, ℤ, pos, negsuc, ◌<ℤ◌}
use Rattle.refusals.specs.Order.{Check, ◌when◌}
use Rattle.flows.specs.ProvingSet.{words_for, SetOf}

unfoldable pub end_checks : ℕ → ℕ → ℕ → List Check
end_checks nodes source sink = (13 when (nodes ≤ source) ⊎ (nodes ≤ sink)) ∷ (14 when source ≡ sink) ∷ []

-- "delivery −600,000,000 to 600,000,000"; negsuc 599999999 is −600,000,000
abbrev pub ValueOutside : ℤ → Type 0
ValueOutside value = (value <ℤ negsuc 599999999) ⊎ (pos 600000000 <ℤ value)

unfoldable pub value_checks : ℤ → List Check
value_checks value = (15 when ValueOutside value) ∷ []

-- both slices are looked at, whatever the answer will be
unfoldable pub room_checks : ℕ → ℕ → (flows set : ℕ) → List Check
room_checks nodes edges flows set = (16 when (flows < edges) ⊎ (set < words_for nodes)) ∷ []

-- a set of nodes, written in as many words as they need, unused bits zero; further words of the slice are as they were
pub record SetWritten (nodes : ℕ) (words set set' : List ℕ) : Type 0 where
  pub is_set : SetOf nodes words
  pub placed : set' ≡ words ++ drop (words_for nodes) set
