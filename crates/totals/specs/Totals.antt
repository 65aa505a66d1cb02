-- Totals by node on a drawing. Document 02, Job 9: "Fill a slice with the subtotal of each node of a given set in rising order, one element for each node in
-- the set, and give the total. .. Set bits past the last node are passed over. After the sheet checks, 16 means either slice is too short."
use Rattle.std.specs.Prelude.{ℕ, ◌<◌, ◌≡◌, ◌⊎◌, Bool, List, [], ◌∷◌, ◌++◌, length, drop, ℤ, Result, Ok, Err}
use Rattle.refusals.specs.Order.{Check, ◌when◌, NoneOf, FirstOf}
use Rattle.refusals.specs.declared.Refusal.{Refusal}
use Rattle.integers.specs.Sum.{count}
use Rattle.maps.specs.Map.{Map}
use Rattle.flows.specs.ProvingSet.{words_for, member}
use Rattle.totals.specs.Subtotal.{subtotal, total, listed}

-- 16: the set's slice is shorter than its words, or the other than the nodes in the set; bits past the last node are not counted
unfoldable pub total_checks : ℕ → List ℕ → List ℤ → List Check
total_checks nodes set out = (16 when (length set < words_for nodes) ⊎ (length out < count nodes (member set))) ∷ []

-- what `out` is left with: the subtotals of the nodes in S, nodes rising, in its first places, and further on what was there
abbrev pub subtotaled : Map → (ℕ → ℤ) → (ℕ → Bool) → List ℤ → List ℤ
subtotaled 𝓜 c S out = listed 𝓜.nodes S (subtotal 𝓜 c S) ++ drop (count 𝓜.nodes S) out

-- What is answered, where `checks` are the refusals in order. Ok: the subtotals are written, and the answer is their sum. Refused: the slice as it was.
abbrev pub TotalGiven : Map → (ℕ → ℤ) → List Check → (set : List ℕ) → (out out' : List ℤ) → Result ℤ Refusal → Type 0
TotalGiven 𝓜 c checks set out out' (Ok t) = NoneOf checks × (out' ≡ subtotaled 𝓜 c (member set) out) × (t ≡ total 𝓜 c (member set))
TotalGiven 𝓜 c checks set out out' (Err r) = FirstOf checks r.number r.place × (out' ≡ out)
