-- The words and lines of the key. Document 01, "The program key": "It prints "can" and delivery, then each channel and its setting; or "cannot", delivery and
-- size, then each node of the set, rising; or "refused" and the number." One space (32) between fields, one line feed (10) after every line, the last one too.
use Rattle.std.specs.Prelude.{ℕ, cond, List, [], ◌∷◌, ◌++◌, ℤ}
use Rattle.flows.specs.ProvingSet.{member}
use Rattle.texts.specs.Decimal.{decimal, number}
use Rattle.texts.specs.Lines.{lines}

-- the bytes of "can ", "cannot " and "refused "
abbrev pub can_word : List ℕ
can_word = 99 ∷ 97 ∷ 110 ∷ 32 ∷ []

abbrev pub cannot_word : List ℕ
cannot_word = 99 ∷ 97 ∷ 110 ∷ 110 ∷ 111 ∷ 116 ∷ 32 ∷ []

abbrev pub refused_word : List ℕ
refused_word = 114 ∷ 101 ∷ 102 ∷ 117 ∷ 115 ∷ 101 ∷ 100 ∷ 32 ∷ []

-- an edge ("channel") and its flow ("setting")
unfoldable pub edge_line : ℕ → ℤ → List ℕ
edge_line e flow = decimal e ++ (32 ∷ (number flow ++ (10 ∷ [])))

unfoldable pub can_line : ℤ → List ℕ
can_line value = can_word ++ (number value ++ (10 ∷ []))

unfoldable pub can_text : ℤ → (edges : ℕ) → (ℕ → ℤ) → List ℕ
can_text value edges x = can_line value ++ lines edges (λ e. edge_line e (x e))

-- a node of the set has a line, another node none
unfoldable pub node_line : List ℕ → ℕ → List ℕ
node_line words v = cond (member words v) (decimal v ++ (10 ∷ [])) []

unfoldable pub cannot_line : ℤ → (size : ℕ) → List ℕ
cannot_line value size = cannot_word ++ (number value ++ (32 ∷ (decimal size ++ (10 ∷ []))))

unfoldable pub cannot_text : ℤ → (size nodes : ℕ) → List ℕ → List ℕ
cannot_text value size nodes words = cannot_line value size ++ lines nodes (node_line words)

unfoldable pub refused_text : ℕ → List ℕ
refused_text k = refused_word ++ (decimal k ++ (10 ∷ []))
