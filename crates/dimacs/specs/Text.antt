-- The text of a drawing. Document 02, Job 2: "problem line, the two node lines with the headgate as source first, then two arc lines per channel, forward
-- first. Nodes count from 1. .. Fields are parted by one space and each line ends in one line feed." The forward arc of edge e is dart 2e, the back arc dart
-- 2e + 1.
use Rattle.std.specs.Prelude.{ℕ, ◌+◌, List, [], ◌∷◌, ◌++◌, ℤ, pos, negsuc}
use Rattle.maps.specs.Map.{Map, darts, head}
use Rattle.texts.specs.Decimal.{decimal}
use Rattle.texts.specs.Lines.{lines}

-- "p max NODES ARCS"
unfoldable pub problem_line : (nodes arcs : ℕ) → List ℕ
problem_line nodes arcs = 112 ∷ 32 ∷ 109 ∷ 97 ∷ 120 ∷ 32 ∷ (decimal nodes ++ (32 ∷ (decimal arcs ++ (10 ∷ []))))

-- "n NODE s" of the source and "n NODE t" of the sink: 115 is s, 116 is t
unfoldable pub node_line : ℕ → (letter : ℕ) → List ℕ
node_line v letter = 110 ∷ 32 ∷ (decimal (v + 1) ++ (32 ∷ letter ∷ 10 ∷ []))

-- "The text can't hold a least flow": no capacity below zero comes to be written, since 22 has refused it
unfoldable pub natural : ℤ → ℕ
natural (pos n) = n
natural (negsuc n) = 0

-- "a FROM TO CAPACITY"
unfoldable pub arc_line : (v w : ℕ) → ℤ → List ℕ
arc_line v w c = 97 ∷ 32 ∷ (decimal (v + 1) ++ (32 ∷ (decimal (w + 1) ++ (32 ∷ (decimal (natural c) ++ (10 ∷ []))))))

unfoldable pub dimacs_text : Map → (ℕ → ℤ) → (source sink : ℕ) → List ℕ
dimacs_text 𝓜 c source sink =
    problem_line 𝓜.nodes (darts 𝓜) ++ (node_line source 115 ++ (node_line sink 116 ++ lines (darts 𝓜) (λ d. arc_line (𝓜.tail d) (head 𝓜 d) (c d))))
