-- What any text means by the DIMACS form. Lines are parted by line feeds (10), the fields of a line by one or more spaces (32). The line "p max NODES ARCS"
-- gives the counts, "n NODE s" the source, "n NODE t" the sink, and each line "a FROM TO CAPACITY" an arc, in the order of the lines. Any other line, such as
-- a comment or one with another number of fields, says nothing.
use Rattle.std.specs.Prelude.{ℕ, Bool, true, false, cond, ◌&&◌, List, [], ◌∷◌, eqb}
use Rattle.texts.specs.Numeral.{numeral}
use Rattle.dimacs.specs.Problem.{Problem}

-- ── bytes parted at a byte ──
unfoldable pub on_first : ℕ → List (List ℕ) → List (List ℕ)
on_first x [] = (x ∷ []) ∷ []
on_first x (p ∷ ps) = (x ∷ p) ∷ ps

-- the pieces before, between and behind the places of b: one more than there are such places
unfoldable pub pieces : ℕ → List ℕ → List (List ℕ)
pieces b [] = [] ∷ []
pieces b (x ∷ xs) = cond (eqb x b) ([] ∷ pieces b xs) (on_first x (pieces b xs))

unfoldable pub not_empty : List (List ℕ) → List (List ℕ)
not_empty [] = []
not_empty ([] ∷ ps) = not_empty ps
not_empty ((x ∷ xs) ∷ ps) = (x ∷ xs) ∷ not_empty ps

abbrev pub fields_of : List ℕ → List (List ℕ)
fields_of line = not_empty (pieces 32 line)

-- ── words: p, max, n, s, t, a ──
unfoldable pub same : List ℕ → List ℕ → Bool
same [] [] = true
same [] (y ∷ ys) = false
same (x ∷ xs) [] = false
same (x ∷ xs) (y ∷ ys) = eqb x y && same xs ys

abbrev pub pWord : List ℕ
pWord = 112 ∷ []

abbrev pub max_word : List ℕ
max_word = 109 ∷ 97 ∷ 120 ∷ []

abbrev pub nWord : List ℕ
nWord = 110 ∷ []

abbrev pub sWord : List ℕ
sWord = 115 ∷ []

abbrev pub tWord : List ℕ
tWord = 116 ∷ []

abbrev pub aWord : List ℕ
aWord = 97 ∷ []

-- ── lines ──
abbrev pub with_counts : (nodes size : ℕ) → Problem → Problem
with_counts nodes size P = record { nodes = nodes; size = size; source = P.source; sink = P.sink; arcs = P.arcs }

abbrev pub with_source : ℕ → Problem → Problem
with_source v P = record { nodes = P.nodes; size = P.size; source = v; sink = P.sink; arcs = P.arcs }

abbrev pub with_sink : ℕ → Problem → Problem
with_sink v P = record { nodes = P.nodes; size = P.size; source = P.source; sink = v; arcs = P.arcs }

abbrev pub with_arc : (start end capacity : ℕ) → Problem → Problem
with_arc start end capacity P = record {
  nodes = P.nodes;
  size = P.size;
  source = P.source;
  sink = P.sink;
  arcs = record { start = start; end = end; capacity = capacity } ∷ P.arcs;
}

-- what the fields of a line say, before all that the later lines say
unfoldable pub told : List (List ℕ) → Problem → Problem
told [] later = later
told (w ∷ []) later = later
told (w ∷ x ∷ []) later = later
told (w ∷ x ∷ y ∷ []) later =
    cond (same w nWord && same y sWord) (with_source (numeral x) later) (cond (same w nWord && same y tWord) (with_sink (numeral x) later) later)
told (w ∷ x ∷ y ∷ z ∷ []) later =
    cond (same w pWord && same x max_word) (with_counts (numeral y) (numeral z) later)
    (cond (same w aWord) (with_arc (numeral x) (numeral y) (numeral z) later) later)
told (w ∷ x ∷ y ∷ z ∷ more ∷ fields) later = later

unfoldable pub of_lines : List (List ℕ) → Problem
of_lines [] = record { nodes = 0; size = 0; source = 0; sink = 0; arcs = [] }
of_lines (line ∷ later) = told (fields_of line) (of_lines later)

unfoldable pub problem_of : List ℕ → Problem
problem_of text = of_lines (pieces 10 text)
