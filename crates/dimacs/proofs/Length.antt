-- How long the text is: each line by its numbers, the whole by its lines; and at most 18,463 bytes where there are at most 999 nodes and 512 edges and no
-- capacity is above 1,000,000.
use mathlib.Core.Path.{◌≡◌, ◌∙◌, ap}
use mathlib.Core.List.{List, [], ◌∷◌, ◌++◌}
use Prim.Native.Nat.{ℕ, ◌+◌, ◌≤◌, ◌<◌}
use native.Mathlib.Omega.{arith}
use lib.ListN.{length, length-append}
use lib.IntN.{ℤ}
use Rattle.maps.specs.Map.{Map, darts, head}
use Rattle.maps.specs.Check.{InRange}
use Rattle.maps.proofs.Darts.{rev_in}
use Rattle.maps.specs.Dart.{rev}
use Rattle.texts.specs.Decimal.{decimal}
use Rattle.texts.specs.Lines.{lines}
use Rattle.texts.proofs.Length.{decimal_length}
use Rattle.texts.proofs.Joined.{lines_length}
use Rattle.dimacs.specs.Text.{natural, problem_line, node_line, arc_line, dimacs_text}

abbrev pub long : ℕ → ℕ
long n = length (decimal n)

-- digits that were counted: of the number meant, and at most ten
pub counted : {n m r : ℕ} → r ≡ long n → n ≡ m → n < 4294967296 → (r ≡ long m) × (r ≤ 10)
counted {n} e same h = (e ∙ ap long same, omega (arith, e, decimal_length 9 n (omega arith)))

-- ── each line ──
pub problem_length : (n m : ℕ) → length (problem_line n m) ≡ long n + long m + 8
unfolding problem_line
problem_length n m = omega (arith, length-append (decimal n) (32 ∷ (decimal m ++ (10 ∷ []))), length-append (decimal m) (10 ∷ []))

pub node_length : (v which : ℕ) → length (node_line v which) ≡ long (v + 1) + 5
unfolding node_line
node_length v which = omega (arith, length-append (decimal (v + 1)) (32 ∷ which ∷ 10 ∷ []))

pub arc_length : (v w : ℕ) (c : ℤ) → length (arc_line v w c) ≡ long (v + 1) + long (w + 1) + long (natural c) + 5
unfolding arc_line
arc_length v w c =
    omega (
      arith,
      length-append (decimal (v + 1)) (32 ∷ (decimal (w + 1) ++ (32 ∷ (decimal (natural c) ++ (10 ∷ []))))),
      length-append (decimal (w + 1)) (32 ∷ (decimal (natural c) ++ (10 ∷ []))),
      length-append (decimal (natural c)) (10 ∷ []),
    )

-- ── the text ──
module _ (𝓜 : Map) (c : ℕ → ℤ) (s t : ℕ) where
  abbrev line : ℕ → List ℕ
  line d = arc_line (𝓜.tail d) (head 𝓜 d) (c d)

  pub text_lines : length (dimacs_text 𝓜 c s t)
      ≡ length (problem_line 𝓜.nodes (darts 𝓜)) + (length (node_line s 115) + (length (node_line t 116) + length (lines (darts 𝓜) line)))
  unfolding dimacs_text
  text_lines =
      let arcs = lines (darts 𝓜) line in
      omega (
        arith,
        length-append (problem_line 𝓜.nodes (darts 𝓜)) (node_line s 115 ++ (node_line t 116 ++ arcs)),
        length-append (node_line s 115) (node_line t 116 ++ arcs),
        length-append (node_line t 116) arcs,
      )

  pub text_length : length (dimacs_text 𝓜 c s t) ≡ long 𝓜.nodes + long (darts 𝓜) + 8 + (long (s + 1) + long (t + 1) + 10) + length (lines (darts 𝓜) line)
  text_length = omega (arith, text_lines, problem_length 𝓜.nodes (darts 𝓜), node_length s 115, node_length t 116)

  pub text_short : InRange 𝓜 → 𝓜.nodes ≤ 999 → 𝓜.edges ≤ 512 → s < 𝓜.nodes → t < 𝓜.nodes
      → ((d : ℕ) → d < darts 𝓜 → natural (c d) ≤ 1000000) → length (dimacs_text 𝓜 c s t) ≤ 18463
  text_short range few short s_in t_in small =
      omega (
        arith,
        text_length,
        three 𝓜.nodes few,
        decimal_length 3 (darts 𝓜) (omega arith),
        three (s + 1) (omega arith),
        three (t + 1) (omega arith),
        lines_length 18 (darts 𝓜) line each,
      )
    where
      three : (n : ℕ) → n ≤ 999 → long n ≤ 3
      three n h = decimal_length 2 n (omega arith)

      each : (d : ℕ) → d < darts 𝓜 → length (line d) ≤ 18
      each d l =
          omega (
            arith,
            arc_length (𝓜.tail d) (head 𝓜 d) (c d),
            three (𝓜.tail d + 1) (omega (arith, range.tail_in d l)),
            three (head 𝓜 d + 1) (omega (arith, range.tail_in (rev d) (rev_in 𝓜.edges d l))),
            decimal_length 6 (natural (c d)) (omega (arith, small d l)),
          )
