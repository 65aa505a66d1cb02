-- The text of a drawing is read back as the drawing's problem.
use mathlib.Core.Path.{◌≡◌, refl, sym, ◌∙◌, ap, ap₂}
use mathlib.Core.Bool.{true}
use mathlib.Core.List.{List, [], ◌∷◌, ◌++◌, append_assoc, append-nil}
use Prim.Native.Nat.{ℕ, zero, suc, ◌+◌}
use native.Mathlib.Omega.{arith}
use lib.IntN.{ℤ}
use Rattle.maps.specs.Map.{Map, darts, head}
use Rattle.arrays.specs.Filled.{tabulate}
use Rattle.texts.specs.Decimal.{decimal}
use Rattle.texts.specs.Lines.{lines}
use Rattle.texts.specs.Numeral.{numeral}
use Rattle.texts.proofs.ReadBack.{decimal_read}
use Rattle.dimacs.specs.Problem.{Arc, Problem}
use Rattle.dimacs.specs.Reading.{pieces, not_empty, fields_of, same, with_counts, with_source, with_sink, with_arc, told, of_lines, problem_of}
use Rattle.dimacs.specs.Text.{natural, problem_line, node_line, arc_line, dimacs_text}
use Rattle.dimacs.specs.Drawn.{arc_of, drawn_problem}
use Rattle.dimacs.proofs.Parting.{free, free_append, pieces_more, decimal_free, field_more, field_last, number_more, number_last}

-- ── what a line of fields says ──
module _ (A B C : List ℕ) (later : Problem) where
  told_counts : told ((112 ∷ []) ∷ (109 ∷ 97 ∷ 120 ∷ []) ∷ A ∷ B ∷ []) later ≡ with_counts (numeral A) (numeral B) later
  unfolding told same
  told_counts = refl

  told_source : told ((110 ∷ []) ∷ A ∷ (115 ∷ []) ∷ []) later ≡ with_source (numeral A) later
  unfolding told same
  told_source = refl

  told_sink : told ((110 ∷ []) ∷ A ∷ (116 ∷ []) ∷ []) later ≡ with_sink (numeral A) later
  unfolding told same
  told_sink = refl

  told_arc : told ((97 ∷ []) ∷ A ∷ B ∷ C ∷ []) later ≡ with_arc (numeral A) (numeral B) (numeral C) later
  unfolding told same
  told_arc = refl

-- ── a line before others ──
pub line_first : (body rest : List ℕ) → free 10 body ≡ true → problem_of ((body ++ (10 ∷ [])) ++ rest) ≡ told (fields_of body) (problem_of rest)
unfolding problem_of of_lines
line_first body rest h = ap (λ r. of_lines (pieces 10 r)) (append_assoc body (10 ∷ []) rest) ∙ ap of_lines (pieces_more 10 body rest h)

number_free : (n : ℕ) → free 10 (decimal n) ≡ true
number_free = decimal_free 10 (omega arith)

pub reads_counts : (n m : ℕ) (rest : List ℕ) → problem_of (problem_line n m ++ rest) ≡ with_counts n m (problem_of rest)
unfolding problem_line free
reads_counts n m rest =
    ap (λ r. problem_of (r ++ rest)) (ap front (sym (append_assoc (decimal n) (32 ∷ decimal m) (10 ∷ []))))
    ∙ line_first body rest (free_append 10 (decimal n) (32 ∷ decimal m) (number_free n) (number_free m))
    ∙ ap (λ fs. told fs (problem_of rest)) fields
    ∙ told_counts (decimal n) (decimal m) [] (problem_of rest)
    ∙ ap₂ (λ a b. with_counts a b (problem_of rest)) (decimal_read n) (decimal_read m)
  where
    front : List ℕ → List ℕ
    front r = 112 ∷ 32 ∷ 109 ∷ 97 ∷ 120 ∷ 32 ∷ r

    body : List ℕ
    body = front (decimal n ++ (32 ∷ decimal m))

    fields : fields_of body ≡ (112 ∷ []) ∷ (109 ∷ 97 ∷ 120 ∷ []) ∷ decimal n ∷ decimal m ∷ []
    fields =
        field_more (112 ∷ []) (109 ∷ 97 ∷ 120 ∷ 32 ∷ (decimal n ++ (32 ∷ decimal m))) (omega arith) refl
        ∙ ap (λ r. (112 ∷ []) ∷ r) (field_more (109 ∷ 97 ∷ 120 ∷ []) (decimal n ++ (32 ∷ decimal m)) (omega arith) refl)
        ∙ ap (λ r. (112 ∷ []) ∷ (109 ∷ 97 ∷ 120 ∷ []) ∷ r) (number_more n (decimal m) ∙ ap (λ r. decimal n ∷ r) (number_last m))

module _ (v letter : ℕ) (rest : List ℕ) (no-feed : free 10 (letter ∷ []) ≡ true) (no-space : free 32 (letter ∷ []) ≡ true) where
  node-line : problem_of (node_line v letter ++ rest) ≡ told ((110 ∷ []) ∷ decimal (v + 1) ∷ (letter ∷ []) ∷ []) (problem_of rest)
  unfolding node_line free
  node-line =
      ap (λ r. problem_of ((110 ∷ 32 ∷ r) ++ rest)) (sym (append_assoc (decimal (v + 1)) (32 ∷ letter ∷ []) (10 ∷ [])))
      ∙ line_first body rest (free_append 10 (decimal (v + 1)) (32 ∷ letter ∷ []) (number_free (v + 1)) no-feed)
      ∙ ap (λ fs. told fs (problem_of rest)) fields
    where
      body : List ℕ
      body = 110 ∷ 32 ∷ (decimal (v + 1) ++ (32 ∷ letter ∷ []))

      fields : fields_of body ≡ (110 ∷ []) ∷ decimal (v + 1) ∷ (letter ∷ []) ∷ []
      fields =
          field_more (110 ∷ []) (decimal (v + 1) ++ (32 ∷ letter ∷ [])) (omega arith) refl
          ∙ ap (λ r. (110 ∷ []) ∷ r) (number_more (v + 1) (letter ∷ []) ∙ ap (λ r. decimal (v + 1) ∷ r) (field_last (letter ∷ []) (omega arith) no-space))

pub reads_source : (v : ℕ) (rest : List ℕ) → problem_of (node_line v 115 ++ rest) ≡ with_source (v + 1) (problem_of rest)
unfolding free
reads_source v rest =
    node-line v 115 rest refl refl
    ∙ told_source (decimal (v + 1)) [] [] (problem_of rest)
    ∙ ap (λ a. with_source a (problem_of rest)) (decimal_read (v + 1))

pub reads_sink : (v : ℕ) (rest : List ℕ) → problem_of (node_line v 116 ++ rest) ≡ with_sink (v + 1) (problem_of rest)
unfolding free
reads_sink v rest =
    node-line v 116 rest refl refl
    ∙ told_sink (decimal (v + 1)) [] [] (problem_of rest)
    ∙ ap (λ a. with_sink a (problem_of rest)) (decimal_read (v + 1))

pub reads_arc : (v w : ℕ) (c : ℤ) (rest : List ℕ)
    → problem_of (arc_line v w c ++ rest) ≡ with_arc (v + 1) (w + 1) (natural c) (problem_of rest)
unfolding arc_line free
reads_arc v w c rest =
    ap (λ r. problem_of ((97 ∷ 32 ∷ r) ++ rest)) line
    ∙ line_first body rest
    (free_append 10 (decimal (v + 1)) (32 ∷ ends) (number_free (v + 1))
    (free_append 10 (decimal (w + 1)) (32 ∷ decimal (natural c)) (number_free (w + 1)) (number_free (natural c))))
    ∙ ap (λ fs. told fs (problem_of rest)) fields
    ∙ told_arc (decimal (v + 1)) (decimal (w + 1)) (decimal (natural c)) (problem_of rest)
    ∙ ap₂ (λ a b. with_arc a b (numeral (decimal (natural c))) (problem_of rest)) (decimal_read (v + 1)) (decimal_read (w + 1))
    ∙ ap (λ k. with_arc (v + 1) (w + 1) k (problem_of rest)) (decimal_read (natural c))
  where
    ends : List ℕ
    ends = decimal (w + 1) ++ (32 ∷ decimal (natural c))

    body : List ℕ
    body = 97 ∷ 32 ∷ (decimal (v + 1) ++ (32 ∷ ends))

    line : decimal (v + 1) ++ (32 ∷ (decimal (w + 1) ++ (32 ∷ (decimal (natural c) ++ (10 ∷ []))))) ≡ (decimal (v + 1) ++ (32 ∷ ends)) ++ (10 ∷ [])
    line =
        ap (λ r. decimal (v + 1) ++ (32 ∷ r)) (sym (append_assoc (decimal (w + 1)) (32 ∷ decimal (natural c)) (10 ∷ [])))
        ∙ sym (append_assoc (decimal (v + 1)) (32 ∷ ends) (10 ∷ []))

    fields : fields_of body ≡ (97 ∷ []) ∷ decimal (v + 1) ∷ decimal (w + 1) ∷ decimal (natural c) ∷ []
    fields =
        field_more (97 ∷ []) (decimal (v + 1) ++ (32 ∷ ends)) (omega arith) refl
        ∙ ap (λ r. (97 ∷ []) ∷ r) (number_more (v + 1) ends)
        ∙ ap (λ r. (97 ∷ []) ∷ decimal (v + 1) ∷ r) (number_more (w + 1) (decimal (natural c)) ∙ ap (λ r. decimal (w + 1) ∷ r) (number_last (natural c)))

-- ── the arc lines in a row ──
with_arcs : List Arc → Problem → Problem
with_arcs l P = record { nodes = P.nodes; size = P.size; source = P.source; sink = P.sink; arcs = l ++ P.arcs }

module _ (𝓜 : Map) (c : ℕ → ℤ) where
  line_of : ℕ → List ℕ
  line_of d = arc_line (𝓜.tail d) (head 𝓜 d) (c d)

  reads_arcs : (n : ℕ) (rest : List ℕ) → problem_of (lines n line_of ++ rest) ≡ with_arcs (tabulate n (arc_of 𝓜 c)) (problem_of rest)
  unfolding lines tabulate with_arcs line_of
  reads_arcs zero rest = refl
  reads_arcs (suc n) rest =
      ap problem_of (append_assoc (lines n line_of) (line_of n) rest)
      ∙ reads_arcs n (line_of n ++ rest)
      ∙ ap (with_arcs (tabulate n (arc_of 𝓜 c))) (reads_arc (𝓜.tail n) (head 𝓜 n) (c n) rest)
      ∙ ap (λ l. record {
        nodes = (problem_of rest).nodes;
        size = (problem_of rest).size;
        source = (problem_of rest).source;
        sink = (problem_of rest).sink;
        arcs = l;
      })
      (sym (append_assoc (tabulate n (arc_of 𝓜 c)) (arc_of 𝓜 c n ∷ []) (problem_of rest).arcs))

  all_arcs : (n : ℕ) → problem_of (lines n line_of) ≡ record { nodes = 0; size = 0; source = 0; sink = 0; arcs = tabulate n (arc_of 𝓜 c) }
  unfolding problem_of of_lines pieces not_empty told same with_arcs
  all_arcs n =
      ap problem_of (sym (append-nil (lines n line_of)))
      ∙ reads_arcs n []
      ∙ ap (λ l. record { nodes = 0; size = 0; source = 0; sink = 0; arcs = l }) (append-nil (tabulate n (arc_of 𝓜 c)))

  pub reads_back : (s t : ℕ) → problem_of (dimacs_text 𝓜 c s t) ≡ drawn_problem 𝓜 c s t
  unfolding dimacs_text line_of
  reads_back s t =
      reads_counts 𝓜.nodes (darts 𝓜) (node_line s 115 ++ (node_line t 116 ++ lines (darts 𝓜) line_of))
      ∙ ap (with_counts 𝓜.nodes (darts 𝓜)) (reads_source s (node_line t 116 ++ lines (darts 𝓜) line_of))
      ∙ ap (λ P. with_counts 𝓜.nodes (darts 𝓜) (with_source (s + 1) P)) (reads_sink t (lines (darts 𝓜) line_of))
      ∙ ap (λ P. with_counts 𝓜.nodes (darts 𝓜) (with_source (s + 1) (with_sink (t + 1) P))) (all_arcs (darts 𝓜))
