-- One question, one answer, as C is told it: what is told follows from the answer, and the answer is one by the crates analyser and key_text.
use mathlib.Core.Path.{◌≡◌, refl, sym, ◌∙◌, ap, subst}
use mathlib.Core.Logic.{◌≢◌}
use mathlib.Core.List.{List}
use Prim.Native.Nat.{ℕ, ◌<◌}
use native.Mathlib.Omega.{arith}
use lib.ListN.{take}
use lib.IntN.{ℤ}
use Rattle.std.specs.Prelude.{Result, Ok, Err}
use Rattle.refusals.specs.declared.Refusal.{Refusal}
use Rattle.refusals.specs.Refused.{refused}
use Rattle.questions.specs.declared.Solution.{Solution}
use Rattle.questions.specs.declared.Solution.TheVariants.{Can, Cannot}
use Rattle.flows.specs.ProvingSet.{words_for}
use Rattle.arrays.specs.At.{at, atℤ}
use Rattle.arrays.proofs.FillLoops.{filled_front}
use Rattle.records.specs.Sheet.{nodes_of, edges_of, sheet_drawing}
use Rattle.questions.specs.inner.Named.{SetNamed}
use Rattle.pages.specs.Stretch.{stretch}
use Rattle.pages.specs.Page.{answer_at}
use Rattle.pages.specs.declared.Page.{Page}
use Rattle.pages.specs.Question.{question_in}
use Rattle.answer_arrays.specs.Told.{number_told, size_told}
use Rattle.analyser.specs.Solve.{solve_checks, Solves}
use Rattle.analyser.specs.Page.{page_checks, AnswersPage}
use Rattle.analyser.specs.inner.Named.{PageNamed}
use Rattle.analyser.proofs.OneAnswer.{one_answer}
use Rattle.key_text.specs.Question.{source_of, sink_of, value_of, sheet_of}
use Rattle.key_text.specs.Text.{can_text, cannot_text, refused_text}
use Rattle.key_text.specs.Key.{Prints, Writes, key_room_checks}
use Rattle.key_text.specs.OneKey.{answer_text}
use Rattle.key_text.specs.inner.Named.{KeyNamed, WriteNamed}
use Rattle.key_text.proofs.OneKey.{one_key_text}
use Rattle.abi.specs.Solve.{Told, TellsSolve}
use Rattle.abi.specs.Page.{PageTold, TellsPage}
use Rattle.abi.specs.Key.{KeyTold, TellsKey}
use Rattle.abi.specs.Statements.{OneAnswerInC}
use Rattle.abi.proofs.Numbered.{first_numbered, solve_numbered, key_numbered, page_numbered}

-- ── what is told follows from the answer ──
told_one : (r : Result Solution Refusal) (can can' can'' size size' size'' place place' place'' result other : ℕ)
    → Told r result can can' size size' place place' → Told r other can can'' size size'' place place''
    → (result ≡ other) × (can' ≡ can'') × (size' ≡ size'') × (place' ≡ place'')
told_one (Ok Can) can can' can'' size size' size'' place place' place'' result other t u =
    (t.0 ∙ sym u.0, t.1 ∙ sym u.1, t.2 ∙ sym u.2, t.3 ∙ sym u.3)
told_one (Ok (Cannot n)) can can' can'' size size' size'' place place' place'' result other t u =
    (t.0 ∙ sym u.0, t.1 ∙ sym u.1, t.2 ∙ sym u.2, t.3 ∙ sym u.3)
told_one (Err r) can can' can'' size size' size'' place place' place'' result other t u =
    (t.0 ∙ sym u.0, t.1 ∙ sym u.1, t.2 ∙ sym u.2, t.3 ∙ sym u.3)

module _ (s : List ℕ) (source sink : ℕ) (value : ℤ) (flows flows' : List ℤ) (set set' : List ℕ) where
  -- a refusal of Solve is not told as 0
  not_zero : (r : Refusal) → Solves s source sink value flows flows' set set' (Err r) → r.number ≢ 0
  not_zero r h = first_numbered (solve_checks s source sink value flows set) r.number r.place (solve_numbered s source sink value flows set) h.0

  -- what is told as "cannot" is such an answer
  told_cannot : (r : Result Solution Refusal) (can size size' place place' : ℕ) → Solves s source sink value flows flows' set set' r
      → Told r 0 can 0 size size' place place' → r ≡ Ok (Cannot size')
  told_cannot (Ok Can) can size size' place place' h t = absurd (omega (arith, t.1))
  told_cannot (Ok (Cannot n)) can size size' place place' h t = ap (λ n. Ok (Cannot n)) (sym t.2)
  told_cannot (Err r) can size size' place place' h t = absurd (not_zero r h (sym t.0))

-- ── the numbers of a page's answer, and what Solve tells of the same ──
told_number : (r : Result Solution Refusal) (can can' size size' place place' result : ℕ) → ((e : Refusal) → r ≡ Err e → e.number ≢ 0)
    → Told r result can can' size size' place place'
    → (result ≡ 0 → number_told r ≡ can') × (result ≢ 0 → number_told r ≡ result) × (result ≡ 0 → can' ≡ 0 → size_told r ≡ size')
told_number (Ok Can) can can' size size' place place' result numbered t =
    ((λ z. sym t.1), (λ n. absurd (n t.0)), (λ z c. absurd (omega (arith, t.1, c))))
told_number (Ok (Cannot m)) can can' size size' place place' result numbered t =
    ((λ z. sym t.1), (λ n. absurd (n t.0)), (λ z c. sym t.2))
told_number (Err r) can can' size size' place place' result numbered t =
    ((λ z. absurd (numbered r refl (sym t.0 ∙ z))), (λ n. sym t.0), (λ z c. absurd (numbered r refl (sym t.0 ∙ z))))

-- ── a page that is told as 0 passed ──
module _ (s : List ℕ) (count : ℕ) (sources sinks : List ℕ) (values flows flows' : List ℤ) (sets sets' answers answers' sizes sizes' : List ℕ)
    (place place' : ℕ) (told : TellsPage s count sources sinks values flows flows' sets sets' answers answers' sizes sizes' place place' 0) where
  passed : (page : Page) × AnswersPage s count (question_in sources sinks values) flows flows' sets sets' (Ok page)
      × PageNamed s count (question_in sources sinks values) sets' (Ok page) × PageTold (Ok page) count answers answers' sizes sizes' place place' 0
  passed = go told.0 told.1 told.2 told.3
    where
      go : (answer : Result Page Refusal) → AnswersPage s count (question_in sources sinks values) flows flows' sets sets' answer
          → PageNamed s count (question_in sources sinks values) sets' answer → PageTold answer count answers answers' sizes sizes' place place' 0
          → (page : Page) × AnswersPage s count (question_in sources sinks values) flows flows' sets sets' (Ok page)
          × PageNamed s count (question_in sources sinks values) sets' (Ok page) × PageTold (Ok page) count answers answers' sizes sizes' place place' 0
      go (Ok page) h named t = (page, h, named, t)
      go (Err r) h named t =
          absurd (first_numbered (page_checks s count flows sets) r.number r.place (page_numbered s count flows sets) h.0 (sym t.0))

  module _ (i : ℕ) (l : i < count) (own' : List ℤ) (set' : List ℕ) (can can' size size' place₂ place₂' result : ℕ)
      (alone : TellsSolve s (at sources i) (at sinks i) (atℤ values i) (stretch (edges_of s) i flows) own' (stretch (words_for (nodes_of s)) i sets) set'
      can can' size size' place₂ place₂' result) where
    abbrev Answered : Result Solution Refusal → Type 0
    Answered = Solves s (at sources i) (at sinks i) (atℤ values i) (stretch (edges_of s) i flows) own' (stretch (words_for (nodes_of s)) i sets) set'

    line : (answer_at passed.0 i ≡ alone.0) × (stretch (edges_of s) i flows' ≡ own') × (stretch (words_for (nodes_of s)) i sets' ≡ set')
    line =
        one_answer.same_line s count (question_in sources sinks values) flows flows' sets sets' passed.0 passed.1 passed.2 i l
        own' set' alone.0 alone.1 alone.2

    numbers : (result ≡ 0 → number_told alone.0 ≡ can') × (result ≢ 0 → number_told alone.0 ≡ result)
        × (result ≡ 0 → can' ≡ 0 → size_told alone.0 ≡ size')
    numbers =
        told_number alone.0 can can' size size' place₂ place₂' result
        (λ e is. not_zero s (at sources i) (at sinks i) (atℤ values i) (stretch (edges_of s) i flows) own' (stretch (words_for (nodes_of s)) i sets) set' e
        (subst Answered is alone.1))
        alone.3

    number_of : at answers' i ≡ number_told alone.0
    number_of = filled_front 0 count (λ j. number_told (answer_at passed.0 j)) answers answers' passed.3.1 i l ∙ ap number_told line.0

    size_of : at sizes' i ≡ size_told alone.0
    size_of = filled_front 0 count (λ j. size_told (answer_at passed.0 j)) sizes sizes' passed.3.2 i l ∙ ap size_told line.0

    same_line : (stretch (edges_of s) i flows' ≡ own') × (stretch (words_for (nodes_of s)) i sets' ≡ set')
        × (result ≡ 0 → at answers' i ≡ can') × (result ≢ 0 → at answers' i ≡ result) × (result ≡ 0 → can' ≡ 0 → at sizes' i ≡ size')
    same_line = (line.1, line.2, (λ z. number_of ∙ numbers.0 z), (λ n. number_of ∙ numbers.1 n), (λ z c. size_of ∙ numbers.2 z c))

-- ── a key that is told as 0 is written, and its length is told ──
key_written : (b text text' : List ℕ) (length length' place place' : ℕ) → TellsKey b text text' length length' place place' 0
    → Prints b text text' length' × KeyNamed b text' length'
key_written b text text' length length' place place' told = go told.0 told.1 told.2 told.3
  where
    go : (r : Result ℕ Refusal) → Writes b text text' r → WriteNamed b text' r → KeyTold r 0 length length' place place'
        → Prints b text text' length' × KeyNamed b text' length'
    go (Ok n) h named t = (subst (Prints b text text') (sym t.1) h.1, subst (KeyNamed b text') (sym t.1) named)
    go (Err r) h named t = absurd (first_numbered (key_room_checks text) r.number r.place (key_numbered text) h.0 (sym t.0))

-- ── the text of what Solve tells ──
module _ (b text' : List ℕ) (n : ℕ) (flows flows' : List ℤ) (set set' : List ℕ) (can can' size size' place place' result : ℕ) where
  told_text : (r : Result Solution Refusal) → Solves (sheet_of b) (source_of b) (sink_of b) (value_of b) flows flows' set set' r
      → Told r result can can' size size' place place' → (r ≢ refused 16 0 → take n text' ≡ answer_text b flows' set' r)
      → (result ≡ 0 → can' ≡ 1 → take n text' ≡ can_text (value_of b) (edges_of (sheet_of b)) (atℤ flows'))
      × (result ≡ 0 → can' ≡ 0 → take n text' ≡ cannot_text (value_of b) size' (nodes_of (sheet_of b)) set')
      × (result ≢ 0 → result ≢ 16 → take n text' ≡ refused_text result)
  told_text (Ok Can) h t text =
      ((λ z c. text (λ e. omega (arith, ap number_told e))), (λ z c. absurd (omega (arith, t.1, c))), (λ m o. absurd (m t.0)))
  told_text (Ok (Cannot k)) h t text = (
    (λ z c. absurd (omega (arith, t.1, c))),
    (λ z c. text (λ e. omega (arith, ap number_told e)) ∙ ap (λ j. cannot_text (value_of b) j (nodes_of (sheet_of b)) set') (sym t.2)),
    (λ m o. absurd (m t.0)),
  )
  told_text (Err r) h t text =
      let never = not_zero (sheet_of b) (source_of b) (sink_of b) (value_of b) flows flows' set set' r h in (
        (λ z c. absurd (never (sym t.0 ∙ z))),
        (λ z c. absurd (never (sym t.0 ∙ z))),
        (λ m o. text (λ e. o (t.0 ∙ ap number_told e)) ∙ ap refused_text (sym t.0)),
      )

pub one_answer_in_c : OneAnswerInC
one_answer_in_c = record {
  same_answer = λ s source sink value flows flows' flows'' set set' set'' can can' can'' size size' size'' place place' place'' result other h k.
      let one = one_answer.same_answer s source sink value flows flows' flows'' set set' set'' h.0 k.0 h.1 h.2 k.1 k.2 in
      let told = told_one k.0 can can' can'' size size' size'' place place' place'' result other
      (subst (λ r. Told r result can can' size size' place place') one.0 h.3) k.3 in
      (told.0, one.1, one.2, told.1, told.2, told.3);
  same_set = λ s source sink value flows flows' set set' can size size' place place' own own' words words' can₂ size₂ size₂' place₂ place₂' h k.
      let e = told_cannot s source sink value flows flows' set set' h.0 can size size' place place' h.1 h.3 in
      let f = told_cannot s source sink value own own' words words' k.0 can₂ size₂ size₂' place₂ place₂' k.1 k.3 in
      one_answer.same_set s source sink value flows flows' set set' size' own own' words words' size₂'
      (subst (Solves s source sink value flows flows' set set') e h.1) (subst (SetNamed (sheet_drawing s) source sink value set') e h.2)
      (subst (Solves s source sink value own own' words words') f k.1) (subst (SetNamed (sheet_drawing s) source sink value words') f k.2);
  same_line = same_line;
  same_text = λ b text text' own own' length length' length₂ length₂' place place' place₂ place₂' h k.
      let p = key_written b text text' length length' place place' h in
      let q = key_written b own own' length₂ length₂' place₂ place₂' k in
      one_key_text.same_text b text text' own own' length' length₂' p.0 p.1 q.0 q.1;
  same_key = λ b text text' length length' place place' h whole flows flows' set set' can can' size size' place₂ place₂' result k.
      let p = key_written b text text' length length' place place' h in
      told_text b text' length' flows flows' set set' can can' size size' place₂ place₂' result k.0 k.1 k.3
      (one_key_text.same_key b text text' length' p.0 p.1 whole flows flows' set set' k.0 k.1 k.2);
}
