-- From Solve's answer to the key: its refusals are the key's, with 16 never among them, its settings and its set are what the key prints, and the set that the
-- search named for it is the key's.
use mathlib.Core.Path.{◌≡◌, refl, sym, ap, ap₂, subst, ◌∙◌}
use mathlib.Core.Logic.{◌≢◌, ◌⊎◌, inl, inr}
use mathlib.Core.Bool.{cond}
use mathlib.Core.List.{List, [], ◌∷◌, ◌++◌}
use Prim.Native.Nat.{ℕ, zero, suc, ◌*◌, ◌/◌, ◌%◌, ◌^◌, ◌≤◌, ◌<◌}
use native.Mathlib.Omega.{arith}
use lib.Dec.{eqb}
use lib.ListN.{length, get_or, take, drop, length-append}
use lib.Seq.{take_at}
use lib.IntN.{ℤ}
use Rattle.integers.specs.inner.Limited.{Limited}
use Rattle.std.specs.Prelude.{Result, Ok, Err}
use Rattle.refusals.specs.Order.{Check, NoneOf, FirstOf}
use Rattle.refusals.specs.declared.Refusal.{Refusal}
use Rattle.refusals.proofs.Order.{none_append, append_none, append_first, first_left, first_right, first_none, neither}
use Rattle.flows.specs.ProvingSet.{words_for, member, size}
use Rattle.flows.proofs.Limits.{settings_limited}
use Rattle.flows.proofs.OnDarts.{on_darts_even}
use Rattle.records.specs.Record.{record_checks}
use Rattle.records.specs.Sheet.{nodes_of, edges_of, capacity_of, sheet_map, sheet_drawing}
use Rattle.arrays.specs.At.{atℤ}
use Rattle.sheets.specs.Open.{sheet_checks}
use Rattle.sheets.proofs.Opening.{bytes_room}
use Rattle.sheets.proofs.Accepted.{sheet_bytes, sheet_counts}
use Rattle.questions.specs.Question.{end_checks, value_checks, room_checks}
use Rattle.questions.specs.Solve.{question_checks}
use Rattle.analyser.specs.Solve.{solve_checks, Solves}
use Rattle.questions.specs.declared.Solution.{Solution}
use Rattle.questions.specs.declared.Solution.TheVariants.{Can, Cannot}
use Rattle.questions.specs.inner.Named.{NamedSet, SetNamed}
use Rattle.questions.proofs.Asked.{value_limited}
use Rattle.questions.proofs.OneAnswer as one
use Rattle.analyser.proofs.Accepted.{Accepted, accepted, solve_none}
use Rattle.analyser.proofs.SheetPlane.{capacity_small}
use Rattle.analyser.proofs.Demand3.{can_highest, set_excludes}
use Rattle.texts.specs.Decimal.{decimal}
use Rattle.texts.specs.inner.Placed.{Placed}
use Rattle.texts.proofs.Joined.{placed_front, lines_agree}
use Rattle.key_text.specs.Question.{source_of, sink_of, value_of, sheet_of, key_checks}
use Rattle.key_text.specs.Text.{node_line, can_text, cannot_line, cannot_text, refused_text}
use Rattle.key_text.specs.Key.{Key, can, cannot, refused, Prints}
use Rattle.key_text.specs.inner.Named.{NamedText, KeyNamed}
use Rattle.key_text.specs.OneKey.{answer_text}

-- a text that stands at the front of a slice, which keeps its length, is printed, and with it the set that it names
pub printed : (b t text text' : List ℕ) (n : ℕ) → Key b t → NamedText b t → Placed 0 t text text' n → length text' ≡ length text
    → Prints b text text' n × KeyNamed b text' n
printed b t text text' n k named p same =
    let long : length t ≡ n = omega (arith, p.1) in
    let whole = placed_front n t text text' p in
    let fits : n ≤ length text = omega (arith, long, same, ap length whole, length-append t (drop n text)) in
    ((t, k, long, fits, whole), subst (NamedText b) (sym (ap (take n) whole ∙ take_at t (drop n text) n long)) named)

-- what is refused names no set
refused_names : (b t : List ℕ) (k p : ℕ) → FirstOf (key_checks b) k p → NamedText b t
refused_names b t k p f none some proves = absurd (first_none (key_checks b) k p f none)

-- a question that is not refused has nine bytes
pub question_whole : (b : List ℕ) → NoneOf (record_checks b 3 0) → 9 ≤ length b
unfolding NoneOf record_checks
question_whole b h = let short : length b < 9 → ⊥ = h.1.1.0 in omega (arith, short)

-- 1 or 2, of the question
pub question_refused : (b text text' : List ℕ) (n k p : ℕ) → FirstOf (record_checks b 3 0) k p
    → Placed 0 (refused_text k) text text' n → length text' ≡ length text → Prints b text text' n × KeyNamed b text' n
unfolding key_checks
question_refused b text text' n k p f placed same =
    let first = first_left (record_checks b 3 0) _ k p f in
    printed b (refused_text k) text text' n (refused k p first refl) (refused_names b (refused_text k) k p first) placed same

-- a word that lies in front of others is still the word at its place
in-front : (xs ys : List ℕ) (i : ℕ) → i < length xs → get_or (xs ++ ys) i 0 ≡ get_or xs i 0
in-front [] ys i l = absurd (omega arith)
in-front (x ∷ xs) ys zero l = refl
in-front (x ∷ xs) ys (suc i) l = in-front xs ys i (omega arith)

member_in_front : (nodes : ℕ) (words rest : List ℕ) (v : ℕ) → length words ≡ words_for nodes → v < nodes → member (words ++ rest) v ≡ member words v
member_in_front nodes words rest v e l = ap (λ w. eqb (w / 2 ^ (v % 64) % 2) 1) (in-front words rest (v / 64) (omega (arith, e)))

-- what Solve promises of its answer
abbrev pub Answered : List ℕ → (source sink : ℕ) → ℤ → (flows flows' : List ℤ) (set set' : List ℕ) → Result Solution Refusal → Type 0
Answered s source sink value flows flows' set set' answer =
    Solves s source sink value flows flows' set set' answer × SetNamed (sheet_drawing s) source sink value set' answer

-- said of the bytes that sheet and question were read from
pub of_bytes : {s s₁ : List ℕ} {source source₁ sink sink₁ : ℕ} {value value₁ : ℤ} → s ≡ s₁ → source ≡ source₁ → sink ≡ sink₁ → value ≡ value₁
    → (flows flows' : List ℤ) (set set' : List ℕ) (answer : Result Solution Refusal)
    → Answered s source sink value flows flows' set set' answer → Answered s₁ source₁ sink₁ value₁ flows flows' set set' answer
of_bytes e₁ e₂ e₃ e₄ flows flows' set set' answer h = rw (e₁, e₂, e₃, e₄) at h

-- ── what an answered question leaves: enough to print its answer ──
module _ (s : List ℕ) (source sink : ℕ) (value : ℤ) (flows flows' : List ℤ) (set set' : List ℕ) where
  module _ (h : NoneOf (solve_checks s source sink value flows set)) where
    known : Accepted s source sink value flows set
    known = accepted s source sink value flows set h

    pub head_there : 5 ≤ length s
    head_there = (bytes_room s (sheet_bytes s known.sheet)).0

    pub few_nodes : nodes_of s ≤ 513
    few_nodes = (sheet_counts s known.sheet).1

    pub few_edges : edges_of s ≤ 512
    few_edges = (sheet_counts s known.sheet).3

    pub value_fits : Limited 600000000 value
    value_fits = value_limited value known.value_inside

  pub flows_fit : Solves s source sink value flows flows' set set' (Ok Can) → (e : ℕ) → e < edges_of s → Limited 1000000 (atℤ flows' e)
  flows_fit h e l =
      let a = accepted s source sink value flows set h.0 in
      let x = can_highest s source sink value flows flows' set set' h.0 h in
      subst (Limited 1000000) (on_darts_even (atℤ flows') e)
      (settings_limited (sheet_map s) 1000000 (capacity_of s) (atℤ flows')
      (λ d m. (capacity_small s a.sheet d m).high) x.carries.within (2 * e) (omega arith))

-- "the key's own slices are long enough, so 16 never comes"
pub no_sixteen : (s : List ℕ) (flows : List ℤ) (set : List ℕ) → 512 ≤ length flows → 9 ≤ length set → NoneOf (sheet_checks s)
    → NoneOf (room_checks (nodes_of s) (edges_of s) (length flows) (length set))
unfolding NoneOf room_checks
no_sixteen s flows set long wide h = let c = sheet_counts s h in (neither (λ l. omega (arith, c.3)) (λ l. omega (arith, c.1)), tt)

-- what the key accepts, Solve accepts
pub key_solve : (b : List ℕ) (flows : List ℤ) (set : List ℕ) → 512 ≤ length flows → 9 ≤ length set → NoneOf (key_checks b)
    → NoneOf (solve_checks (sheet_of b) (source_of b) (sink_of b) (value_of b) flows set)
unfolding key_checks
key_solve b flows set long wide h =
    let s = sheet_of b in
    let a = append_none (record_checks b 3 0) _ h in
    let c = append_none (sheet_checks s) _ a.1 in
    let d = append_none (end_checks (nodes_of s) (source_of b) (sink_of b)) (value_checks (value_of b)) c.1 in
    solve_none s (source_of b) (sink_of b) (value_of b) flows set
    (record { sheet = c.0; ends_two = d.0; value_inside = d.1; has_room = no_sixteen s flows set long wide c.0 })

module _ (b : List ℕ) (question : NoneOf (record_checks b 3 0)) (flows flows' : List ℤ) (set set' : List ℕ) where
  abbrev s : List ℕ
  s = sheet_of b

  abbrev checks : List Check
  checks = solve_checks s (source_of b) (sink_of b) (value_of b) flows set

  abbrev room : List Check
  room = room_checks (nodes_of s) (edges_of s) (length flows) (length set)

  abbrev Gives : Result Solution Refusal → Type 0
  Gives answer = Answered s (source_of b) (sink_of b) (value_of b) flows flows' set set' answer

  key_none : NoneOf checks → NoneOf (key_checks b)
  unfolding key_checks
  key_none h =
      let a = accepted s (source_of b) (sink_of b) (value_of b) flows set h in
      none_append (record_checks b 3 0) _ question
      (none_append (sheet_checks s) _ a.sheet (none_append (end_checks (nodes_of s) (source_of b) (sink_of b)) _ a.ends_two a.value_inside))

  key_first : (k p : ℕ) → (NoneOf (sheet_checks s) → FirstOf room k p → ⊥) → FirstOf checks k p → FirstOf (key_checks b) k p
  unfolding key_checks solve_checks question_checks
  key_first k p roomy f =
      first_right (record_checks b 3 0) (sheet_checks s ++ (ends ++ asked)) k p question
      (by_sheet (append_first (sheet_checks s) (ends ++ (asked ++ room)) k p f))
    where
      ends : List Check
      ends = end_checks (nodes_of s) (source_of b) (sink_of b)

      asked : List Check
      asked = value_checks (value_of b)

      by_value : NoneOf (sheet_checks s) → FirstOf asked k p ⊎ (NoneOf asked × FirstOf room k p) → FirstOf asked k p
      by_value h (inl g) = g
      by_value h (inr g) = absurd (roomy h g.1)

      by_ends : NoneOf (sheet_checks s) → FirstOf ends k p ⊎ (NoneOf ends × FirstOf (asked ++ room) k p) → FirstOf (ends ++ asked) k p
      by_ends h (inl g) = first_left ends asked k p g
      by_ends h (inr g) = first_right ends asked k p g.0 (by_value h (append_first asked room k p g.1))

      by_sheet : FirstOf (sheet_checks s) k p ⊎ (NoneOf (sheet_checks s) × FirstOf (ends ++ (asked ++ room)) k p) → FirstOf (sheet_checks s ++ (ends ++ asked))
          k p
      by_sheet (inl g) = first_left (sheet_checks s) (ends ++ asked) k p g
      by_sheet (inr g) = first_right (sheet_checks s) (ends ++ asked) k p g.0 (by_ends g.0 (append_first ends (asked ++ room) k p g.1))

  -- ── the three answers: each is a key, and names the set that the search named for it ──
  answer_can : Gives (Ok Can) → Key b (answer_text b flows' set' (Ok Can)) × NamedText b (answer_text b flows' set' (Ok Can))
  answer_can (h, a) =
      let high = can_highest s (source_of b) (sink_of b) (value_of b) flows flows' set set' h.0 h in (
        can (key_none h.0) (atℤ flows') high refl,
        λ none some proves. absurd (set_excludes s (source_of b) (sink_of b) (value_of b) flows set h.0 some proves (atℤ flows') high.carries),
      )

  answer_cannot : (n : ℕ) → Gives (Ok (Cannot n)) → Key b (answer_text b flows' set' (Ok (Cannot n))) × NamedText b (answer_text b flows' set' (Ok (Cannot n)))
  unfolding cannot_text node_line
  answer_cannot n (h, a) =
      let words = h.1.0 in
      let w = h.1.1 in
      let line : (v : ℕ) → v < nodes_of s → node_line set' v ≡ node_line words v =
      λ v l. ap (λ m. cond m (decimal v ++ (10 ∷ [])) []) (ap (λ z. member z v) w.placed ∙ member_in_front (nodes_of s) words _ v w.is_set.long l) in
      let same : cannot_text (value_of b) n (nodes_of s) set' ≡ cannot_text (value_of b) (size words) (nodes_of s) words =
      ap₂ (λ k z. cannot_line (value_of b) k ++ z) h.1.3 (lines_agree (nodes_of s) (node_line set') (node_line words) line) in (
        cannot (key_none h.0) words w.is_set h.1.2 same,
        λ none some proves. (words, w.is_set, subst (NamedSet (sheet_drawing s) (source_of b) (sink_of b) (value_of b)) (one.in-front w) a, same),
      )

  answer_refused : (r : Refusal) → (NoneOf (sheet_checks s) → FirstOf room r.number r.place → ⊥) → Gives (Err r)
      → Key b (refused_text r.number) × NamedText b (refused_text r.number)
  answer_refused r roomy (h, a) =
      let first = key_first r.number r.place roomy h.0 in
      (refused r.number r.place first refl, refused_names b (refused_text r.number) r.number r.place first)

  -- whichever it is, if it is not 16
  pub answer_key : (answer : Result Solution Refusal) → (NoneOf (sheet_checks s) → (r : Refusal) → FirstOf room r.number r.place → answer ≢ Err r)
      → Gives answer
      → Key b (answer_text b flows' set' answer) × NamedText b (answer_text b flows' set' answer)
  answer_key (Ok Can) roomy h = answer_can h
  answer_key (Ok (Cannot n)) roomy h = answer_cannot n h
  answer_key (Err r) roomy h = answer_refused r (λ sheet f. roomy sheet r f refl) h

  -- ── printed: the text that stands there is the answer's key ──
  module _ (long : 512 ≤ length flows) (wide : 9 ≤ length set) (text text' : List ℕ) (same : length text' ≡ length text) (n : ℕ) where
    given : (answer : Result Solution Refusal) → Gives answer → Placed 0 (answer_text b flows' set' answer) text text' n
        → Prints b text text' n × KeyNamed b text' n
    given answer h placed =
        let key = answer_key answer (λ sheet r f e. first_none room r.number r.place f (no_sixteen s flows set long wide sheet)) h in
        printed b (answer_text b flows' set' answer) text text' n key.0 key.1 placed same

    module _ (value : ℤ) (same_value : value ≡ value_of b) where
      pub can_printed : Gives (Ok Can) → (edges : ℕ) → edges ≡ edges_of s
          → Placed 0 (can_text value edges (atℤ flows')) text text' n → Prints b text text' n × KeyNamed b text' n
      can_printed h edges e p =
          given (Ok Can) h
          (subst (λ v. Placed 0 (can_text v (edges_of s) (atℤ flows')) text text' n) same_value
          (subst (λ k. Placed 0 (can_text value k (atℤ flows')) text text' n) e p))

      pub cannot_printed : (size : ℕ) → Gives (Ok (Cannot size)) → (nodes : ℕ) → nodes ≡ nodes_of s
          → Placed 0 (cannot_text value size nodes set') text text' n → Prints b text text' n × KeyNamed b text' n
      cannot_printed size h nodes e p =
          given (Ok (Cannot size)) h
          (subst (λ v. Placed 0 (cannot_text v size (nodes_of s) set') text text' n) same_value
          (subst (λ k. Placed 0 (cannot_text value size k set') text text' n) e p))

    pub refused_printed : (r : Refusal) → Gives (Err r)
        → Placed 0 (refused_text r.number) text text' n → Prints b text text' n × KeyNamed b text' n
    refused_printed r h placed = given (Err r) h placed
