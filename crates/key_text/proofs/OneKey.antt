-- The key's text is one: two keys of the same bytes that name the set of the search are the same, and one of them is the text of what Solve answers.
use mathlib.Core.Path.{◌≡◌, sym, ◌∙◌, ap, ap₂, subst}
use mathlib.Core.Logic.{◌≢◌, inl, inr}
use mathlib.Core.List.{List}
use Prim.Native.Nat.{ℕ, ◌<◌}
use native.Mathlib.Omega.{arith}
use lib.ListN.{length, take, drop}
use lib.Seq.{take_at}
use lib.IntN.{ℤ}
use Rattle.refusals.specs.Order.{NoneOf, FirstOf}
use Rattle.std.specs.Prelude.{Result, Ok, Err}
use Rattle.refusals.specs.Refused as order
use Rattle.refusals.specs.declared.Refusal.{Refusal}
use Rattle.refusals.proofs.Order.{append_none, first_none, neither}
use Rattle.flows.specs.ProvingSet.{words_for, size}
use Rattle.records.specs.Record.{record_checks}
use Rattle.records.specs.Sheet.{nodes_of, edges_of}
use Rattle.sheets.specs.Open.{sheet_checks}
use Rattle.questions.specs.Question.{room_checks}
use Rattle.questions.specs.declared.Solution.{Solution}
use Rattle.questions.proofs.OneAnswer.{words_one}
use Rattle.pages.specs.Stretch.{stretch}
use Rattle.pages.specs.Page.{answer_at}
use Rattle.pages.specs.declared.Question.{Question}
use Rattle.pages.specs.declared.Page.{Page}
use Rattle.pages.proofs.Listing.{list_accepted}
use Rattle.pages.proofs.Stretches.{ends_before, part_length}
use Rattle.analyser.specs.Page.{page_checks, AnswersPage}
use Rattle.analyser.specs.inner.Named.{PageNamed}
use Rattle.key_text.specs.Question.{source_of, sink_of, value_of, sheet_of}
use Rattle.key_text.specs.Text.{cannot_text}
use Rattle.key_text.specs.Key.{Key, can, cannot, refused, Prints}
use Rattle.key_text.specs.inner.Named.{NamedText, KeyNamed}
use Rattle.key_text.specs.OneKey.{answer_text, OneKey}
use Rattle.key_text.proofs.Answering.{Answered, answer_key}
use Rattle.key_text.proofs.Demand3.{says_can, can_one, refused_exactly}

-- ── two keys of the same bytes ──
one_key : (b t u : List ℕ) → Key b t → NamedText b t → Key b u → NamedText b u → t ≡ u
one_key b t u (can none x h e) named other named' = can_one b none t u (can none x h e) other (says_can _ _ _ t e)
one_key b t u (cannot none words k p e) named other named' =
    let a = named none words p in
    let c = named' none words p in
    a.3
    ∙ ap (λ w. cannot_text (value_of b) (size w) (nodes_of (sheet_of b)) w) (words_one a.0 c.0 a.1 c.1 a.2 c.2)
    ∙ sym c.3
one_key b t u (refused k p f e) named other named' = e ∙ sym ((refused_exactly b u other).1 k p f)

-- ── what is printed ──
module _ (b text text' : List ℕ) (n : ℕ) (prints : Prints b text text' n) where
  front : take n text' ≡ prints.0
  front = ap (take n) prints.4 ∙ take_at prints.0 (drop n text) n prints.2

  key_of : Key b (take n text')
  key_of = subst (Key b) (sym front) prints.1

  length_of : length (take n text') ≡ n
  length_of = ap length front ∙ prints.2

-- ── the key and an answer of Solve ──
text_of : (b text text' : List ℕ) (n : ℕ) → Prints b text text' n → KeyNamed b text' n → NoneOf (record_checks b 3 0)
    → (flows flows' : List ℤ) (set set' : List ℕ) (answer : Result Solution Refusal)
    → Answered (sheet_of b) (source_of b) (sink_of b) (value_of b) flows flows' set set' answer
    → ((r : Refusal) → FirstOf (room_checks (nodes_of (sheet_of b)) (edges_of (sheet_of b)) (length flows) (length set)) r.number r.place → answer ≢ Err r)
    → take n text' ≡ answer_text b flows' set' answer
text_of b text text' n prints named whole flows flows' set set' answer h roomy =
    let own = answer_key b whole flows flows' set set' answer (λ sheet. roomy) h in
    one_key b (take n text') (answer_text b flows' set' answer) (key_of b text text' n prints) named own.0 own.1

-- too short a slice is 16
is_sixteen : (nodes edges flows set : ℕ) (r : Refusal) → FirstOf (room_checks nodes edges flows set) r.number r.place
    → ◌≡◌ {A = Result Solution Refusal} (Err r) (order.refused 16 0)
unfolding FirstOf room_checks
is_sixteen nodes edges flows set r (inl h) = ap₂ order.refused h.1 h.2
is_sixteen nodes edges flows set r (inr h) = absurd h.1

-- ── and a question of a page ──
module _ (s : List ℕ) (many : ℕ) (question : ℕ → Question) (flows flows' : List ℤ) (sets sets' : List ℕ) (page : Page)
    (answers : AnswersPage s many question flows flows' sets sets' (Ok page)) (i : ℕ) (below : i < many) where
  -- what the page's 16 looked at is enough for its stretches
  stretch_room : NoneOf (page_checks s many flows sets)
      → NoneOf (room_checks (nodes_of s) (edges_of s) (length (stretch (edges_of s) i flows)) (length (stretch (words_for (nodes_of s)) i sets)))
  unfolding page_checks room_checks NoneOf
  stretch_room none =
      let room = list_accepted (nodes_of s) (edges_of s) many flows sets (append_none (sheet_checks s) _ none).1 in
      let f = part_length (edges_of s) i flows (omega (arith, room.1, ends_before (edges_of s) i many below)) in
      let g = part_length (words_for (nodes_of s)) i sets (omega (arith, room.2, ends_before (words_for (nodes_of s)) i many below)) in
      (neither (λ l. omega (arith, f)) (λ l. omega (arith, g)), tt)

  line_answered : PageNamed s many question sets' (Ok page) → (q : Question) → question i ≡ q
      → Answered s q.source q.sink q.value (stretch (edges_of s) i flows) (stretch (edges_of s) i flows')
      (stretch (words_for (nodes_of s)) i sets) (stretch (words_for (nodes_of s)) i sets') (answer_at page i)
  line_answered named q asked =
      subst (λ (q : Question). Answered s q.source q.sink q.value (stretch (edges_of s) i flows) (stretch (edges_of s) i flows')
      (stretch (words_for (nodes_of s)) i sets) (stretch (words_for (nodes_of s)) i sets') (answer_at page i)) asked
      (answers.2 i below, named i below)

  line_roomy : (r : Refusal)
      → FirstOf (room_checks (nodes_of s) (edges_of s) (length (stretch (edges_of s) i flows)) (length (stretch (words_for (nodes_of s)) i sets)))
      r.number r.place
      → answer_at page i ≢ Err r
  line_roomy r first e = first_none _ r.number r.place first (stretch_room answers.0)

pub one_key_text : OneKey
one_key_text = record {
  same_text = λ b text text' own own' n m p a q c.
      let same = one_key b (take n text') (take m own') (key_of b text text' n p) a (key_of b own own' m q) c in
      (sym (length_of b text text' n p) ∙ ap length same ∙ length_of b own own' m q, same);
  same_key = λ b text text' n p a whole flows flows' set set' answer h named unless.
      text_of b text text' n p a whole flows flows' set set' answer (h, named) (λ r f e. unless (e ∙ is_sixteen _ _ _ _ r f));
  same_line_key = λ b text text' n p a whole many question flows flows' sets sets' page answers named i l asked.
      text_of b text text' n p a whole _ _ _ _ (answer_at page i)
      (line_answered (sheet_of b) many question flows flows' sets sets' page answers i l named _ asked)
      (line_roomy (sheet_of b) many question flows flows' sets sets' page answers i l);
}
