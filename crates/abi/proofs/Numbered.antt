-- Every check of every operation has a number that is not 0, so that no refusal is told as 0, and not 11.
use Prim.Native.Nat.{ℕ, zero, suc}
use mathlib.Core.Path.{◌≡◌, refl, sym, ◌∙◌, ap}
use mathlib.Core.Logic.{◌≢◌, inl, inr}
use mathlib.Core.Bool.{Bool, true, false, cond, true≢false}
use mathlib.Core.List.{List, [], ◌∷◌, ◌++◌}
use lib.Dec.{eqb}
use lib.IntN.{ℤ}
use Rattle.refusals.specs.Order.{Check, ◌at◌when◌, FirstOf, in_turn}
use Rattle.maps.specs.Map.{Map}
use Rattle.flows.specs.Check.{within_checks, balance_checks}
use Rattle.rotations.specs.MapChecks.{map_checks}
use Rattle.records.specs.Record.{record_checks}
use Rattle.maps.specs.Drawing.{Drawing}
use Rattle.records.specs.Check.{number_checks, field_checks, edge_checks}
use Rattle.records.specs.Sheet.{head_record_checks, head_checks, edge_record_checks, byte_checks, edges_of, capacity_of}
use Rattle.sheets.specs.Open.{sheet_checks}
use Rattle.sheets.specs.Read.{read_checks}
use Rattle.sheets.specs.Write.{drawing_checks, write_checks}
use Rattle.levels.specs.Level.{level_checks}
use Rattle.questions.specs.Question.{end_checks, value_checks, room_checks}
use Rattle.questions.specs.Solve.{question_checks}
use Rattle.questions.specs.Largest.{search_checks}
use Rattle.questions.specs.Mark.{paper_checks}
use Rattle.levels.specs.LevelsOf.{balanced_checks}
use Rattle.levels.specs.SettingsOf.{leveled_checks}
use Rattle.analyser.specs.Solve.{solve_checks}
use Rattle.analyser.specs.Largest.{largest_checks}
use Rattle.ranges.specs.Range.{span_checks}
use Rattle.raising.specs.Raise.{limit_checks}
use Rattle.raising.specs.Raise as raise
use Rattle.analyser.specs.Range.{range_checks}
use Rattle.desk.specs.Class.{class_checks, examine_checks}
use Rattle.analyser.specs.Raise.{raise_checks}
use Rattle.capture.specs.Entry.{begun, entry_checks}
use Rattle.capture.specs.Capture.{window_checks, records_checks, limits_checks, taking_checks, last_checks, capture_checks}
use Rattle.analyser.specs.After.{after_checks}
use Rattle.pages.specs.Page.{list_checks}
use Rattle.analyser.specs.Page.{page_checks}
use Rattle.analyser.specs.Mark.{mark_checks}
use Rattle.analyser.specs.LevelsOf.{levels_checks}
use Rattle.analyser.specs.SettingsOf.{settings_checks}
use Rattle.totals.specs.Totals.{total_checks}
use Rattle.analyser.specs.Totals.{totals_checks}
use Rattle.key_text.specs.Question.{sheet_of, key_checks}
use Rattle.key_text.specs.Key.{key_room_checks}
use Rattle.practice.specs.Practice.{practice_checks}
use Rattle.dimacs.specs.Write.{text_checks}
use Rattle.analyser.specs.Dimacs.{dimacs_checks}
use Rattle.sessions.specs.Ask as left
use Rattle.parties.specs.Shared.{Shared}
use Rattle.parties.specs.Calls.{ask_checks, commit_checks}

-- ── lists of checks whose numbers are neither 0 nor 11 ──
-- of a numeral this is computed
unfoldable pub given : ℕ → Bool
given k = cond (eqb k 0) false (cond (eqb k 11) false true)

unfoldable pub Numbered : List Check → Type 0
Numbered [] = Unit
Numbered ((j at q when P) ∷ cs) = (given j ≡ true) × Numbered cs

first_given : (cs : List Check) (k p : ℕ) → Numbered cs → FirstOf cs k p → given k ≡ true
unfolding Numbered FirstOf
first_given [] k p n h = absurd h
first_given ((j at q when P) ∷ cs) k p n (inl h) = ap given h.1 ∙ n.0
first_given ((j at q when P) ∷ cs) k p n (inr h) = first_given cs k p n.1 h.1

pub first_numbered : (cs : List Check) (k p : ℕ) → Numbered cs → FirstOf cs k p → k ≢ 0
unfolding given
first_numbered cs k p n h e = true≢false (sym (first_given cs k p n h) ∙ ap given e)

pub never_eleven : (cs : List Check) → Numbered cs → (p : ℕ) → FirstOf cs 11 p → ⊥
unfolding given
never_eleven cs n p h = true≢false (sym (first_given cs 11 p n h))

pub numbered_append : (xs ys : List Check) → Numbered xs → Numbered ys → Numbered (xs ++ ys)
unfolding Numbered
numbered_append [] ys m n = n
numbered_append ((j at q when P) ∷ xs) ys m n = (m.0, numbered_append xs ys m.1 n)

pub numbered_in_turn : (n : ℕ) (f : ℕ → List Check) → ((i : ℕ) → Numbered (f i)) → Numbered (in_turn n f)
unfolding Numbered in_turn
numbered_in_turn zero f h = tt
numbered_in_turn (suc n) f h = numbered_append (in_turn n f) (f n) (numbered_in_turn n f h) (h n)

-- ── the checks of each operation ──
record_numbered : (s : List ℕ) (kind start : ℕ) → Numbered (record_checks s kind start)
unfolding given Numbered record_checks
record_numbered s kind start = (refl, (refl, (refl, tt)))

field_numbered : (𝓓 : Drawing) (e : ℕ) → Numbered (edge_checks 𝓓 e)
unfolding given Numbered edge_checks field_checks
field_numbered 𝓓 e = (refl, (refl, (refl, (refl, tt))))

map_numbered : (𝓜 : Map) → Numbered (map_checks 𝓜)
unfolding given Numbered map_checks
map_numbered 𝓜 = (refl, (refl, (refl, tt)))

edge_numbered : (s : List ℕ) (e : ℕ) → Numbered (edge_record_checks s e)
unfolding edge_record_checks
edge_numbered s e = numbered_append (record_checks s 2 _) _ (record_numbered s 2 _) (field_numbered _ e)

head_numbered : (s : List ℕ) → Numbered (head_checks s)
unfolding given Numbered head_checks head_record_checks number_checks
head_numbered s = (refl, (refl, (refl, (refl, (refl, tt)))))

pub sheet_numbered : (s : List ℕ) → Numbered (sheet_checks s)
unfolding given Numbered sheet_checks byte_checks
sheet_numbered s =
    numbered_append (byte_checks s) _
    (numbered_append (head_checks s) _
    (head_numbered s)
    (numbered_append (in_turn (edges_of s) (edge_record_checks s)) _ (numbered_in_turn (edges_of s) (edge_record_checks s) (edge_numbered s)) (refl, tt)))
    (map_numbered _)

drawing_numbered : (𝓓 : Drawing) → Numbered (drawing_checks 𝓓)
unfolding given Numbered drawing_checks number_checks
drawing_numbered 𝓓 = (
  refl,
  (
    refl,
    numbered_append (in_turn 𝓓.map.edges (edge_checks 𝓓)) _ (numbered_in_turn 𝓓.map.edges (edge_checks 𝓓) (field_numbered 𝓓)) (map_numbered _),
  ),
)

within_numbered : (edges : ℕ) (c x : ℕ → ℤ) → Numbered (within_checks edges c x)
unfolding given Numbered within_checks
within_numbered edges c x = numbered_in_turn edges _ (λ e. (refl, tt))

balance_numbered : (𝓜 : Map) (Excused : ℕ → Type 0) (x : ℕ → ℤ) → Numbered (balance_checks 𝓜 Excused x)
unfolding given Numbered balance_checks
balance_numbered 𝓜 Excused x = numbered_in_turn 𝓜.nodes _ (λ v. (refl, tt))

pub read_numbered : (s tails rotations : List ℕ) (capacities : List ℤ) → Numbered (read_checks s tails rotations capacities)
unfolding given Numbered read_checks
read_numbered s tails rotations capacities = numbered_append (sheet_checks s) _ (sheet_numbered s) (refl, tt)

pub write_numbered : (nodes outer : ℕ) (tails rotations : List ℕ) (capacities : List ℤ) (sheet : List ℕ)
    → Numbered (write_checks nodes outer tails rotations capacities sheet)
unfolding given Numbered write_checks
write_numbered nodes outer tails rotations capacities sheet = (refl, numbered_append (drawing_checks _) _ (drawing_numbered _) (refl, tt))

pub solve_numbered : (s : List ℕ) (source sink : ℕ) (value : ℤ) (flows : List ℤ) (set : List ℕ) → Numbered (solve_checks s source sink value flows set)
unfolding given Numbered solve_checks question_checks end_checks value_checks room_checks
solve_numbered s source sink value flows set =
    numbered_append (sheet_checks s) _ (sheet_numbered s) (refl, (refl, (refl, (refl, tt))))

pub largest_numbered : (s : List ℕ) (source sink : ℕ) (flows : List ℤ) (set : List ℕ) → Numbered (largest_checks s source sink flows set)
unfolding given Numbered largest_checks search_checks end_checks room_checks
largest_numbered s source sink flows set = numbered_append (sheet_checks s) _ (sheet_numbered s) (refl, (refl, (refl, tt)))

pub range_numbered : (s : List ℕ) (source sink : ℕ) (low : List ℤ) (below : List ℕ) (high : List ℤ) (above : List ℕ)
    → Numbered (range_checks s source sink low below high above)
unfolding given Numbered range_checks span_checks end_checks room_checks
range_numbered s source sink low below high above =
    numbered_append (sheet_checks s) _ (sheet_numbered s) (refl, (refl, (refl, (refl, tt))))

-- of a capture: 26, its records in turn, 6 and 7 in turn, then 13, 14 and 16
entry_numbered : (edges : ℕ) (b : List ℕ) (i : ℕ) → Numbered (entry_checks edges b i)
unfolding given Numbered entry_checks
entry_numbered edges b i = (refl, (refl, (refl, (refl, tt))))

taking_numbered : (edges : ℕ) (c : ℕ → ℤ) (b : List ℕ) (w n : ℕ) → Numbered (taking_checks edges c b w n)
unfolding given Numbered taking_checks window_checks records_checks limits_checks
taking_numbered edges c b w n = (
  refl,
  numbered_append (records_checks edges b) _
      (numbered_in_turn (begun b) (entry_checks edges b) (entry_numbered edges b))
      (numbered_in_turn edges _ (λ e. (refl, (refl, tt)))),
)

pub after_numbered : (s b : List ℕ) (w n source sink : ℕ) (limits flows : List ℤ) (set : List ℕ)
    → Numbered (after_checks s b w n source sink limits flows set)
unfolding given Numbered after_checks capture_checks last_checks end_checks
after_numbered s b w n source sink limits flows set =
    numbered_append (sheet_checks s) _ (sheet_numbered s)
    (numbered_append (taking_checks (edges_of s) (capacity_of s) b w n) _ (taking_numbered (edges_of s) (capacity_of s) b w n)
    (refl, (refl, (refl, tt))))

pub raise_numbered : (s : List ℕ) (source sink : ℕ) (value : ℤ) (edge : ℕ) (flows : List ℤ) (set : List ℕ)
    → Numbered (raise_checks s source sink value edge flows set)
unfolding given Numbered raise_checks limit_checks end_checks value_checks raise.edge_checks room_checks
raise_numbered s source sink value edge flows set =
    numbered_append (sheet_checks s) _ (sheet_numbered s) (refl, (refl, (refl, (refl, (refl, tt)))))

pub page_numbered : (s : List ℕ) (n : ℕ) (flows : List ℤ) (sets : List ℕ) → Numbered (page_checks s n flows sets)
unfolding given Numbered page_checks list_checks
page_numbered s n flows sets = numbered_append (sheet_checks s) _ (sheet_numbered s) (refl, (refl, tt))

pub mark_numbered : (s : List ℕ) (source sink : ℕ) (flows : List ℤ) → Numbered (mark_checks s source sink flows)
unfolding given Numbered mark_checks paper_checks end_checks
mark_numbered s source sink flows =
    numbered_append (sheet_checks s) _ (sheet_numbered s)
    (refl, (refl, (refl, numbered_append (within_checks _ _ _) _ (within_numbered _ _ _) (balance_numbered _ _ _))))

pub levels_numbered : (s : List ℕ) (flows levels : List ℤ) → Numbered (levels_checks s flows levels)
unfolding given Numbered levels_checks balanced_checks
levels_numbered s flows levels =
    numbered_append (sheet_checks s) _ (sheet_numbered s) (refl, numbered_append (within_checks _ _ _) _ (within_numbered _ _ _) (balance_numbered _ _ _))

pub settings_numbered : (s : List ℕ) (levels flows : List ℤ) → Numbered (settings_checks s levels flows)
unfolding given Numbered settings_checks leveled_checks level_checks
settings_numbered s levels flows = numbered_append (sheet_checks s) _ (sheet_numbered s) (refl, (refl, (refl, within_numbered _ _ _)))

pub totals_numbered : (s set : List ℕ) (out : List ℤ) → Numbered (totals_checks s set out)
unfolding given Numbered totals_checks total_checks
totals_numbered s set out = numbered_append (sheet_checks s) _ (sheet_numbered s) (refl, tt)

pub examine_numbered : (s : List ℕ) (source sink : ℕ) (value : ℤ) (n kinds settings sets points : ℕ)
    → Numbered (examine_checks s source sink value n kinds settings sets points)
unfolding given Numbered examine_checks class_checks end_checks value_checks
examine_numbered s source sink value n kinds settings sets points =
    numbered_append (sheet_checks s) _ (sheet_numbered s) (refl, (refl, (refl, (refl, (refl, tt)))))

pub printed_numbered : (b : List ℕ) → Numbered (key_checks b)
unfolding given Numbered key_checks end_checks value_checks
printed_numbered b =
    numbered_append (record_checks b 3 0) _ (record_numbered b 3 0)
    (numbered_append (sheet_checks (sheet_of b)) _ (sheet_numbered (sheet_of b)) (refl, (refl, (refl, tt))))

pub key_numbered : (text : List ℕ) → Numbered (key_room_checks text)
unfolding given Numbered
key_numbered text = (refl, tt)

pub practice_numbered : (rows columns seed : ℕ) (sheet : List ℕ) → Numbered (practice_checks rows columns seed sheet)
unfolding given Numbered practice_checks
practice_numbered rows columns seed sheet = (refl, (refl, tt))

pub dimacs_numbered : (s : List ℕ) (source sink : ℕ) (text : List ℕ) → Numbered (dimacs_checks s source sink text)
unfolding given Numbered dimacs_checks text_checks end_checks
dimacs_numbered s source sink text =
    numbered_append (sheet_checks s) _ (sheet_numbered s) (refl, (refl, (refl, (refl, tt))))

pub ask_numbered : (𝓓 : Drawing) (standing party source sink : ℕ) (value : ℤ) (flows : List ℤ) (set : List ℕ)
    → Numbered (ask_checks 𝓓 standing party source sink value flows set)
unfolding given Numbered ask_checks left.ask_checks value_checks room_checks
ask_numbered 𝓓 standing party source sink value flows set = (refl, (refl, (refl, (refl, (refl, (refl, tt))))))

pub commit_numbered : (S : Shared) (p : ℕ) → Numbered (commit_checks S p)
unfolding given Numbered commit_checks
commit_numbered S p = (refl, (refl, (refl, (refl, tt))))
