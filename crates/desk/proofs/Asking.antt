-- What the operations' contracts and printed statements say to the desk, which lends them slices that are long enough: no answer of theirs is a refusal then.
use mathlib.Core.Path.{◌≡◌, refl, sym, ◌∙◌, ap, ap₂, subst}
use mathlib.Core.Logic.{◌⊎◌, inl, inr}
use mathlib.Core.Bool.{Bool, cond, ◌&&◌}
use mathlib.Core.List.{List, ◌++◌}
use Prim.Native.Nat.{ℕ, ◌+◌, ◌*◌, ◌≤◌, ◌<◌}
use native.Mathlib.Omega.{arith}
use lib.Dec.{ltb, lt→ltb}
use lib.ListN.{length, replicate, length-replicate}
use lib.IntN.{ℤ, pos, neg_ℤ, ◌+ℤ◌}
use lib.Signed.{◌<ℤ◌}
use Rattle.integers.specs.Sum.{count, bit}
use Rattle.integers.proofs.Tests.{of_T}
use Rattle.integers.proofs.Counting.{bit_le, sum_le_size}
use Rattle.refusals.specs.Order.{NoneOf, FirstOf, Judged}
use Rattle.refusals.specs.declared.Refusal.{Refusal}
use Rattle.std.specs.Prelude.{Option, Some, None, Result, Ok, Err}
use Rattle.refusals.proofs.Order.{none_append, append_none, first_left, first_right, append_first, first_none, neither}
use Rattle.maps.specs.Cut.{cut}
use Rattle.flows.specs.ProvingSet.{bound, words_for, member}
use Rattle.arrays.specs.At.{atℤ}
use Rattle.records.specs.Check.{number_checks}
use Rattle.records.specs.Sheet.{nodes_of, edges_of, capacity_of, outer_of, sheet_map, head_record_checks, head_checks, byte_checks}
use Rattle.sheets.specs.Open.{sheet_checks}
use Rattle.questions.specs.Question.{end_checks, value_checks, room_checks}
use Rattle.questions.specs.Largest.{search_checks}
use Rattle.totals.specs.Totals.{total_checks}
use Rattle.analyser.specs.Largest.{largest_checks, FindsLargest}
use Rattle.analyser.specs.Mark.{Marks}
use Rattle.analyser.specs.Totals.{totals_checks, GivesTotals}
use Rattle.analyser.specs.Statements.{Delivers, ProvesOf}
use Rattle.analyser.proofs.Statements.{settings_and_levels, possible_and_impossible}
use Rattle.analyser.proofs.ByNode.{totals_by_node}
use Rattle.desk.specs.Paper.{nodes_in, Earns, IsLargest, LastSix, Points}
use Rattle.desk.specs.Class.{class_checks, examine_checks, Examines}
use Rattle.desk.specs.declared.ClassFigures.{ClassFigures}
use Rattle.desk.specs.inner.Judged.{ProvesBy, LastSixBy}
use Rattle.desk.specs.inner.Asked.{Asked}
use Rattle.desk.proofs.Judging.{earns_by, earns_at_most, judged_at_most}

-- ── the counts of an accepted sheet: 3 does not hold ──
pub counts_fit : (s : List ℕ) → NoneOf (sheet_checks s) → (nodes_of s ≤ 513) × (edges_of s ≤ 512)
unfolding sheet_checks byte_checks head_checks number_checks NoneOf
counts_fit s none =
    let head = (append_none (head_checks s) _ (append_none (byte_checks s) _ none).0).0 in
    let three = (append_none (head_record_checks s) (number_checks (nodes_of s) (edges_of s) (outer_of s)) head).1.0 in
    let nodes : 513 < nodes_of s → ⊥ = λ l. three (inl (inr l)) in
    let edges : 512 < edges_of s → ⊥ = λ l. three (inr (inr l)) in
    (omega (arith, nodes), omega (arith, edges))

pub few_words : (nodes : ℕ) → nodes ≤ 513 → words_for nodes ≤ 9
few_words nodes l = omega arith

-- ── Largest into arrays of 512 and 9 ──
abbrev no_flows : List ℤ
no_flows = replicate 512 (pos 0)

abbrev no_set : List ℕ
no_set = replicate 9 0

module _ (s : List ℕ) (source sink : ℕ) (asked : Asked s source sink) where
  room : NoneOf (largest_checks s source sink no_flows no_set)
  unfolding largest_checks search_checks room_checks NoneOf
  room =
      let few = counts_fit s asked.sheet in
      let flows : length no_flows < edges_of s → ⊥ = λ l. omega (arith, length-replicate 512 (pos 0), few.1) in
      let words : length no_set < words_for (nodes_of s) → ⊥ = λ l. omega (arith, length-replicate {A = ℕ} 9 0, few_words (nodes_of s) few.0) in
      none_append (sheet_checks s) _ asked.sheet (none_append (end_checks (nodes_of s) source sink) _ asked.ends (neither flows words, tt))

  pub value_largest : (v : ℤ) (flows' : List ℤ) (set' : List ℕ) → FindsLargest s source sink no_flows flows' no_set set' (Ok (Some v))
      → IsLargest s source sink (Some v)
  value_largest v flows' set' h = (
    (atℤ flows', possible_and_impossible.largest_carries s source sink v no_flows flows' no_set set' h),
    possible_and_impossible.nothing_greater s source sink v no_flows flows' no_set set' h,
  )

  pub none_largest : (flows' : List ℤ) (set' : List ℕ) → FindsLargest s source sink no_flows flows' no_set set' (Ok None) → IsLargest s source sink None
  none_largest flows' set' h = (possible_and_impossible.none_exactly s source sink no_flows flows' no_set set' (Ok None) room h).0 refl

  pub largest_is : (d : Option ℤ) (flows' : List ℤ) (set' : List ℕ) → FindsLargest s source sink no_flows flows' no_set set' (Ok d) → IsLargest s source sink d
  largest_is (Some v) flows' set' h = value_largest v flows' set' h
  largest_is None flows' set' h = none_largest flows' set' h

  pub never_refused : (r : Refusal) (flows' : List ℤ) (set' : List ℕ) → FindsLargest s source sink no_flows flows' no_set set' (Err r) → ⊥
  never_refused r flows' set' h = first_none (largest_checks s source sink no_flows no_set) r.number r.place h.0 room

  -- ── Mark ──
  pub mark_exactly : (value : ℤ) (settings : List ℤ) (answer : Result ℤ Refusal) → edges_of s ≤ length settings → Marks s source sink settings answer
      → (answer ≡ Ok value → Delivers s source sink value (atℤ settings)) × (Delivers s source sink value (atℤ settings) → answer ≡ Ok value)
  mark_exactly value settings answer long h = (
    λ e. settings_and_levels.marked_carries s source sink settings value (subst (Marks s source sink settings) e h),
    λ d. settings_and_levels.carries_marked s source sink settings value answer asked.sheet asked.ends long d h,
  )

  pub marked_earns : (value v : ℤ) (settings : List ℤ) (n : ℕ) → edges_of s ≤ length settings → Marks s source sink settings (Ok v)
      → Earns (v ≡ value) 4 n → Earns (Delivers s source sink value (atℤ settings)) 4 n
  marked_earns value v settings n long h e =
      let exactly = mark_exactly value settings (Ok v) long h in
      earns_by 4 n (λ q. exactly.0 (ap Ok q)) (λ d. let same : Ok v ≡ Ok value = exactly.1 d in cc) e

  pub refused_earns : (value : ℤ) (r : Refusal) (settings : List ℤ) → edges_of s ≤ length settings → Marks s source sink settings (Err r)
      → Earns (Delivers s source sink value (atℤ settings)) 4 0
  refused_earns value r settings long h = inr (λ d. let same : Err r ≡ Ok value = (mark_exactly value settings (Err r) long h).1 d in cc, refl)

-- ── Totals by node, with room for 513 subtotals ──
abbrev no_totals : List ℤ
no_totals = replicate 513 (pos 0)

pub nodes-in : (nodes : ℕ) (words : List ℕ) (v : ℕ) → v < nodes → nodes_in nodes words v ≡ member words v
unfolding nodes_in
nodes-in nodes words v l = ap (λ b. b && member words v) (of_T {b = ltb v nodes} (lt→ltb v nodes l))

module _ (s set : List ℕ) (accepted : NoneOf (sheet_checks s)) (long : words_for (nodes_of s) ≤ length set) where
  total_room : NoneOf (totals_checks s set no_totals)
  unfolding totals_checks total_checks NoneOf
  total_room =
      let few = counts_fit s accepted in
      let members = sum_le_size (nodes_of s) (λ v. bit (member set v)) (λ v l. bit_le (member set v)) in
      let words : length set < words_for (nodes_of s) → ⊥ = λ l. omega arith in
      let out : length no_totals < count (nodes_of s) (member set) → ⊥ = λ l. omega (arith, length-replicate 513 (pos 0), members, few.0) in
      none_append (sheet_checks s) _ accepted (neither words out, tt)

  pub total_is : (out' : List ℤ) (t : ℤ) → GivesTotals s set no_totals out' (Ok t)
      → t ≡ cut (sheet_map s) (capacity_of s) (nodes_in (nodes_of s) set)
  total_is out' t h =
      totals_by_node.totals_any_set s set no_totals out' t (nodes_in (nodes_of s) set) (λ v l. sym (nodes-in (nodes_of s) set v l)) h

  pub total_never_refused : (out' : List ℤ) (r : Refusal) → GivesTotals s set no_totals out' (Err r) → ⊥
  total_never_refused out' r h = first_none (totals_checks s set no_totals) r.number r.place h.0 total_room

-- ── claim and set, from the numbers to the drawing ──
bound_by : (S : ℕ → Bool) (source sink : ℕ) (value : ℤ) (from into : Bool) → S source ≡ from → S sink ≡ into
    → bound S source sink value ≡ cond from (cond into (pos 0) value) (cond into (neg_ℤ value) (pos 0))
unfolding bound
bound_by S source sink value from into e f = ap₂ (λ a b. cond a (cond b (pos 0) value) (cond b (neg_ℤ value) (pos 0))) e f

module _ (s : List ℕ) (source sink : ℕ) (S : ℕ → Bool) (total : ℤ) (from into : Bool)
    (is-total : total ≡ cut (sheet_map s) (capacity_of s) S) (at_source : S source ≡ from) (at_sink : S sink ≡ into) where
  proves : (value : ℤ) → ProvesBy total value from into → ProvesOf s source sink value S
  proves value h =
      subst (λ b. cut (sheet_map s) (capacity_of s) S <ℤ b) (sym (bound_by S source sink value from into at_source at_sink))
      (subst (λ t. ProvesBy t value from into) is-total h)

  proved : (value : ℤ) → ProvesOf s source sink value S → ProvesBy total value from into
  proved value h =
      subst (λ t. ProvesBy t value from into) (sym is-total)
      (subst (λ b. cut (sheet_map s) (capacity_of s) S <ℤ b) (bound_by S source sink value from into at_source at_sink) h)

  pub last_six_of : (largest claim : Option ℤ) (x : ℕ → ℤ) (n : ℕ) → LastSixBy largest claim total from into n
      → LastSix s source sink largest (record { settings = x; claim = claim; set = S }) n
  last_six_of (Some v) claim x n h =
      (h.0, h.1, h.2, earns_by 3 h.1 (proves (v +ℤ pos 1)) (proved (v +ℤ pos 1)) h.3, h.4)
  last_six_of None claim x n h =
      earns_by 6 n
      (λ g. (g.0, (at_source ∙ g.1.0 ∙ sym at_sink, subst (λ t. t <ℤ pos 0) is-total g.1.1)))
      (λ g. (g.0, (sym at_source ∙ g.1.0 ∙ at_sink, subst (λ t. t <ℤ pos 0) (sym is-total) g.1.1)))
      h

-- ── one paper ──
pub ends_inside : (nodes source sink : ℕ) → NoneOf (end_checks nodes source sink) → (source < nodes) × (sink < nodes)
unfolding end_checks NoneOf
ends_inside nodes source sink none =
    let a : nodes ≤ source → ⊥ = λ l. none.0 (inl l) in
    let b : nodes ≤ sink → ⊥ = λ l. none.0 (inr l) in
    (omega arith, omega arith)

pub paper_earns : (s : List ℕ) (source sink : ℕ) (value : ℤ) (largest claim : Option ℤ) (settings : List ℤ) (set : List ℕ) (total : ℤ) (from into : Bool)
    (a b : ℕ) → Asked s source sink
    → Earns (Delivers s source sink value (atℤ settings)) 4 a → total ≡ cut (sheet_map s) (capacity_of s) (nodes_in (nodes_of s) set)
    → from ≡ member set source → into ≡ member set sink → LastSixBy largest claim total from into b
    → Points s source sink value largest (record { settings = atℤ settings; claim = claim; set = nodes_in (nodes_of s) set }) (a + b) × (a + b ≤ 10)
paper_earns s source sink value largest claim settings set total from into a b asked first is-total e f rest =
    let ends = ends_inside (nodes_of s) source sink asked.ends in
    let six =
    last_six_of s source sink (nodes_in (nodes_of s) set) total from into is-total
    (nodes-in (nodes_of s) set source ends.0 ∙ sym e) (nodes-in (nodes_of s) set sink ends.1 ∙ sym f) largest claim (atℤ settings) b rest in
    ((a, b, first, six, refl), omega (arith, earns_at_most 4 a first, judged_at_most largest claim total from into b rest))

-- ── the refusals, put together ──
module _ (s : List ℕ) (source sink : ℕ) (value : ℤ) (n kinds settings sets points : ℕ) (accepted : NoneOf (sheet_checks s)) where
  pub question_refused : (k p : ℕ) → FirstOf (end_checks (nodes_of s) source sink ++ value_checks value) k p
      → FirstOf (examine_checks s source sink value n kinds settings sets points) k p
  unfolding examine_checks
  question_refused k p h = first_right (sheet_checks s) _ k p accepted (go (append_first (end_checks (nodes_of s) source sink) (value_checks value) k p h))
    where
      go : FirstOf (end_checks (nodes_of s) source sink) k p ⊎ (NoneOf (end_checks (nodes_of s) source sink) × FirstOf (value_checks value) k p)
          → FirstOf (end_checks (nodes_of s) source sink ++ (value_checks value ++ class_checks (nodes_of s) (edges_of s) n kinds settings sets points)) k p
      go (inl f) = first_left (end_checks (nodes_of s) source sink) _ k p f
      go (inr (none, f)) = first_right (end_checks (nodes_of s) source sink) _ k p none (first_left (value_checks value) _ k p f)

  module _ (asked : NoneOf (end_checks (nodes_of s) source sink ++ value_checks value)) where
    parted : NoneOf (end_checks (nodes_of s) source sink) × NoneOf (value_checks value)
    parted = append_none (end_checks (nodes_of s) source sink) (value_checks value) asked

    pub asked_of : Asked s source sink
    asked_of = record { sheet = accepted; ends = parted.0 }

    pub class_refused : (k p : ℕ) → FirstOf (class_checks (nodes_of s) (edges_of s) n kinds settings sets points) k p
        → FirstOf (examine_checks s source sink value n kinds settings sets points) k p
    unfolding examine_checks
    class_refused k p h =
        first_right (sheet_checks s) _ k p accepted
        (first_right (end_checks (nodes_of s) source sink) _ k p parted.0 (first_right (value_checks value) _ k p parted.1 h))

    pub class_accepted : NoneOf (class_checks (nodes_of s) (edges_of s) n kinds settings sets points)
        → NoneOf (examine_checks s source sink value n kinds settings sets points)
    unfolding examine_checks
    class_accepted h =
        none_append (sheet_checks s) _ accepted
        (none_append (end_checks (nodes_of s) source sink) _ parted.0 (none_append (value_checks value) _ parted.1 h))

pub class_room : (nodes edges n kinds settings sets points : ℕ) → NoneOf (class_checks nodes edges n kinds settings sets points)
    → (n ≤ 1000) × (n ≤ kinds) × (n * edges ≤ settings) × (n * words_for nodes ≤ sets) × (n ≤ points)
unfolding class_checks NoneOf
class_room nodes edges n kinds settings sets points none =
    let few : 1000 < n → ⊥ = none.0 in
    let a : kinds < n → ⊥ = λ l. none.1.0 (inl l) in
    let b : settings < n * edges → ⊥ = λ l. none.1.0 (inr (inl l)) in
    let c : sets < n * words_for nodes → ⊥ = λ l. none.1.0 (inr (inr (inl l))) in
    let d : points < n → ⊥ = λ l. none.1.0 (inr (inr (inr l))) in
    (omega arith, omega arith, omega arith, omega arith, omega arith)

-- of the numbers that a function was given
pub question_as : (nodes nodes' source source' sink sink' : ℕ) (value value' : ℤ) (r v : Result Unit Refusal)
    → Judged (end_checks nodes source sink ++ value_checks value) r → nodes ≡ nodes' → source ≡ source' → sink ≡ sink' → value ≡ value' → r ≡ v
    → Judged (end_checks nodes' source' sink' ++ value_checks value') v
question_as nodes nodes' source source' sink sink' value value' r v h a b c d e = rw (a, b, c, d, e) at h

pub class_as : (nodes nodes' edges edges' n kinds settings sets points : ℕ) (r v : Result Unit Refusal)
    → Judged (class_checks nodes edges n kinds settings sets points) r → nodes ≡ nodes' → edges ≡ edges' → r ≡ v
    → Judged (class_checks nodes' edges' n kinds settings sets points) v
class_as nodes nodes' edges edges' n kinds settings sets points r v h a b e = rw (a, b, e) at h

pub sheet_refused : (s : List ℕ) (source sink : ℕ) (value : ℤ) (n kinds settings sets points k p : ℕ) → FirstOf (sheet_checks s) k p
    → FirstOf (examine_checks s source sink value n kinds settings sets points) k p
unfolding examine_checks
sheet_refused s source sink value n kinds settings sets points k p h = first_left (sheet_checks s) _ k p h

-- a value that came through its bits
pub examined_as : (s : List ℕ) (source sink : ℕ) (value value' : ℤ) (claims : List ℤ) (kinds : List ℕ) (settings : List ℤ) (sets points points' : List ℕ)
    (class : Result (Option ClassFigures) Refusal) → value' ≡ value → Examines s source sink value' claims kinds settings sets points points' class
    → Examines s source sink value claims kinds settings sets points points' class
examined_as s source sink value value' claims kinds settings sets points points' class e h =
    subst (λ v. Examines s source sink v claims kinds settings sets points points' class) e h
