-- A result tells whether there is an answer: every check has a number of 1 or more, so a result of 0 is no refusal, and any other is one.
use Prim.Native.Nat.{ℕ}
use mathlib.Core.Path.{◌≡◌, sym, ◌∙◌, subst}
use mathlib.Core.List.{List}
use native.Mathlib.Omega.{arith}
use lib.ListN.{length}
use lib.IntN.{ℤ}
use Rattle.refusals.specs.Order.{Check, NoneOf, FirstOf}
use Rattle.std.specs.Prelude.{Some, None, Ok, Err}
use Rattle.questions.specs.declared.Solution.TheVariants.{Can, Cannot}
use Rattle.refusals.proofs.Order.{first_none}
use Rattle.sheets.specs.Read.{read_checks}
use Rattle.sheets.specs.Open.{sheet_checks}
use Rattle.sheets.specs.Write.{write_checks}
use Rattle.analyser.specs.Solve.{solve_checks}
use Rattle.analyser.specs.Largest.{largest_checks}
use Rattle.analyser.specs.Range.{range_checks}
use Rattle.analyser.specs.Raise.{raise_checks}
use Rattle.analyser.specs.After.{after_checks}
use Rattle.desk.specs.Class.{examine_checks}
use Rattle.analyser.specs.Page.{page_checks}
use Rattle.analyser.specs.Mark.{mark_checks}
use Rattle.analyser.specs.LevelsOf.{levels_checks}
use Rattle.analyser.specs.SettingsOf.{settings_checks}
use Rattle.analyser.specs.Totals.{totals_checks}
use Rattle.key_text.specs.Key.{key_room_checks}
use Rattle.practice.specs.Practice.{practice_checks}
use Rattle.analyser.specs.Dimacs.{dimacs_checks}
use Rattle.parties.specs.Shared.{Shared, shared_drawing}
use Rattle.parties.specs.Start.{emptied}
use Rattle.parties.specs.Calls.{ask_checks, commit_checks}
use Rattle.abi.specs.Result.{Says}
use Rattle.abi.specs.Read.{TellsRead}
use Rattle.abi.specs.Write.{TellsWrite}
use Rattle.abi.specs.Solve.{TellsSolve}
use Rattle.abi.specs.Largest.{TellsLargest}
use Rattle.abi.specs.Range.{TellsRange}
use Rattle.abi.specs.Raise.{TellsRaise}
use Rattle.abi.specs.After.{TellsAfter}
use Rattle.abi.specs.Page.{TellsPage}
use Rattle.abi.specs.Mark.{TellsMark}
use Rattle.abi.specs.Levels.{TellsLevels, TellsSettings}
use Rattle.abi.specs.Totals.{TellsTotals}
use Rattle.abi.specs.Examine.{TellsExamine}
use Rattle.abi.specs.Key.{TellsKey}
use Rattle.abi.specs.Practice.{TellsPractice}
use Rattle.abi.specs.Dimacs.{TellsDimacs}
use Rattle.abi.specs.Sessions.{TellsStart, TellsAsk, TellsCommit}
use Rattle.abi.proofs.Numbered.{
  Numbered,
  first_numbered,
  never_eleven,
  read_numbered,
  write_numbered,
  solve_numbered,
  largest_numbered,
  after_numbered,
  range_numbered,
  raise_numbered,
  page_numbered,
  mark_numbered,
  levels_numbered,
  settings_numbered,
  totals_numbered,
  examine_numbered,
  key_numbered,
  practice_numbered,
  dimacs_numbered,
  sheet_numbered,
  ask_numbered,
  commit_numbered,
}

module _ {cs : List Check} {result place place' : ℕ} {Same : Type 0} where
  says_answer : NoneOf cs → result ≡ 0 → place' ≡ place → Says cs result place place' Same
  says_answer none z same =
      record { zero_none = λ _. (none, same); none_zero = λ _. z; refused = λ n. absurd (n z); not_eleven = λ e. omega (arith, z, e) }

  says_refusal : (k p : ℕ) → Numbered cs → FirstOf cs k p → result ≡ k → place' ≡ p → Same → Says cs result place place' Same
  says_refusal k p n h e q same = record {
    zero_none = λ z. absurd (first_numbered cs k p n h (sym e ∙ z));
    none_zero = λ none. absurd (first_none cs k p h none);
    refused = λ _. (rw (e, q) h, same);
    not_eleven = λ z. never_eleven cs n p (subst (λ j. FirstOf cs j p) (sym e ∙ z) h);
  }

-- ── and so of each ──
module _ {place place' result : ℕ} where
  pub write_says : (nodes outer : ℕ) (tails rotations : List ℕ) (capacities : List ℤ) {sheet sheet' : List ℕ} {length length' : ℕ}
      → TellsWrite nodes outer tails rotations capacities sheet sheet' length length' place place' result
      → Says (write_checks nodes outer tails rotations capacities sheet) result place place' ((sheet' ≡ sheet) × (length' ≡ length))
  write_says nodes outer tails rotations capacities (Ok n, h, t) = says_answer h.0 t.0 t.2
  write_says nodes outer tails rotations capacities (Err r, h, t) = says_refusal r.number r.place (write_numbered _ _ _ _ _ _) h.0 t.0 t.2 (h.1, t.1)

  pub key_says : (input text : List ℕ) {text' : List ℕ} {length length' : ℕ} → TellsKey input text text' length length' place place' result
      → Says (key_room_checks text) result place place' ((text' ≡ text) × (length' ≡ length))
  key_says input text (Ok n, h, named, t) = says_answer h.0 t.0 t.2
  key_says input text (Err r, h, named, t) = says_refusal r.number r.place (key_numbered text) h.0 t.0 t.2 (h.1, t.1)

  pub practice_says : (rows columns seed : ℕ) {sheet sheet' : List ℕ} {length length' : ℕ}
      → TellsPractice rows columns seed sheet sheet' length length' place place' result
      → Says (practice_checks rows columns seed sheet) result place place' ((sheet' ≡ sheet) × (length' ≡ length))
  practice_says rows columns seed (Ok n, h, t) = says_answer h.0 t.0 t.2
  practice_says rows columns seed (Err r, h, t) = says_refusal r.number r.place (practice_numbered _ _ _ _) h.0 t.0 t.2 (h.1, t.1)

  module _ (s : List ℕ) where
    pub read_says : {tails rotations tails' rotations' : List ℕ} {capacities capacities' : List ℤ} {nodes nodes' edges edges' outer outer' : ℕ}
        → TellsRead s tails rotations capacities tails' rotations' capacities' nodes nodes' edges edges' outer outer' place place' result
        → Says (read_checks s tails rotations capacities) result place place'
        ((tails' ≡ tails) × (rotations' ≡ rotations) × (capacities' ≡ capacities) × (nodes' ≡ nodes) × (edges' ≡ edges) × (outer' ≡ outer))
    read_says (Ok c, h, t) = says_answer h.0 t.0 t.4
    read_says (Err r, h, t) = says_refusal r.number r.place (read_numbered s _ _ _) h.0 t.0 t.4 (h.1, h.2, h.3, t.1, t.2, t.3)

    pub solve_says : {source sink : ℕ} {value : ℤ} {flows flows' : List ℤ} {set set' : List ℕ} {can can' size size' : ℕ}
        → TellsSolve s source sink value flows flows' set set' can can' size size' place place' result
        → Says (solve_checks s source sink value flows set) result place place' ((flows' ≡ flows) × (set' ≡ set) × (can' ≡ can) × (size' ≡ size))
    solve_says (Ok Can, h, named, t) = says_answer h.0 t.0 t.3
    solve_says (Ok (Cannot n), h, named, t) = says_answer h.0 t.0 t.3
    solve_says (Err r, h, named, t) = says_refusal r.number r.place (solve_numbered s _ _ _ _ _) h.0 t.0 t.3 (h.1, h.2, t.1, t.2)

    pub largest_says : {source sink : ℕ} {flows flows' : List ℤ} {set set' : List ℕ} {found found' : ℕ} {value value' : ℤ}
        → TellsLargest s source sink flows flows' set set' found found' value value' place place' result
        → Says (largest_checks s source sink flows set) result place place' ((flows' ≡ flows) × (set' ≡ set) × (found' ≡ found) × (value' ≡ value))
    largest_says (Ok (Some v), h, t) = says_answer h.0 t.0 t.3
    largest_says (Ok None, h, t) = says_answer h.0 t.0 t.3
    largest_says (Err r, h, t) = says_refusal r.number r.place (largest_numbered s _ _ _ _) h.0 t.0 t.3 (h.1, h.2, t.1, t.2)

    pub range_says : {source sink : ℕ} {low low' : List ℤ} {below below' : List ℕ} {high high' : List ℤ} {above above' : List ℕ}
        {found found' : ℕ} {least least' largest largest' : ℤ}
        → TellsRange s source sink low low' below below' high high' above above' found found' least least' largest largest' place place' result
        → Says (range_checks s source sink low below high above) result place place'
        ((low' ≡ low) × (below' ≡ below) × (high' ≡ high) × (above' ≡ above) × (found' ≡ found) × (least' ≡ least) × (largest' ≡ largest))
    range_says (Ok (Some v), h, t) = says_answer h.0 t.0 t.4
    range_says (Ok None, h, t) = says_answer h.0 t.0 t.4
    range_says (Err r, h, t) =
        says_refusal r.number r.place (range_numbered s _ _ _ _ _ _) h.0 t.0 t.4 (h.1, h.2, h.3, h.4, t.1, t.2, t.3)

    pub raise_says : {source sink : ℕ} {value : ℤ} (edge : ℕ) {flows flows' : List ℤ} {set set' : List ℕ} {found found' : ℕ} {limit limit' : ℤ}
        → TellsRaise s source sink value edge flows flows' set set' found found' limit limit' place place' result
        → Says (raise_checks s source sink value edge flows set) result place place' ((flows' ≡ flows) × (set' ≡ set) × (found' ≡ found) × (limit' ≡ limit))
    raise_says edge (Ok (Some v), h, t) = says_answer h.0 t.0 t.3
    raise_says edge (Ok None, h, t) = says_answer h.0 t.0 t.3
    raise_says edge (Err r, h, t) = says_refusal r.number r.place (raise_numbered s _ _ _ _ _ _) h.0 t.0 t.3 (h.1, h.2, t.1, t.2)

    pub after_says : (b : List ℕ) (w n : ℕ) {source sink : ℕ} {limits limits' flows flows' : List ℤ} {set set' : List ℕ} {found found' : ℕ} {value value' : ℤ}
        → TellsAfter s b w n source sink limits limits' flows flows' set set' found found' value value' place place' result
        → Says (after_checks s b w n source sink limits flows set) result place place'
        ((limits' ≡ limits) × (flows' ≡ flows) × (set' ≡ set) × (found' ≡ found) × (value' ≡ value))
    after_says b w n (Ok (Some v), h, t) = says_answer h.1.0 t.0 t.3
    after_says b w n (Ok None, h, t) = says_answer h.1.0 t.0 t.3
    after_says b w n (Err r, h, t) =
        says_refusal r.number r.place (after_numbered s b w n _ _ _ _ _) h.1.0 t.0 t.3 (h.0, h.1.1, h.1.2, t.1, t.2)

    pub examine_says : {source sink : ℕ} {value : ℤ} (claims : List ℤ) (kinds : List ℕ) (settings : List ℤ) (sets : List ℕ) {points points' : List ℕ}
        {number number' sum sum' least least' greatest greatest' : ℕ}
        → TellsExamine s source sink value claims kinds settings sets points points' number number' sum sum' least least' greatest greatest' place place' result
        → Says (examine_checks s source sink value (length claims) (length kinds) (length settings) (length sets) (length points)) result place place'
        ((points' ≡ points) × (number' ≡ number) × (sum' ≡ sum) × (least' ≡ least) × (greatest' ≡ greatest))
    examine_says claims kinds settings sets (Ok None, h, t) = says_answer h.0 t.result_told t.place_told
    examine_says claims kinds settings sets (Ok (Some m), h, t) = says_answer h.0 t.result_told t.place_told
    examine_says claims kinds settings sets (Err r, h, t) =
        says_refusal r.number r.place (examine_numbered s _ _ _ _ _ _ _ _) h.0 t.result_told t.place_told
        (h.1, t.number-told, t.sum_told, t.least_told, t.greatest_told)

    pub page_says : (count : ℕ) (sources sinks : List ℕ) (values : List ℤ) {flows flows' : List ℤ} {sets sets' answers answers' sizes sizes' : List ℕ}
        → TellsPage s count sources sinks values flows flows' sets sets' answers answers' sizes sizes' place place' result
        → Says (page_checks s count flows sets) result place place' ((flows' ≡ flows) × (sets' ≡ sets) × (answers' ≡ answers) × (sizes' ≡ sizes))
    page_says count sources sinks values (Ok page, h, named, t) = says_answer h.0 t.0 t.3
    page_says count sources sinks values (Err r, h, named, t) = says_refusal r.number r.place (page_numbered s _ _ _) h.0 t.0 t.3 (h.1, h.2, t.1, t.2)

    pub mark_says : (source sink : ℕ) (flows : List ℤ) {value value' : ℤ}
        → TellsMark s source sink flows value value' place place' result → Says (mark_checks s source sink flows) result place place' (value' ≡ value)
    mark_says source sink flows (Ok v, h, t) = says_answer h.0 t.0 t.2
    mark_says source sink flows (Err r, h, t) = says_refusal r.number r.place (mark_numbered s _ _ _) h t.0 t.2 t.1

    pub levels_says : (flows : List ℤ) {levels levels' : List ℤ} → TellsLevels s flows levels levels' place place' result
        → Says (levels_checks s flows levels) result place place' (levels' ≡ levels)
    levels_says flows (Ok done, h, t) = says_answer h.0 t.0 t.1
    levels_says flows (Err r, h, t) = says_refusal r.number r.place (levels_numbered s _ _) h.0 t.0 t.1 h.1

    pub settings_says : (levels : List ℤ) {flows flows' : List ℤ} → TellsSettings s levels flows flows' place place' result
        → Says (settings_checks s levels flows) result place place' (flows' ≡ flows)
    settings_says levels (Ok done, h, t) = says_answer h.0 t.0 t.1
    settings_says levels (Err r, h, t) = says_refusal r.number r.place (settings_numbered s _ _) h.0 t.0 t.1 h.1

    pub totals_says : (set : List ℕ) {out out' : List ℤ} {total total' : ℤ} → TellsTotals s set out out' total total' place place' result
        → Says (totals_checks s set out) result place place' ((out' ≡ out) × (total' ≡ total))
    totals_says set (Ok t, h, w) = says_answer h.0 w.0 w.2
    totals_says set (Err r, h, w) = says_refusal r.number r.place (totals_numbered s _ _) h.0 w.0 w.2 (h.1, w.1)

    pub dimacs_says : (source sink : ℕ) {text text' : List ℕ} {length length' : ℕ}
        → TellsDimacs s source sink text text' length length' place place' result
        → Says (dimacs_checks s source sink text) result place place' ((text' ≡ text) × (length' ≡ length))
    dimacs_says source sink (Ok n, h, t) = says_answer h.0 t.0 t.2
    dimacs_says source sink (Err r, h, t) = says_refusal r.number r.place (dimacs_numbered s _ _ _) h.0 t.0 t.2 (h.1, t.1)

    -- a refused start leaves the session of no nodes
    pub start_says : (S' : Shared) → TellsStart s S' place place' result → Says (sheet_checks s) result place place' (S' ≡ emptied)
    start_says S' (Ok done, h, t) = says_answer h.0 t.0 t.1
    start_says S' (Err r, h, t) = says_refusal r.number r.place (sheet_numbered s) h.0 t.0 t.1 h.1

  -- ── a session, whatever value it is, and any number as a party ──
  pub ask_says : (S S' : Shared) (q : ℕ) {source sink : ℕ} {value : ℤ} {flows flows' : List ℤ} {set set' : List ℕ} {can can' size size' : ℕ}
      → TellsAsk S q source sink value flows flows' set set' S' can can' size size' place place' result
      → Says (ask_checks (shared_drawing S) (S.standing q) q source sink value flows set) result place place'
      ((S' ≡ S) × (flows' ≡ flows) × (set' ≡ set) × (can' ≡ can) × (size' ≡ size))
  ask_says S S' q (Ok Can, h, t) = says_answer h.solved.0 t.0 t.3
  ask_says S S' q (Ok (Cannot n), h, t) = says_answer h.solved.0 t.0 t.3
  ask_says S S' q (Err r, h, t) =
      says_refusal r.number r.place (ask_numbered (shared_drawing S) _ q _ _ _ _ _) h.solved.0 t.0 t.3 (h.after, h.solved.1, h.solved.2, t.1, t.2)

  pub commit_says : (S S' : Shared) (q : ℕ) → TellsCommit S q S' place place' result → Says (commit_checks S q) result place place' (S' ≡ S)
  commit_says S S' q (Ok done, h, t) = says_answer h.0 t.0 t.1
  commit_says S S' q (Err r, h, t) = says_refusal r.number r.place (commit_numbered S q) h.0 t.0 t.1 h.1
