-- What is said of the operations as C is told of them. Document 01, demand 1: "The unit takes every input, well formed or not, and ends with an answer or a
-- numbered refusal; each refusal has its stated condition and place in the order, and leaves all lent memory unchanged". A field for each operation; all that a
-- field knows of a call is its contract. The proofs are in proofs/Statements.antt.
use Rattle.std.specs.Prelude.{ℕ, ◌<◌, ◌≡◌, ◌≢◌, List, length, take, ℤ}
use Rattle.refusals.specs.Order.{NoneOf, FirstOf}
use Rattle.flows.specs.ProvingSet.{words_for}
use Rattle.arrays.specs.At.{at, atℤ}
use Rattle.records.specs.Record.{record_checks}
use Rattle.records.specs.Sheet.{nodes_of, edges_of}
use Rattle.pages.specs.Stretch.{stretch}
use Rattle.sheets.specs.Open.{sheet_checks}
use Rattle.sheets.specs.Read.{read_checks}
use Rattle.sheets.specs.Write.{write_checks}
use Rattle.analyser.specs.Solve.{solve_checks}
use Rattle.analyser.specs.Largest.{largest_checks}
use Rattle.analyser.specs.Range.{range_checks}
use Rattle.analyser.specs.Raise.{raise_checks}
use Rattle.analyser.specs.After.{after_checks}
use Rattle.analyser.specs.Page.{page_checks}
use Rattle.analyser.specs.Mark.{mark_checks}
use Rattle.analyser.specs.LevelsOf.{levels_checks}
use Rattle.analyser.specs.SettingsOf.{settings_checks}
use Rattle.analyser.specs.Totals.{totals_checks}
use Rattle.analyser.specs.Dimacs.{dimacs_checks}
use Rattle.desk.specs.Class.{examine_checks}
use Rattle.practice.specs.Practice.{practice_checks}
use Rattle.key_text.specs.Question.{source_of, sink_of, value_of, sheet_of, key_checks}
use Rattle.key_text.specs.Text.{can_text, cannot_text, refused_text}
use Rattle.key_text.specs.Key.{key_room_checks}
use Rattle.parties.specs.Shared.{Shared, shared_drawing}
use Rattle.parties.specs.Start.{emptied}
use Rattle.parties.specs.Calls.{ask_checks, commit_checks}
use Rattle.abi.specs.Result.{Says}
use Rattle.abi.specs.Read.{TellsRead}
use Rattle.abi.specs.Write.{TellsWrite}
use Rattle.abi.specs.Solve.{TellsSolve}
use Rattle.abi.specs.Largest.{TellsLargest}
use Rattle.abi.specs.Range.{TellsRange}
use Rattle.abi.specs.Raise.{TellsRaise}
use Rattle.abi.specs.After.{TellsAfter}
use Rattle.abi.specs.Page.{TellsPage}
use Rattle.abi.specs.Mark.{TellsMark}
use Rattle.abi.specs.Levels.{TellsLevels, TellsSettings}
use Rattle.abi.specs.Totals.{TellsTotals}
use Rattle.abi.specs.Examine.{TellsExamine}
use Rattle.abi.specs.Key.{TellsKey}
use Rattle.abi.specs.Practice.{TellsPractice}
use Rattle.abi.specs.Dimacs.{TellsDimacs}
use Rattle.abi.specs.Sessions.{TellsStart, TellsAsk, TellsCommit}

-- ── One question, one answer, as C is told it. Document 02, Job 12, "isolation"; Job 1: "Each answer .. is the one Solve gives alone, and its stretches hold
-- what Solve would leave there". ──
pub record OneAnswerInC : Type 0 where
  -- two calls on the same bytes with the same question that are lent the same give the same result and leave the same behind every pointer, the words of a
  -- proving set and its size included
  pub same_answer : (s : List ℕ) (source sink : ℕ) (value : ℤ) (flows flows' flows'' : List ℤ) (set set' set'' : List ℕ)
      (can can' can'' size size' size'' place place' place'' result other : ℕ)
      → TellsSolve s source sink value flows flows' set set' can can' size size' place place' result
      → TellsSolve s source sink value flows flows'' set set'' can can'' size size'' place place'' other
      → (result ≡ other) × (flows' ≡ flows'') × (set' ≡ set'') × (can' ≡ can'') × (size' ≡ size'') × (place' ≡ place'')
  -- the same of "cannot" whatever was lent: the same words, and the same size
  pub same_set : (s : List ℕ) (source sink : ℕ) (value : ℤ) (flows flows' : List ℤ) (set set' : List ℕ) (can size size' place place' : ℕ)
      (own own' : List ℤ) (words words' : List ℕ) (can₂ size₂ size₂' place₂ place₂' : ℕ)
      → TellsSolve s source sink value flows flows' set set' can 0 size size' place place' 0
      → TellsSolve s source sink value own own' words words' can₂ 0 size₂ size₂' place₂ place₂' 0
      → (size' ≡ size₂') × (take (words_for (nodes_of s)) set' ≡ take (words_for (nodes_of s)) words')
  -- a question of a page: its stretches hold what Solve leaves there, and its number is 1 or 0 as `can` is, or that of the refusal
  pub same_line : (s : List ℕ) (count : ℕ) (sources sinks : List ℕ) (values flows flows' : List ℤ)
      (sets sets' answers answers' sizes sizes' : List ℕ) (place place' : ℕ)
      → TellsPage s count sources sinks values flows flows' sets sets' answers answers' sizes sizes' place place' 0 → (i : ℕ) → i < count
      → (own' : List ℤ) (set' : List ℕ) (can can' size size' place₂ place₂' result : ℕ)
      → TellsSolve s (at sources i) (at sinks i) (atℤ values i) (stretch (edges_of s) i flows) own' (stretch (words_for (nodes_of s)) i sets) set'
      can can' size size' place₂ place₂' result
      → (stretch (edges_of s) i flows' ≡ own') × (stretch (words_for (nodes_of s)) i sets' ≡ set')
      × (result ≡ 0 → at answers' i ≡ can') × (result ≢ 0 → at answers' i ≡ result)
      × (result ≡ 0 → can' ≡ 0 → at sizes' i ≡ size')
  -- two keys of the same bytes are the same text, every byte of it, whatever was lent
  pub same_text : (input text text' own own' : List ℕ) (length length' length₂ length₂' place place' place₂ place₂' : ℕ)
      → TellsKey input text text' length length' place place' 0 → TellsKey input own own' length₂ length₂' place₂ place₂' 0
      → (length' ≡ length₂') × (take length' text' ≡ take length₂' own')
  -- and the text is that of what Solve tells for the question that the bytes ask; 16, which is of Solve's slices, is not the key's
  pub same_key : (b text text' : List ℕ) (length length' place place' : ℕ) → TellsKey b text text' length length' place place' 0
      → NoneOf (record_checks b 3 0)
      → (flows flows' : List ℤ) (set set' : List ℕ) (can can' size size' place₂ place₂' result : ℕ)
      → TellsSolve (sheet_of b) (source_of b) (sink_of b) (value_of b) flows flows' set set' can can' size size' place₂ place₂' result
      → (result ≡ 0 → can' ≡ 1 → take length' text' ≡ can_text (value_of b) (edges_of (sheet_of b)) (atℤ flows'))
      × (result ≡ 0 → can' ≡ 0 → take length' text' ≡ cannot_text (value_of b) size' (nodes_of (sheet_of b)) set')
      × (result ≢ 0 → result ≢ 16 → take length' text' ≡ refused_text result)

-- ── what each result says: 0 exactly when no check refuses, else the number of the first that does, and everything but the place as it was ──
pub record Results : Type 0 where
  pub read_says : (s tails rotations tails' rotations' : List ℕ) (capacities capacities' : List ℤ)
      (nodes nodes' edges edges' outer outer' place place' result : ℕ)
      → TellsRead s tails rotations capacities tails' rotations' capacities' nodes nodes' edges edges' outer outer' place place' result
      → Says (read_checks s tails rotations capacities) result place place'
      ((tails' ≡ tails) × (rotations' ≡ rotations) × (capacities' ≡ capacities) × (nodes' ≡ nodes) × (edges' ≡ edges) × (outer' ≡ outer))
  pub write_says : (nodes outer : ℕ) (tails rotations sheet sheet' : List ℕ) (capacities : List ℤ) (length length' place place' result : ℕ)
      → TellsWrite nodes outer tails rotations capacities sheet sheet' length length' place place' result
      → Says (write_checks nodes outer tails rotations capacities sheet) result place place' ((sheet' ≡ sheet) × (length' ≡ length))
  pub solve_says : (s : List ℕ) (source sink : ℕ) (value : ℤ) (flows flows' : List ℤ) (set set' : List ℕ) (can can' size size' place place' result : ℕ)
      → TellsSolve s source sink value flows flows' set set' can can' size size' place place' result
      → Says (solve_checks s source sink value flows set) result place place' ((flows' ≡ flows) × (set' ≡ set) × (can' ≡ can) × (size' ≡ size))
  pub largest_says : (s : List ℕ) (source sink : ℕ) (flows flows' : List ℤ) (set set' : List ℕ) (found found' : ℕ) (value value' : ℤ) (place place' result : ℕ)
      → TellsLargest s source sink flows flows' set set' found found' value value' place place' result
      → Says (largest_checks s source sink flows set) result place place' ((flows' ≡ flows) × (set' ≡ set) × (found' ≡ found) × (value' ≡ value))
  pub range_says : (s : List ℕ) (source sink : ℕ) (low low' : List ℤ) (below below' : List ℕ) (high high' : List ℤ) (above above' : List ℕ)
      (found found' : ℕ) (least least' largest largest' : ℤ) (place place' result : ℕ)
      → TellsRange s source sink low low' below below' high high' above above' found found' least least' largest largest' place place' result
      → Says (range_checks s source sink low below high above) result place place'
      ((low' ≡ low) × (below' ≡ below) × (high' ≡ high) × (above' ≡ above) × (found' ≡ found) × (least' ≡ least) × (largest' ≡ largest))
  pub raise_says : (s : List ℕ) (source sink : ℕ) (value : ℤ) (edge : ℕ) (flows flows' : List ℤ) (set set' : List ℕ)
      (found found' : ℕ) (limit limit' : ℤ) (place place' result : ℕ)
      → TellsRaise s source sink value edge flows flows' set set' found found' limit limit' place place' result
      → Says (raise_checks s source sink value edge flows set) result place place' ((flows' ≡ flows) × (set' ≡ set) × (found' ≡ found) × (limit' ≡ limit))
  pub after_says : (s b : List ℕ) (w n source sink : ℕ) (limits limits' flows flows' : List ℤ) (set set' : List ℕ)
      (found found' : ℕ) (value value' : ℤ) (place place' result : ℕ)
      → TellsAfter s b w n source sink limits limits' flows flows' set set' found found' value value' place place' result
      → Says (after_checks s b w n source sink limits flows set) result place place'
      ((limits' ≡ limits) × (flows' ≡ flows) × (set' ≡ set) × (found' ≡ found) × (value' ≡ value))
  pub page_says : (s : List ℕ) (count : ℕ) (sources sinks : List ℕ) (values flows flows' : List ℤ)
      (sets sets' answers answers' sizes sizes' : List ℕ) (place place' result : ℕ)
      → TellsPage s count sources sinks values flows flows' sets sets' answers answers' sizes sizes' place place' result
      → Says (page_checks s count flows sets) result place place' ((flows' ≡ flows) × (sets' ≡ sets) × (answers' ≡ answers) × (sizes' ≡ sizes))
  pub mark_says : (s : List ℕ) (source sink : ℕ) (flows : List ℤ) (value value' : ℤ) (place place' result : ℕ)
      → TellsMark s source sink flows value value' place place' result → Says (mark_checks s source sink flows) result place place' (value' ≡ value)
  pub levels_says : (s : List ℕ) (flows levels levels' : List ℤ) (place place' result : ℕ)
      → TellsLevels s flows levels levels' place place' result → Says (levels_checks s flows levels) result place place' (levels' ≡ levels)
  pub settings_says : (s : List ℕ) (levels flows flows' : List ℤ) (place place' result : ℕ)
      → TellsSettings s levels flows flows' place place' result → Says (settings_checks s levels flows) result place place' (flows' ≡ flows)
  pub totals_says : (s set : List ℕ) (out out' : List ℤ) (total total' : ℤ) (place place' result : ℕ)
      → TellsTotals s set out out' total total' place place' result
      → Says (totals_checks s set out) result place place' ((out' ≡ out) × (total' ≡ total))
  pub dimacs_says : (s : List ℕ) (source sink : ℕ) (text text' : List ℕ) (length length' place place' result : ℕ)
      → TellsDimacs s source sink text text' length length' place place' result
      → Says (dimacs_checks s source sink text) result place place' ((text' ≡ text) × (length' ≡ length))
  pub practice_says : (rows columns seed : ℕ) (sheet sheet' : List ℕ) (length length' place place' result : ℕ)
      → TellsPractice rows columns seed sheet sheet' length length' place place' result
      → Says (practice_checks rows columns seed sheet) result place place' ((sheet' ≡ sheet) × (length' ≡ length))
  pub examine_says : (s : List ℕ) (source sink : ℕ) (value : ℤ) (claims : List ℤ) (kinds : List ℕ) (settings : List ℤ) (sets points points' : List ℕ)
      (number number' sum sum' least least' greatest greatest' place place' result : ℕ)
      → TellsExamine s source sink value claims kinds settings sets points points' number number' sum sum' least least' greatest greatest' place place' result
      → Says (examine_checks s source sink value (length claims) (length kinds) (length settings) (length sets) (length points)) result place place'
      ((points' ≡ points) × (number' ≡ number) × (sum' ≡ sum) × (least' ≡ least) × (greatest' ≡ greatest))
  -- of the key's text: a key that says "refused" is an answer
  pub key_says : (input text text' : List ℕ) (length length' place place' result : ℕ)
      → TellsKey input text text' length length' place place' result
      → Says (key_room_checks text) result place place' ((text' ≡ text) × (length' ≡ length))
  -- of a session, whatever value it is: a refused start leaves the one of no nodes
  pub start_says : (s : List ℕ) (S' : Shared) (place place' result : ℕ)
      → TellsStart s S' place place' result → Says (sheet_checks s) result place place' (S' ≡ emptied)
  pub ask_says : (S S' : Shared) (p source sink : ℕ) (value : ℤ) (flows flows' : List ℤ) (set set' : List ℕ) (can can' size size' place place' result : ℕ)
      → TellsAsk S p source sink value flows flows' set set' S' can can' size size' place place' result
      → Says (ask_checks (shared_drawing S) (S.standing p) p source sink value flows set) result place place'
      ((S' ≡ S) × (flows' ≡ flows) × (set' ≡ set) × (can' ≡ can) × (size' ≡ size))
  pub commit_says : (S S' : Shared) (p place place' result : ℕ)
      → TellsCommit S p S' place place' result → Says (commit_checks S p) result place place' (S' ≡ S)

-- ── Document 02, Job 8: 11, "not connected", is never given, by any operation: it is no answer of the checks that the contracts name. (A question of a page is
-- refused by 13, 14 or 15 alone.) ──
pub record NeverEleven : Type 0 where
  pub read : (s tails rotations : List ℕ) (capacities : List ℤ) (p : ℕ) → FirstOf (read_checks s tails rotations capacities) 11 p → ⊥
  pub write : (nodes outer : ℕ) (tails rotations : List ℕ) (capacities : List ℤ) (sheet : List ℕ) (p : ℕ)
      → FirstOf (write_checks nodes outer tails rotations capacities sheet) 11 p → ⊥
  pub solve : (s : List ℕ) (source sink : ℕ) (value : ℤ) (flows : List ℤ) (set : List ℕ) (p : ℕ) → FirstOf (solve_checks s source sink value flows set) 11 p → ⊥
  pub largest : (s : List ℕ) (source sink : ℕ) (flows : List ℤ) (set : List ℕ) (p : ℕ) → FirstOf (largest_checks s source sink flows set) 11 p → ⊥
  pub range : (s : List ℕ) (source sink : ℕ) (low : List ℤ) (below : List ℕ) (high : List ℤ) (above : List ℕ) (p : ℕ)
      → FirstOf (range_checks s source sink low below high above) 11 p → ⊥
  pub raise : (s : List ℕ) (source sink : ℕ) (value : ℤ) (edge : ℕ) (flows : List ℤ) (set : List ℕ) (p : ℕ)
      → FirstOf (raise_checks s source sink value edge flows set) 11 p → ⊥
  pub after : (s b : List ℕ) (w n source sink : ℕ) (limits flows : List ℤ) (set : List ℕ) (p : ℕ)
      → FirstOf (after_checks s b w n source sink limits flows set) 11 p → ⊥
  pub page : (s : List ℕ) (count : ℕ) (flows : List ℤ) (sets : List ℕ) (p : ℕ) → FirstOf (page_checks s count flows sets) 11 p → ⊥
  pub mark : (s : List ℕ) (source sink : ℕ) (flows : List ℤ) (p : ℕ) → FirstOf (mark_checks s source sink flows) 11 p → ⊥
  pub levels : (s : List ℕ) (flows levels : List ℤ) (p : ℕ) → FirstOf (levels_checks s flows levels) 11 p → ⊥
  pub settings : (s : List ℕ) (levels flows : List ℤ) (p : ℕ) → FirstOf (settings_checks s levels flows) 11 p → ⊥
  pub totals : (s set : List ℕ) (out : List ℤ) (p : ℕ) → FirstOf (totals_checks s set out) 11 p → ⊥
  pub dimacs : (s : List ℕ) (source sink : ℕ) (text : List ℕ) (p : ℕ) → FirstOf (dimacs_checks s source sink text) 11 p → ⊥
  pub practice : (rows columns seed : ℕ) (sheet : List ℕ) (p : ℕ) → FirstOf (practice_checks rows columns seed sheet) 11 p → ⊥
  pub examine : (s : List ℕ) (source sink : ℕ) (value : ℤ) (n kinds settings sets points p : ℕ)
      → FirstOf (examine_checks s source sink value n kinds settings sets points) 11 p → ⊥
  -- neither is it printed in a key, ..
  pub key : (b : List ℕ) (p : ℕ) → FirstOf (key_checks b) 11 p → ⊥
  pub key_room : (text : List ℕ) (p : ℕ) → FirstOf (key_room_checks text) 11 p → ⊥
  -- .. nor given in a session
  pub start : (s : List ℕ) (p : ℕ) → FirstOf (sheet_checks s) 11 p → ⊥
  pub ask : (S : Shared) (party source sink : ℕ) (value : ℤ) (flows : List ℤ) (set : List ℕ) (p : ℕ)
      → FirstOf (ask_checks (shared_drawing S) (S.standing party) party source sink value flows set) 11 p → ⊥
  pub commit : (S : Shared) (party p : ℕ) → FirstOf (commit_checks S party) 11 p → ⊥
