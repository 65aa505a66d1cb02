-- What an operation does not write, from its contract: a slice that is filled in front is as it was behind, and a set that is written is followed by what was
-- there.
use mathlib.Core.Path.{◌≡◌, sym, ◌∙◌, ap}
use mathlib.Core.List.{List}
use Prim.Native.Nat.{ℕ, ◌*◌}
use lib.ListN.{drop}
use lib.Seq.{drop_at}
use lib.IntN.{ℤ}
use Rattle.std.specs.Prelude.{Option, Some, None, Result, Ok, Err}
use Rattle.integers.specs.Sum.{count}
use Rattle.refusals.specs.declared.Refusal.{Refusal}
use Rattle.maps.specs.Face.{faces}
use Rattle.flows.specs.ProvingSet.{words_for, member}
use Rattle.arrays.specs.Filled.{tabulate, filled}
use Rattle.arrays.proofs.Tabulate.{length_tabulate}
use Rattle.records.specs.Sheet.{nodes_of, edges_of, capacity_of, sheet_map, sheet_drawing}
use Rattle.questions.specs.Question.{SetWritten}
use Rattle.questions.specs.declared.Solution.{Solution}
use Rattle.questions.specs.declared.Solution.TheVariants.{Can, Cannot}
use Rattle.ranges.specs.declared.Range.{Range}
use Rattle.pages.specs.declared.Question.{Question}
use Rattle.pages.specs.declared.Page.{Page}
use Rattle.totals.specs.Subtotal.{subtotal, listed}
use Rattle.totals.proofs.Listing.{length_listed}
use Rattle.dimacs.specs.Write.{text_of}
use Rattle.analyser.specs.Solve.{Solves}
use Rattle.analyser.specs.Largest.{FindsLargest}
use Rattle.analyser.specs.Range.{FindsRange}
use Rattle.analyser.specs.Raise.{RaisesLimit}
use Rattle.analyser.specs.After.{FindsAfter}
use Rattle.analyser.specs.Page.{AnswersPage}
use Rattle.analyser.specs.LevelsOf.{GivesLevels}
use Rattle.analyser.specs.SettingsOf.{GivesSettings}
use Rattle.analyser.specs.Totals.{GivesTotals}
use Rattle.analyser.specs.Dimacs.{WritesDimacs}
use Rattle.analyser.specs.LentMemory.{KeptFrom, ExtraElements, NotWritten, RefusedUnchanged}

-- ── behind what is written ──
filled_kept : {A : Type 0} (n : ℕ) (f : ℕ → A) (old new : List A) → new ≡ filled n f old → KeptFrom n old new
filled_kept n f old new h = ap (drop n) h ∙ drop_at (tabulate n f) (drop n old) n (length_tabulate n f)

written_kept : {nodes : ℕ} {words set set' : List ℕ} → SetWritten nodes words set set' → KeptFrom (words_for nodes) set set'
written_kept {nodes} {words} {set} w = ap (drop (words_for nodes)) w.placed ∙ drop_at words (drop (words_for nodes) set) (words_for nodes) w.is_set.long

same_kept : {A : Type 0} (n : ℕ) (l l' : List A) → l' ≡ l → KeptFrom n l l'
same_kept n l l' e = ap (drop n) e

-- ── of each operation ──
solve_extra : (s : List ℕ) (source sink : ℕ) (value : ℤ) (flows flows' : List ℤ) (set set' : List ℕ) (answer : Result Solution Refusal)
    → Solves s source sink value flows flows' set set' answer → KeptFrom (edges_of s) flows flows' × KeptFrom (words_for (nodes_of s)) set set'
solve_extra s source sink value flows flows' set set' (Ok Can) h =
    (filled_kept (edges_of s) h.1.0 flows flows' h.1.2, same_kept (words_for (nodes_of s)) set set' h.2)
solve_extra s source sink value flows flows' set set' (Ok (Cannot n)) h = (same_kept (edges_of s) flows flows' h.2, written_kept h.1.1)
solve_extra s source sink value flows flows' set set' (Err r) h =
    (same_kept (edges_of s) flows flows' h.1, same_kept (words_for (nodes_of s)) set set' h.2)

largest_extra : (s : List ℕ) (source sink : ℕ) (flows flows' : List ℤ) (set set' : List ℕ) (answer : Result (Option ℤ) Refusal)
    → FindsLargest s source sink flows flows' set set' answer → KeptFrom (edges_of s) flows flows' × KeptFrom (words_for (nodes_of s)) set set'
largest_extra s source sink flows flows' set set' (Ok (Some v)) h =
    (filled_kept (edges_of s) h.1.0 flows flows' h.1.2, written_kept h.2.1)
largest_extra s source sink flows flows' set set' (Ok None) h = (same_kept (edges_of s) flows flows' h.1, written_kept h.2.1)
largest_extra s source sink flows flows' set set' (Err r) h =
    (same_kept (edges_of s) flows flows' h.1, same_kept (words_for (nodes_of s)) set set' h.2)

range_extra : (s : List ℕ) (source sink : ℕ) (low low' : List ℤ) (below below' : List ℕ) (high high' : List ℤ) (above above' : List ℕ)
    (answer : Result (Option Range) Refusal) → FindsRange s source sink low low' below below' high high' above above' answer
    → KeptFrom (edges_of s) low low' × KeptFrom (words_for (nodes_of s)) below below'
    × KeptFrom (edges_of s) high high' × KeptFrom (words_for (nodes_of s)) above above'
range_extra s source sink low low' below below' high high' above above' (Ok (Some r)) h = (
  filled_kept (edges_of s) h.1.0 low low' h.1.2,
  written_kept h.2.1,
  filled_kept (edges_of s) h.3.0 high high' h.3.2,
  written_kept h.4.1,
)
range_extra s source sink low low' below below' high high' above above' (Ok None) h =
    (same_kept (edges_of s) low low' h.1, written_kept h.3.1, same_kept (edges_of s) high high' h.2, written_kept h.3.2)
range_extra s source sink low low' below below' high high' above above' (Err r) h = (
  same_kept (edges_of s) low low' h.1,
  same_kept (words_for (nodes_of s)) below below' h.2,
  same_kept (edges_of s) high high' h.3,
  same_kept (words_for (nodes_of s)) above above' h.4,
)

raise_extra : (s : List ℕ) (source sink : ℕ) (value : ℤ) (edge : ℕ) (flows flows' : List ℤ) (set set' : List ℕ) (answer : Result (Option ℤ) Refusal)
    → RaisesLimit s source sink value edge flows flows' set set' answer → KeptFrom (edges_of s) flows flows' × KeptFrom (words_for (nodes_of s)) set set'
raise_extra s source sink value edge flows flows' set set' (Ok (Some v)) h =
    (filled_kept (edges_of s) h.3.0 flows flows' h.3.2, same_kept (words_for (nodes_of s)) set set' h.5)
raise_extra s source sink value edge flows flows' set set' (Ok None) h = (same_kept (edges_of s) flows flows' h.1, written_kept h.2.1)
raise_extra s source sink value edge flows flows' set set' (Err r) h =
    (same_kept (edges_of s) flows flows' h.1, same_kept (words_for (nodes_of s)) set set' h.2)

after_extra : (s b : List ℕ) (w n source sink : ℕ) (limits limits' flows flows' : List ℤ) (set set' : List ℕ) (answer : Result (Option ℤ) Refusal)
    → FindsAfter s b w n source sink limits limits' flows flows' set set' answer
    → KeptFrom (edges_of s) limits limits' × KeptFrom (edges_of s) flows flows' × KeptFrom (words_for (nodes_of s)) set set'
after_extra s b w n source sink limits limits' flows flows' set set' (Ok (Some v)) h =
    (filled_kept (edges_of s) _ limits limits' h.0, filled_kept (edges_of s) h.1.1.0 flows flows' h.1.1.2, written_kept h.1.2.1)
after_extra s b w n source sink limits limits' flows flows' set set' (Ok None) h =
    (filled_kept (edges_of s) _ limits limits' h.0, same_kept (edges_of s) flows flows' h.1.1, written_kept h.1.2.1)
after_extra s b w n source sink limits limits' flows flows' set set' (Err r) h = (
  same_kept (edges_of s) limits limits' h.0,
  same_kept (edges_of s) flows flows' h.1.1,
  same_kept (words_for (nodes_of s)) set set' h.1.2,
)

page_extra : (s : List ℕ) (n : ℕ) (question : ℕ → Question) (flows flows' : List ℤ) (sets sets' : List ℕ) (answer : Result Page Refusal)
    → AnswersPage s n question flows flows' sets sets' answer → KeptFrom (n * edges_of s) flows flows' × KeptFrom (n * words_for (nodes_of s)) sets sets'
page_extra s n question flows flows' sets sets' (Ok page) h = (h.3.1, h.4.1)
page_extra s n question flows flows' sets sets' (Err r) h =
    (same_kept (n * edges_of s) flows flows' h.1, same_kept (n * words_for (nodes_of s)) sets sets' h.2)

levels_extra : (s : List ℕ) (flows levels levels' : List ℤ) (answer : Result Unit Refusal)
    → GivesLevels s flows levels levels' answer → KeptFrom (faces (sheet_map s)) levels levels'
levels_extra s flows levels levels' (Ok done) h = filled_kept (faces (sheet_map s)) h.1.0 levels levels' h.1.2
levels_extra s flows levels levels' (Err r) h = same_kept (faces (sheet_map s)) levels levels' h.1

settings_extra : (s : List ℕ) (levels flows flows' : List ℤ) (answer : Result Unit Refusal)
    → GivesSettings s levels flows flows' answer → KeptFrom (edges_of s) flows flows'
settings_extra s levels flows flows' (Ok done) h = filled_kept (edges_of s) _ flows flows' h.1
settings_extra s levels flows flows' (Err r) h = same_kept (edges_of s) flows flows' h.1

totals_extra : (s set : List ℕ) (out out' : List ℤ) (answer : Result ℤ Refusal)
    → GivesTotals s set out out' answer → KeptFrom (count (nodes_of s) (member set)) out out'
totals_extra s set out out' (Ok t) h =
    let written = listed (nodes_of s) (member set) (subtotal (sheet_map s) (capacity_of s) (member set)) in
    let n = count (nodes_of s) (member set) in
    ap (drop n) h.1 ∙ drop_at written (drop n out) n (length_listed (nodes_of s) (member set) (subtotal (sheet_map s) (capacity_of s) (member set)))
totals_extra s set out out' (Err r) h = same_kept (count (nodes_of s) (member set)) out out' h.1

dimacs_extra : (s : List ℕ) (source sink : ℕ) (out out' : List ℕ) (n : ℕ) → WritesDimacs s source sink out out' (Ok n) → KeptFrom n out out'
dimacs_extra s source sink out out' n h = ap (drop n) h.2 ∙ drop_at (text_of (sheet_drawing s) source sink) (drop n out) n (sym h.1)

pub extra_elements : ExtraElements
extra_elements = record {
  solve_extra = solve_extra;
  largest_extra = largest_extra;
  range_extra = range_extra;
  raise_extra = raise_extra;
  after_extra = after_extra;
  page_extra = page_extra;
  levels_extra = levels_extra;
  settings_extra = settings_extra;
  totals_extra = totals_extra;
  dimacs_extra = dimacs_extra;
}

pub not_written : NotWritten
not_written = record {
  can_set = λ s source sink value flows flows' set set' h. h.2;
  cannot_settings = λ s source sink value flows flows' set set' n h. h.2;
  none_settings = λ s source sink flows flows' set set' h. h.1;
  range_none_settings = λ s source sink low low' below below' high high' above above' h. (h.1, h.2);
  after_none_settings = λ s b w n source sink limits limits' flows flows' set set' h. h.1.1;
  limit_set = λ s source sink value edge flows flows' set set' v h. h.5;
  raise_none_settings = λ s source sink value edge flows flows' set set' h. h.1;
}

pub refused_unchanged : RefusedUnchanged
refused_unchanged = record {
  solve_refused = λ s source sink value flows flows' set set' r h. (h.1, h.2);
  largest_refused = λ s source sink flows flows' set set' r h. (h.1, h.2);
  range_refused = λ s source sink low low' below below' high high' above above' r h. (h.1, h.2, h.3, h.4);
  raise_refused = λ s source sink value edge flows flows' set set' r h. (h.1, h.2);
  after_refused = λ s b w n source sink limits limits' flows flows' set set' r h. (h.0, h.1.1, h.1.2);
  page_refused = λ s n question flows flows' sets sets' r h. (h.1, h.2);
  levels_refused = λ s flows levels levels' r h. h.1;
  settings_refused = λ s levels flows flows' r h. h.1;
  totals_refused = λ s set out out' r h. h.1;
  dimacs_refused = λ s source sink out out' r h. h.1;
}
