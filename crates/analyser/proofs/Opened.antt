-- An opened sheet, for every operation: the arrays filled from it hold its drawing, so that what an operation on drawings asks is met, and what it answers is
-- the answer on the sheet, with the sheet checks in front.
use mathlib.Core.Path.{◌≡◌, refl, sym, subst}
use mathlib.Core.List.{List}
use Prim.Native.Nat.{ℕ, ◌*◌, ◌≤◌, ◌<◌}
use native.Mathlib.Omega.{arith}
use lib.IntN.{ℤ}
use Rattle.integers.specs.inner.Limited.{Limited}
use Rattle.std.specs.Prelude.{Result, Ok, Err, Option}
use Rattle.refusals.specs.Order.{NoneOf, FirstOf}
use Rattle.refusals.specs.declared.Refusal.{Refusal}
use Rattle.refusals.proofs.Order.{first_left, none_append, first_right}
use Rattle.maps.specs.Map.{darts}
use Rattle.maps.specs.Drawing.{Drawing}
use Rattle.arrays.specs.At.{at, atℤ}
use Rattle.arrays.specs.Maps.{drawing_of}
use Rattle.arrays.specs.inner.Sizes.{most_on_sheet}
use Rattle.arrays.specs.inner.Drawn.{Drawn}
use Rattle.arrays.specs.declared.Sizes.{Sizes}
use Rattle.grouping.specs.inner.Walked.{Walked}
use Rattle.grouping.specs.inner.OpenDrawing.{OpenDrawing}
use Rattle.records.specs.Sheet.{nodes_of, edges_of, capacity_of, sheet_map, sheet_drawing}
use Rattle.records.proofs.Bytes.{bytes_range}
use Rattle.sheets.specs.Open.{sheet_checks, Holds}
use Rattle.sheets.specs.declared.Network.{Network}
use Rattle.sheets.proofs.Accepted.{sheet_bytes, sheet_counts}
use Rattle.sheets.proofs.Opening.{drawings_are}
use Rattle.questions.specs.Solve.{question_checks, Solved}
use Rattle.questions.specs.inner.Named.{SetNamed}
use Rattle.questions.specs.inner.Lent.{OpenSheet, OpenPaper}
use Rattle.questions.specs.Largest.{search_checks, LargestFound}
use Rattle.questions.specs.Mark.{paper_checks, Marked}
use Rattle.questions.specs.declared.Solution.{Solution}
use Rattle.questions.proofs.After.{solved_after, largest-after, marked_after}
use Rattle.ranges.specs.Range.{span_checks, RangeFound}
use Rattle.ranges.specs.declared.Range.{Range}
use Rattle.ranges.proofs.After.{range_after}
use Rattle.maps.specs.Check.{Sound}
use Rattle.totals.specs.Totals.{total_checks, TotalGiven}
use Rattle.totals.proofs.Giving.{total_after}
use Rattle.raising.specs.Raise.{limit_checks, RaiseFound}
use Rattle.raising.proofs.After.{raise_after}
use Rattle.capture.specs.Capture.{capture_checks, FoundAfter}
use Rattle.capture.proofs.Finding.{after_after}
use Rattle.flows.specs.ProvingSet.{words_for}
use Rattle.pages.specs.Page.{list_checks, Paged}
use Rattle.pages.specs.inner.Listed.{solved_alone}
use Rattle.pages.specs.declared.Question.{Question}
use Rattle.pages.specs.declared.Page.{Page}
use Rattle.levels.specs.LevelsOf.{balanced_checks, LevelsGiven}
use Rattle.levels.specs.SettingsOf.{leveled_checks, SettingsGiven}
use Rattle.levels.proofs.After.{levels_after, settings_after}
use Rattle.dimacs.specs.Write.{text_checks, TextWritten}
use Rattle.dimacs.proofs.Writing.{text_after}
use Rattle.analyser.specs.Solve.{solve_checks, Solves}
use Rattle.analyser.specs.Largest.{largest_checks, FindsLargest}
use Rattle.analyser.specs.Range.{range_checks, FindsRange}
use Rattle.analyser.specs.Raise.{raise_checks, RaisesLimit}
use Rattle.analyser.specs.After.{after_checks, FindsAfter}
use Rattle.analyser.specs.Page.{page_checks, AnswersPage}
use Rattle.analyser.specs.inner.Named.{PageNamed}
use Rattle.analyser.specs.Mark.{mark_checks, Marks}
use Rattle.analyser.specs.LevelsOf.{levels_checks, GivesLevels}
use Rattle.analyser.specs.SettingsOf.{settings_checks, GivesSettings}
use Rattle.analyser.specs.Totals.{totals_checks, GivesTotals}
use Rattle.analyser.specs.Dimacs.{dimacs_checks, WritesDimacs}
use Rattle.analyser.proofs.SheetPlane.{sheet_drawn, capacity_small}

-- ── a refused sheet: nothing is written ──
module _ (s : List ℕ) (r : Refusal) (first : FirstOf (sheet_checks s) r.number r.place) where
  pub solve_refused : (source sink : ℕ) (value : ℤ) (flows : List ℤ) (set : List ℕ) → Solves s source sink value flows flows set set (Err r)
  unfolding solve_checks
  solve_refused source sink value flows set = (first_left (sheet_checks s) _ r.number r.place first, refl, refl)

  pub largest_refused : (source sink : ℕ) (flows : List ℤ) (set : List ℕ) → FindsLargest s source sink flows flows set set (Err r)
  unfolding largest_checks
  largest_refused source sink flows set = (first_left (sheet_checks s) _ r.number r.place first, refl, refl)

  pub range_refused : (source sink : ℕ) (low : List ℤ) (below : List ℕ) (high : List ℤ) (above : List ℕ)
      → FindsRange s source sink low low below below high high above above (Err r)
  unfolding range_checks
  range_refused source sink low below high above = (first_left (sheet_checks s) _ r.number r.place first, refl, refl, refl, refl)

  pub raise_refused : (source sink : ℕ) (value : ℤ) (edge : ℕ) (flows : List ℤ) (set : List ℕ)
      → RaisesLimit s source sink value edge flows flows set set (Err r)
  unfolding raise_checks
  raise_refused source sink value edge flows set = (first_left (sheet_checks s) _ r.number r.place first, refl, refl)

  pub after_refused : (b : List ℕ) (w n source sink : ℕ) (limits flows : List ℤ) (set : List ℕ)
      → FindsAfter s b w n source sink limits limits flows flows set set (Err r)
  unfolding after_checks
  after_refused b w n source sink limits flows set = (refl, (first_left (sheet_checks s) _ r.number r.place first, refl, refl))

  pub page_refused : (n : ℕ) (question : ℕ → Question) (flows : List ℤ) (sets : List ℕ) → AnswersPage s n question flows flows sets sets (Err r)
  unfolding page_checks
  page_refused n question flows sets = (first_left (sheet_checks s) _ r.number r.place first, refl, refl)

  pub mark_refused : (source sink : ℕ) (flows : List ℤ) → Marks s source sink flows (Err r)
  unfolding mark_checks
  mark_refused source sink flows = first_left (sheet_checks s) _ r.number r.place first

  pub levels_refused : (flows levels : List ℤ) → GivesLevels s flows levels levels (Err r)
  unfolding levels_checks
  levels_refused flows levels = (first_left (sheet_checks s) _ r.number r.place first, refl)

  pub settings_refused : (levels flows : List ℤ) → GivesSettings s levels flows flows (Err r)
  unfolding settings_checks
  settings_refused levels flows = (first_left (sheet_checks s) _ r.number r.place first, refl)

  pub totals_refused : (set : List ℕ) (out : List ℤ) → GivesTotals s set out out (Err r)
  unfolding totals_checks
  totals_refused set out = (first_left (sheet_checks s) _ r.number r.place first, refl)

  pub dimacs_refused : (source sink : ℕ) (out : List ℕ) → WritesDimacs s source sink out out (Err r)
  unfolding dimacs_checks
  dimacs_refused source sink out = (first_left (sheet_checks s) _ r.number r.place first, refl)

-- ── an accepted one ──
module _ (s : List ℕ) (net : Network) (sizes : Sizes) (open' : NoneOf (sheet_checks s) × Holds s net sizes) where
  abbrev held : Drawing
  held = drawing_of sizes.nodes sizes.edges sizes.outer net.tails net.rotations net.capacities

  same : drawing_of sizes.nodes sizes.edges sizes.outer net.tails net.rotations net.capacities ≡ sheet_drawing s
  same =
      let h = open'.1 in
      drawings_are s sizes.nodes sizes.edges sizes.outer net.tails net.rotations net.capacities
      h.nodes_are h.edges_are h.outer_is h.tails_are h.rotations_are h.capacities_are

  pub drawn : Drawn held.map (at net.lefts) sizes.faces sizes.outer (atℤ net.capacities)
  drawn =
      subst (λ 𝓓. Drawn 𝓓.map (at net.lefts) sizes.faces 𝓓.outer 𝓓.capacity) (sym same)
      (sheet_drawn s open'.0 (at net.lefts) sizes.faces open'.1.lefts_are open'.1.faces_are)

  pub small : (d : ℕ) → d < 2 * sizes.edges → Limited most_on_sheet (atℤ net.capacities d)
  small = subst (λ 𝓓. (d : ℕ) → d < darts 𝓓.map → Limited most_on_sheet (𝓓.capacity d)) (sym same) (capacity_small s open'.0)

  -- what levels are asked of
  pub leveling : Drawn held.map (at net.lefts) sizes.faces sizes.outer (atℤ net.capacities)
      × ((d : ℕ) → d < 2 * sizes.edges → Limited most_on_sheet (atℤ net.capacities d))
  leveling = (drawn, small)

  -- what decisions are lent
  pub opened : (order from grouped starts : List ℕ)
      → Walked (2 * sizes.edges) sizes.faces sizes.outer sizes.parts (at net.rotations) net.lefts order from grouped starts
      → OpenDrawing sizes net.tails net.rotations net.lefts net.capacities order from grouped starts
  opened order from grouped starts walked = record { drawn = drawn; walked = walked }

  pub opened_sheet : (order from grouped starts : List ℕ)
      → Walked (2 * sizes.edges) sizes.faces sizes.outer sizes.parts (at net.rotations) net.lefts order from grouped starts
      → OpenSheet sizes net.tails net.rotations net.lefts net.capacities order from grouped starts
  opened_sheet order from grouped starts walked = record { opened = opened order from grouped starts walked; small = small }

  -- what Mark asks, which is less
  pub markable : OpenPaper sizes net.tails net.capacities
  markable =
      let n = sheet_counts s open'.0 in record {
        few_nodes = omega (arith, open'.1.nodes_are, n.1);
        few_edges = omega (arith, open'.1.edges_are, n.3);
        tails_in =
            subst (λ 𝓓. (d : ℕ) → d < darts 𝓓.map → 𝓓.map.tail d < 𝓓.map.nodes) (sym same) (bytes_range s (sheet_bytes s open'.0)).tail_in;
        small = small;
      }

  pub solved_sheet : {u source w sink : ℕ} {v value : ℤ} → u ≡ source → w ≡ sink → v ≡ value → (flows flows' : List ℤ) (set set' : List ℕ)
      (r : Result Solution Refusal) → Solved held
      (question_checks sizes.nodes sizes.edges u w v flows set) u w v flows flows' set set' r
      → Solves s source sink value flows flows' set set' r
  unfolding solve_checks
  solved_sheet {source = source} {sink = sink} {value = value} from to e flows flows' set set' r h =
      solved_after (sheet_checks s) open'.0 (sheet_drawing s) _ source sink value flows flows' set set' r
      (subst (λ 𝓓. Solved 𝓓 (question_checks 𝓓.map.nodes 𝓓.map.edges source sink value flows set) source sink value flows flows' set set' r) same
      (rw (from, to, e) at h))

  -- and its set is the one that the search names
  pub named_sheet : {u source w sink : ℕ} {v value : ℤ} → u ≡ source → w ≡ sink → v ≡ value → (set' : List ℕ) (r : Result Solution Refusal)
      → SetNamed held u w v set' r → SetNamed (sheet_drawing s) source sink value set' r
  named_sheet {source = source} {sink = sink} {value = value} from to e set' r h =
      subst (λ 𝓓. SetNamed 𝓓 source sink value set' r) same (rw (from, to, e) at h)

  pub largest_sheet : {u source w sink : ℕ} → u ≡ source → w ≡ sink → (flows flows' : List ℤ) (set set' : List ℕ) (r : Result (Option ℤ) Refusal)
      → LargestFound held (search_checks sizes.nodes sizes.edges u w flows set) u w flows flows' set set' r
      → FindsLargest s source sink flows flows' set set' r
  unfolding largest_checks
  largest_sheet {source = source} {sink = sink} from to flows flows' set set' r h =
      largest-after (sheet_checks s) open'.0 (sheet_drawing s) _ source sink flows flows' set set' r
      (subst (λ 𝓓. LargestFound 𝓓 (search_checks 𝓓.map.nodes 𝓓.map.edges source sink flows set) source sink flows flows' set set' r) same
      (rw (from, to) at h))

  pub range_sheet : {u source w sink : ℕ} → u ≡ source → w ≡ sink
      → (low low' : List ℤ) (below below' : List ℕ) (high high' : List ℤ) (above above' : List ℕ) (r : Result (Option Range) Refusal)
      → RangeFound held (span_checks sizes.nodes sizes.edges u w low below high above) u w low low' below below' high high' above above' r
      → FindsRange s source sink low low' below below' high high' above above' r
  unfolding range_checks
  range_sheet {source = source} {sink = sink} from to low low' below below' high high' above above' r h =
      range_after (sheet_checks s) open'.0 (sheet_drawing s) _ source sink low low' below below' high high' above above' r
      (subst (λ 𝓓. RangeFound 𝓓 (span_checks 𝓓.map.nodes 𝓓.map.edges source sink low below high above)
      source sink low low' below below' high high' above above' r) same (rw (from, to) at h))

  pub raise_sheet : {u source w sink x edge : ℕ} {v value : ℤ} → u ≡ source → w ≡ sink → v ≡ value → x ≡ edge
      → (flows flows' : List ℤ) (set set' : List ℕ) (r : Result (Option ℤ) Refusal)
      → RaiseFound held (limit_checks sizes.nodes sizes.edges u w v x flows set) u w v x flows flows' set set' r
      → RaisesLimit s source sink value edge flows flows' set set' r
  unfolding raise_checks
  raise_sheet {source = source} {sink = sink} {edge = edge} {value = value} from to e along flows flows' set set' r h =
      raise_after (sheet_checks s) open'.0 (sheet_drawing s) _ source sink value edge flows flows' set set' r
      (subst (λ 𝓓. RaiseFound 𝓓 (limit_checks 𝓓.map.nodes 𝓓.map.edges source sink value edge flows set)
      source sink value edge flows flows' set set' r) same (rw (from, to, e, along) at h))

  pub after_sheet : (b : List ℕ) (w n : ℕ) {u source x sink : ℕ} → u ≡ source → x ≡ sink
      → (limits limits' flows flows' : List ℤ) (set set' : List ℕ) (r : Result (Option ℤ) Refusal)
      → FoundAfter held (capture_checks held b w n u x limits flows set) b w n u x limits limits' flows flows' set set' r
      → FindsAfter s b w n source sink limits limits' flows flows' set set' r
  unfolding after_checks
  after_sheet b w n {source = source} {sink = sink} from to limits limits' flows flows' set set' r h =
      after_after (sheet_checks s) open'.0 (sheet_drawing s) _ b w n source sink limits limits' flows flows' set set' r
      (subst (λ 𝓓. FoundAfter 𝓓 (capture_checks 𝓓 b w n source sink limits flows set) b w n source sink limits limits' flows flows' set set' r) same
      (rw (from, to) at h))

  module _ (n : ℕ) (question : ℕ → Question) (flows flows' : List ℤ) (sets sets' : List ℕ) where
    page_same : (r : Result Page Refusal)
        → Paged (list_checks sizes.nodes sizes.edges n flows sets) sizes.edges (words_for sizes.nodes) n
        (λ i. solved_alone held (question i)) flows flows' sets sets' r
        → Paged (list_checks (nodes_of s) (edges_of s) n flows sets) (edges_of s) (words_for (nodes_of s)) n
        (λ i. solved_alone (sheet_drawing s) (question i)) flows flows' sets sets' r
    page_same r h =
        subst (λ 𝓓. Paged (list_checks 𝓓.map.nodes 𝓓.map.edges n flows sets) 𝓓.map.edges (words_for 𝓓.map.nodes) n
        (λ i. solved_alone 𝓓 (question i)) flows flows' sets sets' r) same h

    pub page_sheet : (r : Result Page Refusal)
        → Paged (list_checks sizes.nodes sizes.edges n flows sets) sizes.edges (words_for sizes.nodes) n
        (λ i. solved_alone held (question i)) flows flows' sets sets' r
        → AnswersPage s n question flows flows' sets sets' r × PageNamed s n question sets' r
    unfolding page_checks solve_checks
    page_sheet (Ok page) h =
        let p = page_same (Ok page) h in (
          (
            none_append (sheet_checks s) _ open'.0 p.0,
            p.1,
            (λ i l. solved_after (sheet_checks s) open'.0 (sheet_drawing s) _ _ _ _ _ _ _ _ _ (p.2 i l).0),
            p.3,
            p.4,
            p.5,
          ),
          (λ i l. (p.2 i l).1),
        )
    page_sheet (Err r) h = let p = page_same (Err r) h in ((first_right (sheet_checks s) _ r.number r.place open'.0 p.0, p.1, p.2), tt)

  pub marked_sheet : {u source w sink : ℕ} → u ≡ source → w ≡ sink → (flows : List ℤ) (r : Result ℤ Refusal)
      → Marked held (paper_checks held u w flows) u w flows r → Marks s source sink flows r
  unfolding mark_checks
  marked_sheet {source = source} {sink = sink} from to flows r h =
      marked_after (sheet_checks s) open'.0 (sheet_drawing s) _ source sink flows r
      (subst (λ 𝓓. Marked 𝓓 (paper_checks 𝓓 source sink flows) source sink flows r) same (rw (from, to) at h))

  pub levels_sheet : (flows levels levels' : List ℤ) (r : Result Unit Refusal)
      → LevelsGiven held
      (balanced_checks held flows levels) flows levels levels' r
      → GivesLevels s flows levels levels' r
  unfolding levels_checks
  levels_sheet flows levels levels' r h =
      levels_after (sheet_checks s) open'.0 (sheet_drawing s) _ flows levels levels' r
      (subst (λ 𝓓. LevelsGiven 𝓓 (balanced_checks 𝓓 flows levels) flows levels levels' r) same h)

  pub settings_sheet : (levels flows flows' : List ℤ) (r : Result Unit Refusal)
      → SettingsGiven held
      (leveled_checks held levels flows) levels flows flows' r
      → GivesSettings s levels flows flows' r
  unfolding settings_checks
  settings_sheet levels flows flows' r h =
      settings_after (sheet_checks s) open'.0 (sheet_drawing s) _ levels flows flows' r
      (subst (λ 𝓓. SettingsGiven 𝓓 (leveled_checks 𝓓 levels flows) levels flows flows' r) same h)

  -- what Totals asks
  pub roundable : (sizes.nodes ≤ 1024) × (sizes.edges ≤ 512) × Sound held.map
      × ((d : ℕ) → d < 2 * sizes.edges → Limited most_on_sheet (atℤ net.capacities d))
  roundable = (markable.few_nodes, markable.few_edges, drawn.plane.sound, small)

  pub totals_sheet : (set : List ℕ) (out out' : List ℤ) (r : Result ℤ Refusal)
      → TotalGiven held.map (atℤ net.capacities) (total_checks sizes.nodes set out) set out out' r
      → GivesTotals s set out out' r
  unfolding totals_checks
  totals_sheet set out out' r h =
      total_after (sheet_checks s) open'.0 (sheet_map s) (capacity_of s) _ set out out' r
      (subst (λ 𝓓. TotalGiven 𝓓.map 𝓓.capacity (total_checks 𝓓.map.nodes set out) set out out' r) same h)

  -- what the text asks, which is less still
  pub counts_small : (sizes.nodes ≤ 1024) × (sizes.edges ≤ 512)
  counts_small = (markable.few_nodes, markable.few_edges)

  pub dimacs_sheet : (source sink : ℕ) (out out' : List ℕ) (r : Result ℕ Refusal)
      → TextWritten held
      (text_checks held source sink out) source sink out out' r
      → WritesDimacs s source sink out out' r
  unfolding dimacs_checks
  dimacs_sheet source sink out out' r h =
      text_after (sheet_checks s) open'.0 (sheet_drawing s) _ source sink out out' r
      (subst (λ 𝓓. TextWritten 𝓓 (text_checks 𝓓 source sink out) source sink out out' r) same h)
