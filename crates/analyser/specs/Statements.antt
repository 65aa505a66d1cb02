-- What the course book prints of the operations on sheets (document 01, demands 2 and 3; document 02, Jobs 1, 2, 4 and 6 to 10), as records: a field for each
-- statement, with the printed words above it. Each is about every run of an operation: all that a field knows of a run is its contract, `Solves`,
-- `FindsLargest`, `FindsRange`, `RaisesLimit`, `FindsAfter`, `AnswersPage`, `Marks`, `GivesLevels`, `GivesSettings`, `GivesTotals` or `WritesDimacs`. A sheet
-- or a question is accepted where no check of its list holds; an accepted sheet is flat, because 12 is among its checks, in one part or several. Settings are
-- any function from edges to whole numbers, deliveries any whole number. The proofs are in proofs/Statements.antt, Range.antt, Raise.antt, Captured.antt,
-- ByThePage.antt, Districts.antt, ByNode.antt and Dimacs.antt.
use Rattle.std.specs.Prelude.{ℕ, ◌+◌, ◌*◌, ◌≤◌, ◌<◌, ◌≡◌, ◌⊎◌, ◌↔◌, Bool, true, false, List, [], ◌∷◌, ◌++◌, length, take, ℤ, pos, ◌+ℤ◌, ◌-ℤ◌, ◌≤ℤ◌, ◌<ℤ◌}
use Rattle.std.specs.Prelude.{Option, Some, None, Result, Ok}
use Rattle.integers.specs.Sum.{sumℤ, count}
use Rattle.integers.specs.Sum as sum
use Rattle.refusals.specs.Order.{◌when◌, NoneOf, Judged}
use Rattle.refusals.specs.declared.Refusal.{Refusal}
use Rattle.refusals.specs.Refused.{refused}
use Rattle.maps.specs.Map.{darts}
use Rattle.maps.specs.Face.{faces, left}
use Rattle.maps.specs.Walk.{Walk, Components}
use Rattle.maps.specs.Flat.{FlatInEach}
use Rattle.maps.specs.Cut.{leaves, cut}
use Rattle.flows.specs.Settings.{Within, Balanced, Carries}
use Rattle.flows.specs.Highest.{Highest}
use Rattle.flows.specs.ZeroFace.{LowestElsewhere, ZeroFace}
use Rattle.flows.specs.Levels.{Levels}
use Rattle.flows.specs.ProvingSet.{bound, Proves, words_for, member, size}
use Rattle.arrays.specs.At.{atℤ}
use Rattle.records.specs.Record.{record_checks}
use Rattle.records.specs.Check.{Outside}
use Rattle.records.specs.Sheet.{kind_of, nodes_of, edges_of, capacity_of, outer_of, sheet_map, head_checks}
use Rattle.sheets.specs.Open.{sheet_checks}
use Rattle.questions.specs.Question.{end_checks, SetWritten}
use Rattle.questions.specs.declared.Solution.{Solution}
use Rattle.questions.specs.declared.Solution.TheVariants.{Can, Cannot}
use Rattle.ranges.specs.declared.Range.{Range}
use Rattle.totals.specs.Subtotal.{subtotal}
use Rattle.raising.specs.Raised.{raised}
use Rattle.capture.specs.Entry.{channel_of, limit_of}
use Rattle.capture.specs.Window.{forward_of, found}
use Rattle.pages.specs.Stretch.{stretch}
use Rattle.pages.specs.Page.{answer_at}
use Rattle.pages.specs.declared.Question.{Question}
use Rattle.pages.specs.declared.Page.{Page}
use Rattle.dimacs.specs.Problem.{WellPosed, Greatest, NoneGreaterInParts}
use Rattle.dimacs.specs.Reading.{problem_of}
use Rattle.dimacs.specs.Drawn.{drawn_problem}
use Rattle.analyser.specs.Solve.{solve_checks, Solves}
use Rattle.analyser.specs.Largest.{largest_checks, FindsLargest}
use Rattle.analyser.specs.Range.{range_checks, FindsRange}
use Rattle.analyser.specs.Raise.{raise_checks, RaisesLimit}
use Rattle.analyser.specs.After.{after_checks, FindsAfter}
use Rattle.analyser.specs.Page.{AnswersPage}
use Rattle.analyser.specs.Mark.{Marks}
use Rattle.analyser.specs.LevelsOf.{GivesLevels}
use Rattle.analyser.specs.SettingsOf.{GivesSettings}
use Rattle.analyser.specs.Totals.{totals_checks, GivesTotals}
use Rattle.analyser.specs.Dimacs.{WritesDimacs}

-- ── the words of the sentences, of a sheet's drawing ──
-- the settings x keep every limit, balance at every node but source and sink, and carry the delivery
abbrev pub Delivers : List ℕ → (source sink : ℕ) → ℤ → (ℕ → ℤ) → Type 0
Delivers s source sink value x = Carries (sheet_map s) (capacity_of s) source sink value x

-- some settings carry the delivery; none do
abbrev pub Possible : List ℕ → (source sink : ℕ) → ℤ → Type 0
Possible s source sink value = (x : ℕ → ℤ) × Delivers s source sink value x

abbrev pub Impossible : List ℕ → (source sink : ℕ) → ℤ → Type 0
Impossible s source sink value = (x : ℕ → ℤ) → Delivers s source sink value x → ⊥

-- the set of nodes S proves that the delivery is impossible
abbrev pub ProvesOf : List ℕ → (source sink : ℕ) → ℤ → (ℕ → Bool) → Type 0
ProvesOf s source sink value S = Proves (sheet_map s) (capacity_of s) source sink value S

-- the settings x balance at every node, within limits
abbrev pub BalancedWithin : List ℕ → (ℕ → ℤ) → Type 0
BalancedWithin s x = Balanced (sheet_map s) x × Within (sheet_map s) (capacity_of s) x

-- the settings x are the highest answer for the delivery
abbrev pub HighestFor : List ℕ → (source sink : ℕ) → ℤ → (ℕ → ℤ) → Type 0
HighestFor s source sink value x = Highest (sheet_map s) (outer_of s) (capacity_of s) source sink value x

-- ρ are the face levels of the settings x
abbrev pub LevelsFor : List ℕ → (x ρ : ℕ → ℤ) → Type 0
LevelsFor s x ρ = Levels (sheet_map s) (outer_of s) x ρ

-- ── 2. "Settings handed out keep every limit, balance at every node but source and sink, and carry the delivery asked. Balanced settings within limits
-- become face levels, levels become settings, there and back gives the same numbers." ──
pub record SettingsAndLevels : Type 0 where
  -- "Settings handed out keep every limit, balance at every node but source and sink, and carry the delivery asked": those that Solve writes
  pub can_carries : (s : List ℕ) (source sink : ℕ) (value : ℤ) (flows flows' : List ℤ) (set set' : List ℕ)
      → Solves s source sink value flows flows' set set' (Ok Can) → Delivers s source sink value (atℤ flows')
  -- those that Largest writes, with the delivery that it gives
  pub largest_carries : (s : List ℕ) (source sink : ℕ) (v : ℤ) (flows flows' : List ℤ) (set set' : List ℕ)
      → FindsLargest s source sink flows flows' set set' (Ok (Some v)) → Delivers s source sink v (atℤ flows')
  -- those that Mark accepts: they carry the value that it gives
  pub marked_carries : (s : List ℕ) (source sink : ℕ) (flows : List ℤ) (v : ℤ)
      → Marks s source sink flows (Ok v) → Delivers s source sink v (atℤ flows)
  -- and conversely: Mark accepts whatever carries a value, and gives that value, where sheet and ends are accepted and there is a setting for each edge
  pub carries_marked : (s : List ℕ) (source sink : ℕ) (flows : List ℤ) (v : ℤ) (answer : Result ℤ Refusal)
      → NoneOf (sheet_checks s) → NoneOf (end_checks (nodes_of s) source sink) → edges_of s ≤ length flows
      → Delivers s source sink v (atℤ flows) → Marks s source sink flows answer → answer ≡ Ok v
  -- "Balanced settings within limits become face levels": on an accepted sheet, with a setting for each edge and room for a level of each face
  pub balanced_leveled : (s : List ℕ) (flows levels levels' : List ℤ) (answer : Result Unit Refusal)
      → NoneOf (sheet_checks s) → edges_of s ≤ length flows → faces (sheet_map s) ≤ length levels
      → BalancedWithin s (atℤ flows) → GivesLevels s flows levels levels' answer → (answer ≡ Ok tt) × LevelsFor s (atℤ flows) (atℤ levels')
  -- "levels become settings": settings that balance within limits, and whose levels they are
  pub leveled_balanced : (s : List ℕ) (levels flows flows' : List ℤ)
      → GivesSettings s levels flows flows' (Ok tt) → BalancedWithin s (atℤ flows') × LevelsFor s (atℤ flows') (atℤ levels)
  -- "there and back gives the same numbers": from settings, into any slice with room, which is not refused
  pub settings_again : (s : List ℕ) (flows levels levels' : List ℤ) → GivesLevels s flows levels levels' (Ok tt)
      → (again again' : List ℤ) (answer : Result Unit Refusal) → edges_of s ≤ length again → GivesSettings s levels' again again' answer
      → (answer ≡ Ok tt) × ((e : ℕ) → e < edges_of s → atℤ again' e ≡ atℤ flows e)
  -- and from levels
  pub levels_again : (s : List ℕ) (levels flows flows' : List ℤ) → GivesSettings s levels flows flows' (Ok tt)
      → (again again' : List ℤ) (answer : Result Unit Refusal) → faces (sheet_map s) ≤ length again → GivesLevels s flows' again again' answer
      → (answer ≡ Ok tt) × ((f : ℕ) → f < faces (sheet_map s) → atℤ again' f ≡ atℤ levels f)
  -- the levels of given settings are one
  pub levels_unique : (s : List ℕ) → NoneOf (sheet_checks s) → (x ρ τ : ℕ → ℤ) → LevelsFor s x ρ → LevelsFor s x τ
      → (f : ℕ) → f < faces (sheet_map s) → ρ f ≡ τ f

-- ── Document 01, "The highest answer": "Of all right settings for a delivery, the unit gives the one from which every other differs by balanced settings
-- whose levels are nowhere above zero." The settings given are it, and there is no other. ──
pub record HighestAnswer : Type 0 where
  -- those that Solve writes
  pub can_highest : (s : List ℕ) (source sink : ℕ) (value : ℤ) (flows flows' : List ℤ) (set set' : List ℕ)
      → Solves s source sink value flows flows' set set' (Ok Can) → HighestFor s source sink value (atℤ flows')
  pub can_only : (s : List ℕ) (source sink : ℕ) (value : ℤ) (flows flows' : List ℤ) (set set' : List ℕ)
      → Solves s source sink value flows flows' set set' (Ok Can)
      → (y : ℕ → ℤ) → HighestFor s source sink value y → (e : ℕ) → e < edges_of s → atℤ flows' e ≡ y e
  -- those that Largest writes
  pub largest_highest : (s : List ℕ) (source sink : ℕ) (v : ℤ) (flows flows' : List ℤ) (set set' : List ℕ)
      → FindsLargest s source sink flows flows' set set' (Ok (Some v)) → HighestFor s source sink v (atℤ flows')
  pub largest_only : (s : List ℕ) (source sink : ℕ) (v : ℤ) (flows flows' : List ℤ) (set set' : List ℕ)
      → FindsLargest s source sink flows flows' set set' (Ok (Some v))
      → (y : ℕ → ℤ) → HighestFor s source sink v y → (e : ℕ) → e < edges_of s → atℤ flows' e ≡ y e

-- ── document 02, Job 6: "A kind 1 head is still read, as outer dart 0." The highest answer, both level operations and refusal 20 know the outer dart by the
-- faces at level 0 alone: face 0 then, as document 01 has it, and in each part that dart 0 is not in the lowest face ──
pub record OuterFace : Type 0 where
  pub kind_one_outer : (s : List ℕ) → NoneOf (sheet_checks s) → kind_of s ≡ 1
      → (f : ℕ) → ZeroFace (sheet_map s) (outer_of s) f ↔ ((f ≡ 0) ⊎ LowestElsewhere (sheet_map s) 0 f)
  -- such a head is judged as document 01 has it: "1 no first byte; 2 kind not 1; 1 body cut short; 3 a count out of range"
  pub kind_one_judged : (s : List ℕ) → kind_of s ≡ 1
      → (v : Result Unit Refusal)
      → Judged (head_checks s) v ↔ Judged (record_checks s 1 0 ++ ((3 when Outside 2 513 (nodes_of s) ⊎ Outside 1 512 (edges_of s)) ∷ [])) v

-- ── document 02, Job 8: "Flat now means that nodes − channels + faces = 2 in each part. Each part has one face at level 0 .. Headgate and outfall may lie in
-- different parts, and then only 0 can be delivered". Two nodes are in one part if a walk along channels joins them. ──
pub record Districts : Type 0 where
  -- an accepted sheet is flat in each part, however its parts are numbered
  pub flat_in_each : (s : List ℕ) → NoneOf (sheet_checks s) → (parts : ℕ) (part : ℕ → ℕ) → Components (sheet_map s) parts part
      → FlatInEach (sheet_map s) parts part
  -- each part has a face at level 0, ..
  pub has_zero_face : (s : List ℕ) → NoneOf (sheet_checks s) → (d : ℕ) → d < darts (sheet_map s)
      → (e : ℕ) × (e < darts (sheet_map s)) × Walk (sheet_map s) ((sheet_map s).tail d) ((sheet_map s).tail e)
      × ZeroFace (sheet_map s) (outer_of s) (left (sheet_map s) e)
  -- .. and no part has two
  pub one_zero_face : (s : List ℕ) → NoneOf (sheet_checks s) → (d e : ℕ) → d < darts (sheet_map s) → e < darts (sheet_map s)
      → Walk (sheet_map s) ((sheet_map s).tail d) ((sheet_map s).tail e)
      → ZeroFace (sheet_map s) (outer_of s) (left (sheet_map s) d) → ZeroFace (sheet_map s) (outer_of s) (left (sheet_map s) e)
      → left (sheet_map s) d ≡ left (sheet_map s) e
  -- "then only 0 can be delivered"
  pub apart_zero : (s : List ℕ) (source sink : ℕ) (value : ℤ) (x : ℕ → ℤ) → NoneOf (sheet_checks s) → NoneOf (end_checks (nodes_of s) source sink)
      → (Walk (sheet_map s) source sink → ⊥) → Delivers s source sink value x → value ≡ pos 0
  -- .. and 0 exactly where the least flows allow settings that balance at every node
  pub apart_exactly : (s : List ℕ) (source sink : ℕ) (value : ℤ) → NoneOf (sheet_checks s) → NoneOf (end_checks (nodes_of s) source sink)
      → (Walk (sheet_map s) source sink → ⊥)
      → Possible s source sink value ↔ ((value ≡ pos 0) × ((x : ℕ → ℤ) × BalancedWithin s x))
  -- the headgate's part proves each delivery above 0 impossible, the outfall's part each below 0
  pub headgate_part : (s : List ℕ) (source sink : ℕ) (value : ℤ) (S : ℕ → Bool) → NoneOf (sheet_checks s) → NoneOf (end_checks (nodes_of s) source sink)
      → ((v : ℕ) → v < nodes_of s → (S v ≡ true) ↔ Walk (sheet_map s) source v) → (Walk (sheet_map s) source sink → ⊥)
      → pos 0 <ℤ value → ProvesOf s source sink value S
  pub outfall_part : (s : List ℕ) (source sink : ℕ) (value : ℤ) (S : ℕ → Bool) → NoneOf (sheet_checks s) → NoneOf (end_checks (nodes_of s) source sink)
      → ((v : ℕ) → v < nodes_of s → (S v ≡ true) ↔ Walk (sheet_map s) sink v) → (Walk (sheet_map s) source sink → ⊥)
      → value <ℤ pos 0 → ProvesOf s source sink value S
  -- the largest delivery is 0 then, where there is one; and so is the least
  pub apart_largest : (s : List ℕ) (source sink : ℕ) (v : ℤ) (flows flows' : List ℤ) (set set' : List ℕ) → (Walk (sheet_map s) source sink → ⊥)
      → FindsLargest s source sink flows flows' set set' (Ok (Some v)) → v ≡ pos 0
  pub apart_range : (s : List ℕ) (source sink : ℕ) (low low' : List ℤ) (below below' : List ℕ) (high high' : List ℤ) (above above' : List ℕ) (r : Range)
      → (Walk (sheet_map s) source sink → ⊥) → FindsRange s source sink low low' below below' high high' above above' (Ok (Some r))
      → (r.least ≡ pos 0) × (r.largest ≡ pos 0)

-- ── 3. "For every accepted flat drawing and question: "cannot" exactly when no whole-number settings carry the delivery, with a set of nodes
-- that proves it; the largest delivery is carried by the settings given, nothing greater can be, and its set proves the next one impossible; "none" exactly
-- when nothing at all can be delivered, with a set that proves it." ──
pub record PossibleAndImpossible : Type 0 where
  -- ""cannot" exactly when no whole-number settings carry the delivery"
  pub cannot_exactly : (s : List ℕ) (source sink : ℕ) (value : ℤ) (flows flows' : List ℤ) (set set' : List ℕ) (answer : Result Solution Refusal)
      → NoneOf (solve_checks s source sink value flows set) → Solves s source sink value flows flows' set set' answer
      → ((n : ℕ) × (answer ≡ Ok (Cannot n))) ↔ Impossible s source sink value
  -- "can" exactly when some do
  pub can_exactly : (s : List ℕ) (source sink : ℕ) (value : ℤ) (flows flows' : List ℤ) (set set' : List ℕ) (answer : Result Solution Refusal)
      → NoneOf (solve_checks s source sink value flows set) → Solves s source sink value flows flows' set set' answer
      → (answer ≡ Ok Can) ↔ Possible s source sink value
  -- "with a set of nodes that proves it": in front of the slice, and the number given is its size
  pub cannot_proves : (s : List ℕ) (source sink : ℕ) (value : ℤ) (flows flows' : List ℤ) (set set' : List ℕ) (n : ℕ)
      → Solves s source sink value flows flows' set set' (Ok (Cannot n))
      → (words : List ℕ) × SetWritten (nodes_of s) words set set' × ProvesOf s source sink value (member words) × (n ≡ size words)
  -- what proving is worth: any set of nodes that proves a delivery impossible leaves no settings that carry it, on an accepted sheet with accepted ends
  pub set_excludes : (s : List ℕ) (source sink : ℕ) (value : ℤ) (S : ℕ → Bool)
      → NoneOf (sheet_checks s) → NoneOf (end_checks (nodes_of s) source sink) → ProvesOf s source sink value S → Impossible s source sink value
  -- "the largest delivery is carried by the settings given"
  pub largest_carries : (s : List ℕ) (source sink : ℕ) (v : ℤ) (flows flows' : List ℤ) (set set' : List ℕ)
      → FindsLargest s source sink flows flows' set set' (Ok (Some v)) → Delivers s source sink v (atℤ flows')
  -- "nothing greater can be"
  pub nothing_greater : (s : List ℕ) (source sink : ℕ) (v : ℤ) (flows flows' : List ℤ) (set set' : List ℕ)
      → FindsLargest s source sink flows flows' set set' (Ok (Some v)) → (w : ℤ) → Possible s source sink w → w ≤ℤ v
  -- "and its set proves the next one impossible"
  pub next_impossible : (s : List ℕ) (source sink : ℕ) (v : ℤ) (flows flows' : List ℤ) (set set' : List ℕ)
      → FindsLargest s source sink flows flows' set set' (Ok (Some v))
      → (words : List ℕ) × SetWritten (nodes_of s) words set set' × ProvesOf s source sink (v +ℤ pos 1) (member words)
  -- ""none" exactly when nothing at all can be delivered"
  pub none_exactly : (s : List ℕ) (source sink : ℕ) (flows flows' : List ℤ) (set set' : List ℕ) (answer : Result (Option ℤ) Refusal)
      → NoneOf (largest_checks s source sink flows set) → FindsLargest s source sink flows flows' set set' answer
      → (answer ≡ Ok None) ↔ ((value : ℤ) → Impossible s source sink value)
  -- "with a set that proves it": one set, for every delivery
  pub none_proves : (s : List ℕ) (source sink : ℕ) (flows flows' : List ℤ) (set set' : List ℕ)
      → FindsLargest s source sink flows flows' set set' (Ok None)
      → (words : List ℕ) × SetWritten (nodes_of s) words set set' × ((value : ℤ) → ProvesOf s source sink value (member words))

-- ── Document 02, Job 4: "Report the least deliverable value beside the largest, with its highest settings and a set proving the next lower one impossible ..
-- Show as well that each whole number between the two can be delivered, and none outside. Where Largest says none, this does too, with one set of that kind in
-- both set slices". Of every run of `least_and_largest`, known by its contract `FindsRange` alone. ──
pub record LeastAndLargest : Type 0 where
  -- the settings given carry the least delivery
  pub least_carries : (s : List ℕ) (source sink : ℕ) (low low' : List ℤ) (below below' : List ℕ) (high high' : List ℤ) (above above' : List ℕ) (r : Range)
      → FindsRange s source sink low low' below below' high high' above above' (Ok (Some r)) → Delivers s source sink r.least (atℤ low')
  -- and the largest
  pub largest_carries : (s : List ℕ) (source sink : ℕ) (low low' : List ℤ) (below below' : List ℕ) (high high' : List ℤ) (above above' : List ℕ) (r : Range)
      → FindsRange s source sink low low' below below' high high' above above' (Ok (Some r)) → Delivers s source sink r.largest (atℤ high')
  -- "with its highest settings": both settings are the highest
  pub least_highest : (s : List ℕ) (source sink : ℕ) (low low' : List ℤ) (below below' : List ℕ) (high high' : List ℤ) (above above' : List ℕ) (r : Range)
      → FindsRange s source sink low low' below below' high high' above above' (Ok (Some r)) → HighestFor s source sink r.least (atℤ low')
  pub largest_highest : (s : List ℕ) (source sink : ℕ) (low low' : List ℤ) (below below' : List ℕ) (high high' : List ℤ) (above above' : List ℕ) (r : Range)
      → FindsRange s source sink low low' below below' high high' above above' (Ok (Some r)) → HighestFor s source sink r.largest (atℤ high')
  -- "a set proving the next lower one impossible"
  pub next_lower_impossible : (s : List ℕ) (source sink : ℕ) (low low' : List ℤ)
      (below below' : List ℕ) (high high' : List ℤ) (above above' : List ℕ) (r : Range)
      → FindsRange s source sink low low' below below' high high' above above' (Ok (Some r))
      → (words : List ℕ) × SetWritten (nodes_of s) words below below' × ProvesOf s source sink (r.least -ℤ pos 1) (member words)
  -- and one proving the next greater
  pub next_greater_impossible : (s : List ℕ) (source sink : ℕ) (low low' : List ℤ)
      (below below' : List ℕ) (high high' : List ℤ) (above above' : List ℕ) (r : Range)
      → FindsRange s source sink low low' below below' high high' above above' (Ok (Some r))
      → (words : List ℕ) × SetWritten (nodes_of s) words above above' × ProvesOf s source sink (r.largest +ℤ pos 1) (member words)
  -- "each whole number between the two can be delivered, and none outside": a delivery is possible exactly when it lies between them
  pub between_exactly : (s : List ℕ) (source sink : ℕ) (low low' : List ℤ) (below below' : List ℕ) (high high' : List ℤ) (above above' : List ℕ) (r : Range)
      → FindsRange s source sink low low' below below' high high' above above' (Ok (Some r))
      → (value : ℤ) → Possible s source sink value ↔ ((r.least ≤ℤ value) × (value ≤ℤ r.largest))
  -- none exactly when nothing at all can be delivered
  pub none_exactly : (s : List ℕ) (source sink : ℕ) (low low' : List ℤ) (below below' : List ℕ)
      (high high' : List ℤ) (above above' : List ℕ) (answer : Result (Option Range) Refusal)
      → NoneOf (range_checks s source sink low below high above) → FindsRange s source sink low low' below below' high high' above above' answer
      → (answer ≡ Ok None) ↔ ((value : ℤ) → Impossible s source sink value)
  -- "with one set of that kind in both set slices": the same words, and they prove each delivery impossible
  pub none_proves : (s : List ℕ) (source sink : ℕ) (low low' : List ℤ) (below below' : List ℕ) (high high' : List ℤ) (above above' : List ℕ)
      → FindsRange s source sink low low' below below' high high' above above' (Ok None)
      → (words : List ℕ) × SetWritten (nodes_of s) words below below' × SetWritten (nodes_of s) words above above'
      × ((value : ℤ) → ProvesOf s source sink value (member words))
  -- the largest here is Largest's, whatever slices it was lent
  pub same_largest : (s : List ℕ) (source sink : ℕ) (low low' : List ℤ) (below below' : List ℕ) (high high' : List ℤ) (above above' : List ℕ) (r : Range)
      → FindsRange s source sink low low' below below' high high' above above' (Ok (Some r))
      → (flows flows' : List ℤ) (set set' : List ℕ) (answer : Result (Option ℤ) Refusal)
      → NoneOf (largest_checks s source sink flows set) → FindsLargest s source sink flows flows' set set' answer → answer ≡ Ok (Some r.largest)
  -- "Where Largest says none, this does too", and only there
  pub same_none : (s : List ℕ) (source sink : ℕ) (low low' : List ℤ) (below below' : List ℕ)
      (high high' : List ℤ) (above above' : List ℕ) (answer : Result (Option Range) Refusal)
      → NoneOf (range_checks s source sink low below high above) → FindsRange s source sink low low' below below' high high' above above' answer
      → (flows flows' : List ℤ) (set set' : List ℕ) (other : Result (Option ℤ) Refusal)
      → NoneOf (largest_checks s source sink flows set) → FindsLargest s source sink flows flows' set set' other
      → (other ≡ Ok None) ↔ (answer ≡ Ok None)

-- ── Document 02, Job 9: "Fill a slice with the subtotal of each node of a given set in rising order, one element for each node in the set, and give the total.
-- .. Set bits past the last node are passed over. .. It equals 01's sum, taken channel by channel, for every set of nodes, proving or not." Of every run of
-- `totals`, known by its contract `GivesTotals` alone. ──
pub record TotalsByNode : Type 0 where
  -- document 01's sum, "of limits of darts with tail in it and head outside it"
  pub totals_cut : (s set : List ℕ) (out out' : List ℤ) (t : ℤ) → GivesTotals s set out out' (Ok t) → t ≡ cut (sheet_map s) (capacity_of s) (member set)
  -- "taken channel by channel": each with what its two darts add
  pub totals_by_channel : (s set : List ℕ) (out out' : List ℤ) (t : ℤ) → GivesTotals s set out out' (Ok t)
      → t ≡ sumℤ (edges_of s) (λ e. sum.when (leaves (sheet_map s) (member set) (2 * e)) (capacity_of s (2 * e))
      +ℤ sum.when (leaves (sheet_map s) (member set) (2 * e + 1)) (capacity_of s (2 * e + 1)))
  -- "for every set of nodes": of any set S that the words agree with on the nodes
  pub totals_any_set : (s set : List ℕ) (out out' : List ℤ) (t : ℤ) (S : ℕ → Bool) → ((v : ℕ) → v < nodes_of s → member set v ≡ S v)
      → GivesTotals s set out out' (Ok t) → t ≡ cut (sheet_map s) (capacity_of s) S
  -- "proving or not": the total tells whether the set proves a delivery impossible
  pub totals_prove : (s set : List ℕ) (out out' : List ℤ) (t : ℤ) (source sink : ℕ) (value : ℤ) → GivesTotals s set out out' (Ok t)
      → (t <ℤ bound (member set) source sink value) ↔ ProvesOf s source sink value (member set)
  -- there is an answer wherever no check refuses
  pub totals_given : (s set : List ℕ) (out out' : List ℤ) (answer : Result ℤ Refusal)
      → NoneOf (totals_checks s set out) → GivesTotals s set out out' answer → answer ≡ Ok (cut (sheet_map s) (capacity_of s) (member set))
  -- "in rising order, one element for each node in the set": a node's subtotal stands behind those of the nodes below it that are in the set
  pub subtotal_placed : (s set : List ℕ) (out out' : List ℤ) (t : ℤ) → GivesTotals s set out out' (Ok t)
      → (v : ℕ) → v < nodes_of s → member set v ≡ true
      → atℤ out' (count v (member set)) ≡ subtotal (sheet_map s) (capacity_of s) (member set) v
  -- "Set bits past the last node are passed over": words that agree on the nodes give the same total and leave the same slice
  pub past_last_node : (s set other : List ℕ) (out out' out'' : List ℤ) (t u : ℤ) → ((v : ℕ) → v < nodes_of s → member set v ≡ member other v)
      → GivesTotals s set out out' (Ok t) → GivesTotals s other out out'' (Ok u) → (t ≡ u) × (out' ≡ out'')
  -- a set with no node: the total is 0, and nothing is written
  pub empty_set : (s set : List ℕ) (out out' : List ℤ) (t : ℤ) → ((v : ℕ) → v < nodes_of s → member set v ≡ false)
      → GivesTotals s set out out' (Ok t) → (t ≡ pos 0) × (out' ≡ out)

-- ── Document 02, Job 7: "Give the smallest forward limit, from its present one to 1,000,000, with which the delivery has settings, and the highest settings
-- under it .. or none, when even 1,000,000 fails, with a set proving it for that limit". Of every run of `raise_limit`, known by its contract `RaisesLimit`. ──
-- the settings x keep every limit with this forward limit of the edge, balance at every node but source and sink, and carry the delivery
abbrev pub DeliversWith : List ℕ → (source sink : ℕ) → ℤ → (edge : ℕ) → (limit : ℤ) → (ℕ → ℤ) → Type 0
DeliversWith s source sink value edge limit x = Carries (sheet_map s) (raised (capacity_of s) edge limit) source sink value x

abbrev pub PossibleWith : List ℕ → (source sink : ℕ) → ℤ → (edge : ℕ) → (limit : ℤ) → Type 0
PossibleWith s source sink value edge limit = (x : ℕ → ℤ) × DeliversWith s source sink value edge limit x

pub record RaisedLimit : Type 0 where
  -- a greater limit admits at least as much: the settings that carry a delivery carry it still
  pub greater_admits : (s : List ℕ) (source sink : ℕ) (value : ℤ) (edge : ℕ) (v w : ℤ) (x : ℕ → ℤ)
      → v ≤ℤ w → DeliversWith s source sink value edge v x → DeliversWith s source sink value edge w x
  -- with the present limit nothing is changed
  pub present_same : (s : List ℕ) (source sink : ℕ) (value : ℤ) (edge : ℕ) (x : ℕ → ℤ)
      → DeliversWith s source sink value edge (capacity_of s (2 * edge)) x ↔ Delivers s source sink value x
  -- "from its present one to 1,000,000"
  pub limit_in_range : (s : List ℕ) (source sink : ℕ) (value : ℤ) (edge : ℕ) (flows flows' : List ℤ) (set set' : List ℕ) (v : ℤ)
      → RaisesLimit s source sink value edge flows flows' set set' (Ok (Some v)) → (capacity_of s (2 * edge) ≤ℤ v) × (v ≤ℤ pos 1000000)
  -- "with which the delivery has settings": those given carry it, ..
  pub limit_carries : (s : List ℕ) (source sink : ℕ) (value : ℤ) (edge : ℕ) (flows flows' : List ℤ) (set set' : List ℕ) (v : ℤ)
      → RaisesLimit s source sink value edge flows flows' set set' (Ok (Some v)) → DeliversWith s source sink value edge v (atℤ flows')
  -- .. and are "the highest settings under it"
  pub limit_highest : (s : List ℕ) (source sink : ℕ) (value : ℤ) (edge : ℕ) (flows flows' : List ℤ) (set set' : List ℕ) (v : ℤ)
      → RaisesLimit s source sink value edge flows flows' set set' (Ok (Some v))
      → Highest (sheet_map s) (outer_of s) (raised (capacity_of s) edge v) source sink value (atℤ flows')
  -- "the smallest": with a limit from the present one on the delivery is possible exactly when the limit is at least the one given
  pub limit_exactly : (s : List ℕ) (source sink : ℕ) (value : ℤ) (edge : ℕ) (flows flows' : List ℤ) (set set' : List ℕ) (v : ℤ)
      → RaisesLimit s source sink value edge flows flows' set set' (Ok (Some v))
      → (w : ℤ) → capacity_of s (2 * edge) ≤ℤ w → PossibleWith s source sink value edge w ↔ (v ≤ℤ w)
  -- the present limit is the answer exactly when the delivery is possible as the sheet is
  pub present_exactly : (s : List ℕ) (source sink : ℕ) (value : ℤ) (edge : ℕ) (flows flows' : List ℤ) (set set' : List ℕ) (answer : Result (Option ℤ) Refusal)
      → NoneOf (raise_checks s source sink value edge flows set) → RaisesLimit s source sink value edge flows flows' set set' answer
      → (answer ≡ Ok (Some (capacity_of s (2 * edge)))) ↔ Possible s source sink value
  -- "none, when even 1,000,000 fails", and only then
  pub none_exactly : (s : List ℕ) (source sink : ℕ) (value : ℤ) (edge : ℕ) (flows flows' : List ℤ) (set set' : List ℕ) (answer : Result (Option ℤ) Refusal)
      → NoneOf (raise_checks s source sink value edge flows set) → RaisesLimit s source sink value edge flows flows' set set' answer
      → (answer ≡ Ok None) ↔ (PossibleWith s source sink value edge (pos 1000000) → ⊥)
  -- "with a set proving it for that limit"
  pub none_proves : (s : List ℕ) (source sink : ℕ) (value : ℤ) (edge : ℕ) (flows flows' : List ℤ) (set set' : List ℕ)
      → RaisesLimit s source sink value edge flows flows' set set' (Ok None)
      → (words : List ℕ) × SetWritten (nodes_of s) words set set'
      × Proves (sheet_map s) (raised (capacity_of s) edge (pos 1000000)) source sink value (member words)

-- ── Document 02, Job 10: "After each record, a channel seen in the last W records has the least forward limit among them; an unseen one has the sheet's. ..
-- Give these forward limits after a named record, one per channel in a slice of their own .., and Largest on them; the limits are written where Largest is none
-- as well." Of every run of `largest_after` on a sheet s and a capture b, with the window w and the named record n, known by its contract `FindsAfter` alone.
-- ──
-- record i is one of the last w up to record n
abbrev pub InWindow : (w n i : ℕ) → Type 0
InWindow w n i = (i ≤ n) × (n < i + w)

-- the settings x carry the delivery within the limits found: the forward ones of the capture, the sheet's back limits
abbrev pub DeliversAfter : List ℕ → List ℕ → (w n source sink : ℕ) → ℤ → (ℕ → ℤ) → Type 0
DeliversAfter s b w n source sink value x = Carries (sheet_map s) (found (capacity_of s) b w n) source sink value x

abbrev pub PossibleAfter : List ℕ → List ℕ → (w n source sink : ℕ) → ℤ → Type 0
PossibleAfter s b w n source sink value = (x : ℕ → ℤ) × DeliversAfter s b w n source sink value x

pub record LimitsOfCapture : Type 0 where
  -- "a channel seen in the last W records has the least forward limit among them": that of some record of the channel in the window, and none there has less;
  -- "an unseen one has the sheet's"
  pub window_least : (s b : List ℕ) (w n e : ℕ)
      → ((i : ℕ) × InWindow w n i × (channel_of b i ≡ e) × (forward_of (capacity_of s) b w n e ≡ limit_of b i)
      × ((j : ℕ) → InWindow w n j → channel_of b j ≡ e → forward_of (capacity_of s) b w n e ≤ℤ limit_of b j))
      ⊎ (((i : ℕ) → InWindow w n i → channel_of b i ≡ e → ⊥) × (forward_of (capacity_of s) b w n e ≡ capacity_of s (2 * e)))
  -- they stand on the forward darts, the sheet's back limits on the others
  pub found_forward : (s b : List ℕ) (w n e : ℕ) → found (capacity_of s) b w n (2 * e) ≡ forward_of (capacity_of s) b w n e
  pub found_backward : (s b : List ℕ) (w n e : ℕ) → found (capacity_of s) b w n (2 * e + 1) ≡ capacity_of s (2 * e + 1)
  -- "one per channel in a slice of their own", for a value ..
  pub limits_given : (s b : List ℕ) (w n source sink : ℕ) (limits limits' flows flows' : List ℤ) (set set' : List ℕ) (v : ℤ)
      → FindsAfter s b w n source sink limits limits' flows flows' set set' (Ok (Some v))
      → (e : ℕ) → e < edges_of s → atℤ limits' e ≡ forward_of (capacity_of s) b w n e
  -- .. and "the limits are written where Largest is none as well"
  pub limits_given_none : (s b : List ℕ) (w n source sink : ℕ) (limits limits' flows flows' : List ℤ) (set set' : List ℕ)
      → FindsAfter s b w n source sink limits limits' flows flows' set set' (Ok None)
      → (e : ℕ) → e < edges_of s → atℤ limits' e ≡ forward_of (capacity_of s) b w n e
  -- demand 3 for the limits found: "the largest delivery is carried by the settings given"
  pub largest_carries : (s b : List ℕ) (w n source sink : ℕ) (limits limits' flows flows' : List ℤ) (set set' : List ℕ) (v : ℤ)
      → FindsAfter s b w n source sink limits limits' flows flows' set set' (Ok (Some v)) → DeliversAfter s b w n source sink v (atℤ flows')
  -- "nothing greater can be"
  pub nothing_greater : (s b : List ℕ) (w n source sink : ℕ) (limits limits' flows flows' : List ℤ) (set set' : List ℕ) (v : ℤ)
      → FindsAfter s b w n source sink limits limits' flows flows' set set' (Ok (Some v))
      → (value : ℤ) → PossibleAfter s b w n source sink value → value ≤ℤ v
  -- "and its set proves the next one impossible"
  pub next_impossible : (s b : List ℕ) (w n source sink : ℕ) (limits limits' flows flows' : List ℤ) (set set' : List ℕ) (v : ℤ)
      → FindsAfter s b w n source sink limits limits' flows flows' set set' (Ok (Some v))
      → (words : List ℕ) × SetWritten (nodes_of s) words set set'
      × Proves (sheet_map s) (found (capacity_of s) b w n) source sink (v +ℤ pos 1) (member words)
  -- what proving is worth: no settings carry what a set proves impossible
  pub set_excludes : (s b : List ℕ) (w n source sink : ℕ) (limits flows : List ℤ) (set : List ℕ)
      → NoneOf (after_checks s b w n source sink limits flows set)
      → (value : ℤ) (S : ℕ → Bool) → Proves (sheet_map s) (found (capacity_of s) b w n) source sink value S → PossibleAfter s b w n source sink value → ⊥
  -- ""none" exactly when nothing at all can be delivered"
  pub none_exactly : (s b : List ℕ) (w n source sink : ℕ) (limits limits' flows flows' : List ℤ) (set set' : List ℕ) (answer : Result (Option ℤ) Refusal)
      → NoneOf (after_checks s b w n source sink limits flows set) → FindsAfter s b w n source sink limits limits' flows flows' set set' answer
      → (answer ≡ Ok None) ↔ ((value : ℤ) → PossibleAfter s b w n source sink value → ⊥)
  -- "with a set that proves it": one set, for every delivery
  pub none_proves : (s b : List ℕ) (w n source sink : ℕ) (limits limits' flows flows' : List ℤ) (set set' : List ℕ)
      → FindsAfter s b w n source sink limits limits' flows flows' set set' (Ok None)
      → (words : List ℕ) × SetWritten (nodes_of s) words set set'
      × ((value : ℤ) → Proves (sheet_map s) (found (capacity_of s) b w n) source sink value (member words))

-- ── Document 02, Job 2: "For every drawing written, the greatest flow of the text by the DIMACS definition is what Largest reports." Of every run of
-- `write_dimacs` that gave a number of bytes, known by its contract `WritesDimacs` alone. What the bytes mean is `problem_of`, which knows no drawing. ──
pub record DimacsTexts : Type 0 where
  -- the bytes written are read back as the drawing's problem
  pub reads_back : (s : List ℕ) (source sink : ℕ) (out out' : List ℕ) (n : ℕ)
      → WritesDimacs s source sink out out' (Ok n) → problem_of (take n out') ≡ drawn_problem (sheet_map s) (capacity_of s) source sink
  -- as many arcs as announced, no node that is none, source and sink two
  pub well_posed : (s : List ℕ) (source sink : ℕ) (out out' : List ℕ) (n : ℕ)
      → WritesDimacs s source sink out out' (Ok n) → WellPosed (problem_of (take n out'))
  -- "the greatest flow of the text by the DIMACS definition is what Largest reports", in whatever slices
  pub greatest_is_largest : (s : List ℕ) (source sink : ℕ) (out out' : List ℕ) (n : ℕ)
      → WritesDimacs s source sink out out' (Ok n)
      → (flows flows' : List ℤ) (set set' : List ℕ) (answer : Result (Option ℤ) Refusal)
      → NoneOf (largest_checks s source sink flows set) → FindsLargest s source sink flows flows' set set' answer
      → (v : ℤ) → Greatest (problem_of (take n out')) v ↔ (answer ≡ Ok (Some v))
  -- and it does report one: never none
  pub never_none : (s : List ℕ) (source sink : ℕ) (out out' : List ℕ) (n : ℕ)
      → WritesDimacs s source sink out out' (Ok n)
      → (flows flows' : List ℤ) (set set' : List ℕ) (answer : Result (Option ℤ) Refusal)
      → NoneOf (largest_checks s source sink flows set) → FindsLargest s source sink flows flows' set set' answer
      → (v : ℤ) × (answer ≡ Ok (Some v))
  -- nor has a flow of the text in k-th parts a greater value
  pub none_greater_in_parts : (s : List ℕ) (source sink : ℕ) (out out' : List ℕ) (n : ℕ)
      → WritesDimacs s source sink out out' (Ok n)
      → (flows flows' : List ℤ) (set set' : List ℕ) (v : ℤ) → FindsLargest s source sink flows flows' set set' (Ok (Some v))
      → (k : ℕ) → NoneGreaterInParts k (problem_of (take n out')) v
  -- room for every text
  pub longest : (s : List ℕ) (source sink : ℕ) (out out' : List ℕ) (n : ℕ) → WritesDimacs s source sink out out' (Ok n) → n ≤ 18463

-- ── Document 02, Job 1: "Each answer, question refusals 13 to 15 included, is the one Solve gives alone, and its stretches hold what Solve would leave there.
-- Answers come in the list's order, and an empty list gives none." Of every run of `page` and `page_of`, known by their contract `AnswersPage` alone:
-- n questions, of which `question i` is number i. ──
pub record ByThePage : Type 0 where
  -- what holds of answer i and its stretches is what Solve promises where these stretches are lent to it
  pub line_solves : (s : List ℕ) (n : ℕ) (question : ℕ → Question) (flows flows' : List ℤ) (sets sets' : List ℕ) (page : Page)
      → AnswersPage s n question flows flows' sets sets' (Ok page) → (i : ℕ) → i < n
      → Solves s (question i).source (question i).sink (question i).value (stretch (edges_of s) i flows) (stretch (edges_of s) i flows')
      (stretch (words_for (nodes_of s)) i sets) (stretch (words_for (nodes_of s)) i sets') (answer_at page i)
  -- a question is refused by 13, 14 or 15 alone, and its stretches are then as they were
  pub line_refused : (s : List ℕ) (n : ℕ) (question : ℕ → Question) (flows flows' : List ℤ) (sets sets' : List ℕ) (page : Page)
      → AnswersPage s n question flows flows' sets sets' (Ok page) → (i : ℕ) → i < n
      → (k p : ℕ) → answer_at page i ≡ refused k p
      → ((k ≡ 13) ⊎ ((k ≡ 14) ⊎ (k ≡ 15))) × (stretch (edges_of s) i flows' ≡ stretch (edges_of s) i flows)
      × (stretch (words_for (nodes_of s)) i sets' ≡ stretch (words_for (nodes_of s)) i sets)
  -- "the one Solve gives alone": a run of Solve that has room in slices of its own says can where the page does, and refuses where the page does, with the
  -- same number and place; so it says cannot where the page does
  pub same_can : (s : List ℕ) (n : ℕ) (question : ℕ → Question) (flows flows' : List ℤ) (sets sets' : List ℕ) (page : Page)
      → AnswersPage s n question flows flows' sets sets' (Ok page) → (i : ℕ) → i < n
      → (own own' : List ℤ) (set set' : List ℕ) (answer : Result Solution Refusal) → edges_of s ≤ length own → words_for (nodes_of s) ≤ length set
      → Solves s (question i).source (question i).sink (question i).value own own' set set' answer → (answer_at page i ≡ Ok Can) ↔ (answer ≡ Ok Can)
  pub same_refused : (s : List ℕ) (n : ℕ) (question : ℕ → Question) (flows flows' : List ℤ) (sets sets' : List ℕ) (page : Page)
      → AnswersPage s n question flows flows' sets sets' (Ok page) → (i : ℕ) → i < n
      → (own own' : List ℤ) (set set' : List ℕ) (answer : Result Solution Refusal) → edges_of s ≤ length own → words_for (nodes_of s) ≤ length set
      → Solves s (question i).source (question i).sink (question i).value own own' set set' answer
      → (k p : ℕ) → (answer_at page i ≡ refused k p) ↔ (answer ≡ refused k p)
  -- "an empty list gives none", and needs no room: on an accepted sheet, whatever the buffers
  pub empty_none : (s : List ℕ) (question : ℕ → Question) (flows flows' : List ℤ) (sets sets' : List ℕ) (answer : Result Page Refusal)
      → NoneOf (sheet_checks s) → AnswersPage s 0 question flows flows' sets sets' answer
      → ((page : Page) × (answer ≡ Ok page) × (page.count ≡ 0)) × (flows' ≡ flows) × (sets' ≡ sets)
