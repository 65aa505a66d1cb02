-- What an operation does not write. Document 01, "Operations": "Extra elements in a lent slice, the sheet excepted, are neither read nor written"; ""Can"
-- writes the settings only; "cannot" writes the set only"; "settings untouched"; demand 1: a refusal "leaves all lent memory unchanged". A field for each
-- operation and case; all that a field knows of a run is its contract. The proofs are in proofs/LentMemory.antt.
use Rattle.std.specs.Prelude.{ℕ, ◌*◌, ◌≡◌, List, drop, ℤ, Option, Some, None, Result, Ok, Err}
use Rattle.integers.specs.Sum.{count}
use Rattle.refusals.specs.declared.Refusal.{Refusal}
use Rattle.maps.specs.Face.{faces}
use Rattle.flows.specs.ProvingSet.{words_for, member}
use Rattle.records.specs.Sheet.{nodes_of, edges_of, sheet_map}
use Rattle.questions.specs.declared.Solution.{Solution}
use Rattle.questions.specs.declared.Solution.TheVariants.{Can, Cannot}
use Rattle.ranges.specs.declared.Range.{Range}
use Rattle.pages.specs.declared.Question.{Question}
use Rattle.pages.specs.declared.Page.{Page}
use Rattle.analyser.specs.Solve.{Solves}
use Rattle.analyser.specs.Largest.{FindsLargest}
use Rattle.analyser.specs.Range.{FindsRange}
use Rattle.analyser.specs.Raise.{RaisesLimit}
use Rattle.analyser.specs.After.{FindsAfter}
use Rattle.analyser.specs.Page.{AnswersPage}
use Rattle.analyser.specs.LevelsOf.{GivesLevels}
use Rattle.analyser.specs.SettingsOf.{GivesSettings}
use Rattle.analyser.specs.Totals.{GivesTotals}
use Rattle.analyser.specs.Dimacs.{WritesDimacs}

-- from element n on the slice is as it was
abbrev pub KeptFrom : {A : Type 0} → ℕ → (l l' : List A) → Type 0
KeptFrom n l l' = drop n l' ≡ drop n l

-- "Extra elements .. are neither read nor written": whatever the answer is
pub record ExtraElements : Type 0 where
  pub solve_extra : (s : List ℕ) (source sink : ℕ) (value : ℤ) (flows flows' : List ℤ) (set set' : List ℕ) (answer : Result Solution Refusal)
      → Solves s source sink value flows flows' set set' answer → KeptFrom (edges_of s) flows flows' × KeptFrom (words_for (nodes_of s)) set set'
  pub largest_extra : (s : List ℕ) (source sink : ℕ) (flows flows' : List ℤ) (set set' : List ℕ) (answer : Result (Option ℤ) Refusal)
      → FindsLargest s source sink flows flows' set set' answer → KeptFrom (edges_of s) flows flows' × KeptFrom (words_for (nodes_of s)) set set'
  pub range_extra : (s : List ℕ) (source sink : ℕ) (low low' : List ℤ) (below below' : List ℕ) (high high' : List ℤ) (above above' : List ℕ)
      (answer : Result (Option Range) Refusal) → FindsRange s source sink low low' below below' high high' above above' answer
      → KeptFrom (edges_of s) low low' × KeptFrom (words_for (nodes_of s)) below below'
      × KeptFrom (edges_of s) high high' × KeptFrom (words_for (nodes_of s)) above above'
  pub raise_extra : (s : List ℕ) (source sink : ℕ) (value : ℤ) (edge : ℕ) (flows flows' : List ℤ) (set set' : List ℕ) (answer : Result (Option ℤ) Refusal)
      → RaisesLimit s source sink value edge flows flows' set set' answer → KeptFrom (edges_of s) flows flows' × KeptFrom (words_for (nodes_of s)) set set'
  pub after_extra : (s b : List ℕ) (w n source sink : ℕ) (limits limits' flows flows' : List ℤ) (set set' : List ℕ) (answer : Result (Option ℤ) Refusal)
      → FindsAfter s b w n source sink limits limits' flows flows' set set' answer
      → KeptFrom (edges_of s) limits limits' × KeptFrom (edges_of s) flows flows' × KeptFrom (words_for (nodes_of s)) set set'
  pub page_extra : (s : List ℕ) (n : ℕ) (question : ℕ → Question) (flows flows' : List ℤ) (sets sets' : List ℕ) (answer : Result Page Refusal)
      → AnswersPage s n question flows flows' sets sets' answer
      → KeptFrom (n * edges_of s) flows flows' × KeptFrom (n * words_for (nodes_of s)) sets sets'
  pub levels_extra : (s : List ℕ) (flows levels levels' : List ℤ) (answer : Result Unit Refusal)
      → GivesLevels s flows levels levels' answer → KeptFrom (faces (sheet_map s)) levels levels'
  pub settings_extra : (s : List ℕ) (levels flows flows' : List ℤ) (answer : Result Unit Refusal)
      → GivesSettings s levels flows flows' answer → KeptFrom (edges_of s) flows flows'
  pub totals_extra : (s set : List ℕ) (out out' : List ℤ) (answer : Result ℤ Refusal)
      → GivesTotals s set out out' answer → KeptFrom (count (nodes_of s) (member set)) out out'
  pub dimacs_extra : (s : List ℕ) (source sink : ℕ) (out out' : List ℕ) (n : ℕ) → WritesDimacs s source sink out out' (Ok n) → KeptFrom n out out'

-- what an answer does not give is not written
pub record NotWritten : Type 0 where
  -- ""Can" writes the settings only; "cannot" writes the set only"
  pub can_set : (s : List ℕ) (source sink : ℕ) (value : ℤ) (flows flows' : List ℤ) (set set' : List ℕ)
      → Solves s source sink value flows flows' set set' (Ok Can) → set' ≡ set
  pub cannot_settings : (s : List ℕ) (source sink : ℕ) (value : ℤ) (flows flows' : List ℤ) (set set' : List ℕ) (n : ℕ)
      → Solves s source sink value flows flows' set set' (Ok (Cannot n)) → flows' ≡ flows
  -- "none": "settings untouched", of Largest, of the least and the largest, and of a capture
  pub none_settings : (s : List ℕ) (source sink : ℕ) (flows flows' : List ℤ) (set set' : List ℕ)
      → FindsLargest s source sink flows flows' set set' (Ok None) → flows' ≡ flows
  pub range_none_settings : (s : List ℕ) (source sink : ℕ) (low low' : List ℤ) (below below' : List ℕ) (high high' : List ℤ) (above above' : List ℕ)
      → FindsRange s source sink low low' below below' high high' above above' (Ok None) → (low' ≡ low) × (high' ≡ high)
  pub after_none_settings : (s b : List ℕ) (w n source sink : ℕ) (limits limits' flows flows' : List ℤ) (set set' : List ℕ)
      → FindsAfter s b w n source sink limits limits' flows flows' set set' (Ok None) → flows' ≡ flows
  -- document 02, Job 7: "the set slice untouched; or none, .. the settings slice untouched"
  pub limit_set : (s : List ℕ) (source sink : ℕ) (value : ℤ) (edge : ℕ) (flows flows' : List ℤ) (set set' : List ℕ) (v : ℤ)
      → RaisesLimit s source sink value edge flows flows' set set' (Ok (Some v)) → set' ≡ set
  pub raise_none_settings : (s : List ℕ) (source sink : ℕ) (value : ℤ) (edge : ℕ) (flows flows' : List ℤ) (set set' : List ℕ)
      → RaisesLimit s source sink value edge flows flows' set set' (Ok None) → flows' ≡ flows

-- a refusal "leaves all lent memory unchanged"
pub record RefusedUnchanged : Type 0 where
  pub solve_refused : (s : List ℕ) (source sink : ℕ) (value : ℤ) (flows flows' : List ℤ) (set set' : List ℕ) (r : Refusal)
      → Solves s source sink value flows flows' set set' (Err r) → (flows' ≡ flows) × (set' ≡ set)
  pub largest_refused : (s : List ℕ) (source sink : ℕ) (flows flows' : List ℤ) (set set' : List ℕ) (r : Refusal)
      → FindsLargest s source sink flows flows' set set' (Err r) → (flows' ≡ flows) × (set' ≡ set)
  pub range_refused : (s : List ℕ) (source sink : ℕ) (low low' : List ℤ) (below below' : List ℕ) (high high' : List ℤ) (above above' : List ℕ) (r : Refusal)
      → FindsRange s source sink low low' below below' high high' above above' (Err r)
      → (low' ≡ low) × (below' ≡ below) × (high' ≡ high) × (above' ≡ above)
  pub raise_refused : (s : List ℕ) (source sink : ℕ) (value : ℤ) (edge : ℕ) (flows flows' : List ℤ) (set set' : List ℕ) (r : Refusal)
      → RaisesLimit s source sink value edge flows flows' set set' (Err r) → (flows' ≡ flows) × (set' ≡ set)
  pub after_refused : (s b : List ℕ) (w n source sink : ℕ) (limits limits' flows flows' : List ℤ) (set set' : List ℕ) (r : Refusal)
      → FindsAfter s b w n source sink limits limits' flows flows' set set' (Err r) → (limits' ≡ limits) × (flows' ≡ flows) × (set' ≡ set)
  pub page_refused : (s : List ℕ) (n : ℕ) (question : ℕ → Question) (flows flows' : List ℤ) (sets sets' : List ℕ) (r : Refusal)
      → AnswersPage s n question flows flows' sets sets' (Err r) → (flows' ≡ flows) × (sets' ≡ sets)
  pub levels_refused : (s : List ℕ) (flows levels levels' : List ℤ) (r : Refusal) → GivesLevels s flows levels levels' (Err r) → levels' ≡ levels
  pub settings_refused : (s : List ℕ) (levels flows flows' : List ℤ) (r : Refusal) → GivesSettings s levels flows flows' (Err r) → flows' ≡ flows
  pub totals_refused : (s set : List ℕ) (out out' : List ℤ) (r : Refusal) → GivesTotals s set out out' (Err r) → out' ≡ out
  pub dimacs_refused : (s : List ℕ) (source sink : ℕ) (out out' : List ℕ) (r : Refusal)
      → WritesDimacs s source sink out out' (Err r) → out' ≡ out
