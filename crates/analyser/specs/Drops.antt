-- Document 02, Job 13: "Candidates argue that a half litre here and there would do it. Show that where the unit says "cannot", no settings in n-th parts of a
-- litre a minute carry that delivery either, for each whole n from 1 up". A field for each statement, of every run by its contract alone, as in Statements; of
-- the key's text and of a session the same is said in their own crates. The proofs are in proofs/Drops.antt.
use Rattle.std.specs.Prelude.{ℕ, ◌<◌, ◌≡◌, ◌↔◌, List, ℤ, pos, ◌+ℤ◌, ◌-ℤ◌, ◌*ℤ◌, ◌≤ℤ◌, Some, None, Result, Ok}
use Rattle.refusals.specs.Order.{NoneOf}
use Rattle.refusals.specs.declared.Refusal.{Refusal}
use Rattle.flows.specs.Settings.{Carries}
use Rattle.flows.specs.Parts.{CarriesInParts, ExcludedInParts}
use Rattle.records.specs.Sheet.{capacity_of, sheet_map}
use Rattle.questions.specs.declared.Solution.{Solution}
use Rattle.questions.specs.declared.Solution.TheVariants.{Can, Cannot}
use Rattle.ranges.specs.declared.Range.{Range}
use Rattle.raising.specs.Raised.{raised}
use Rattle.pages.specs.Page.{answer_at}
use Rattle.pages.specs.declared.Question.{Question}
use Rattle.pages.specs.declared.Page.{Page}
use Rattle.analyser.specs.Solve.{solve_checks, Solves}
use Rattle.analyser.specs.Largest.{FindsLargest}
use Rattle.analyser.specs.Range.{FindsRange}
use Rattle.analyser.specs.Raise.{RaisesLimit}
use Rattle.analyser.specs.Page.{AnswersPage}
use Rattle.analyser.specs.Statements.{Delivers}

-- the settings x, counted in n-th parts, carry the delivery on the sheet's drawing
abbrev pub DeliversInParts : (n : ℕ) → List ℕ → (source sink : ℕ) → ℤ → (ℕ → ℤ) → Type 0
DeliversInParts n s source sink value x = CarriesInParts n (sheet_map s) (capacity_of s) source sink value x

-- not even in drops: in no parts at all
abbrev pub NotEvenInDrops : List ℕ → (source sink : ℕ) → ℤ → Type 0
NotEvenInDrops s source sink value = ExcludedInParts (sheet_map s) (capacity_of s) source sink value

pub record InDrops : Type 0 where
  -- for n = 1 these are the settings of document 01
  pub one_part : (s : List ℕ) (source sink : ℕ) (value : ℤ) (x : ℕ → ℤ) → DeliversInParts 1 s source sink value x ↔ Delivers s source sink value x
  -- "where the unit says "cannot", no settings in n-th parts .. carry that delivery either, for each whole n from 1 up": Solve ..
  pub cannot_in_drops : (s : List ℕ) (source sink : ℕ) (value : ℤ) (flows flows' : List ℤ) (set set' : List ℕ) (k : ℕ)
      → Solves s source sink value flows flows' set set' (Ok (Cannot k)) → NotEvenInDrops s source sink value
  -- .. and a question of a page
  pub line_in_drops : (s : List ℕ) (count : ℕ) (question : ℕ → Question) (flows flows' : List ℤ) (sets sets' : List ℕ) (page : Page)
      → AnswersPage s count question flows flows' sets sets' (Ok page) → (i : ℕ) → i < count
      → (k : ℕ) → answer_at page i ≡ Ok (Cannot k) → NotEvenInDrops s (question i).source (question i).sink (question i).value
  -- so parts help nobody: an accepted question is answered "can" exactly when some settings in n-th parts carry the delivery, whatever n is
  pub can_exactly_in_parts : (s : List ℕ) (source sink : ℕ) (value : ℤ) (flows flows' : List ℤ) (set set' : List ℕ) (answer : Result Solution Refusal)
      → NoneOf (solve_checks s source sink value flows set) → Solves s source sink value flows flows' set set' answer
      → (n : ℕ) → 0 < n → (answer ≡ Ok Can) ↔ ((x : ℕ → ℤ) × DeliversInParts n s source sink value x)
  -- the value next above the largest; and no fraction of a litre more: w parts that are delivered are at most n times the largest
  pub next_greater_in_drops : (s : List ℕ) (source sink : ℕ) (v : ℤ) (flows flows' : List ℤ) (set set' : List ℕ)
      → FindsLargest s source sink flows flows' set set' (Ok (Some v)) → NotEvenInDrops s source sink (v +ℤ pos 1)
  pub nothing_greater_in_parts : (s : List ℕ) (source sink : ℕ) (v : ℤ) (flows flows' : List ℤ) (set set' : List ℕ)
      → FindsLargest s source sink flows flows' set set' (Ok (Some v))
      → (n : ℕ) (w : ℤ) (x : ℕ → ℤ) → Carries (sheet_map s) (λ d. pos n *ℤ capacity_of s d) source sink w x → w ≤ℤ (pos n *ℤ v)
  -- "none": nothing at all
  pub none_in_drops : (s : List ℕ) (source sink : ℕ) (flows flows' : List ℤ) (set set' : List ℕ)
      → FindsLargest s source sink flows flows' set set' (Ok None) → (value : ℤ) → NotEvenInDrops s source sink value
  -- the value next below the least, the one next above the largest, and none, where both are asked
  pub range_in_drops : (s : List ℕ) (source sink : ℕ) (low low' : List ℤ) (below below' : List ℕ) (high high' : List ℤ) (above above' : List ℕ) (r : Range)
      → FindsRange s source sink low low' below below' high high' above above' (Ok (Some r))
      → NotEvenInDrops s source sink (r.least -ℤ pos 1) × NotEvenInDrops s source sink (r.largest +ℤ pos 1)
  pub range_none_in_drops : (s : List ℕ) (source sink : ℕ) (low low' : List ℤ) (below below' : List ℕ) (high high' : List ℤ) (above above' : List ℕ)
      → FindsRange s source sink low low' below below' high high' above above' (Ok None) → (value : ℤ) → NotEvenInDrops s source sink value
  -- no limit of the weir serves: none with the limit 1,000,000
  pub raise_in_drops : (s : List ℕ) (source sink : ℕ) (value : ℤ) (edge : ℕ) (flows flows' : List ℤ) (set set' : List ℕ)
      → RaisesLimit s source sink value edge flows flows' set set' (Ok None)
      → ExcludedInParts (sheet_map s) (raised (capacity_of s) edge (pos 1000000)) source sink value
