-- The starred lines of document 01, "Drawings with known answers", as one table: a field for each, in the paper's
-- order. Each says what an operation answers, and what it leaves in the slices that it is lent, of whatever
-- length; so each is about every run of the operation, by its contract. In all of them "Headgate 0, outfall 1".
use Rattle.std.specs.Prelude.{ℕ, ◌≤◌, ◌≡◌, List, [], ◌∷◌, ◌++◌, length, drop, ℤ, pos, negsuc, Option, Some, None, Result, Ok}
use Rattle.refusals.specs.Refused.{refused}
use Rattle.refusals.specs.declared.Refusal.{Refusal}
use Rattle.flows.specs.ProvingSet.{words_for}
use Rattle.records.specs.Sheet.{nodes_of, edges_of}
use Rattle.sheets.specs.declared.Network.{Network}
use Rattle.arrays.specs.At.{at}
use Rattle.arrays.specs.declared.Sizes.{Sizes}
use Rattle.sheets.specs.Open.{Opens}
use Rattle.analyser.specs.Solve.{Solves}
use Rattle.questions.specs.declared.Solution.{Solution}
use Rattle.questions.specs.declared.Solution.TheVariants.{Can, Cannot}
use Rattle.analyser.specs.Largest.{FindsLargest}
use Rattle.analyser.specs.LevelsOf.{GivesLevels}
use Rattle.key_text.specs.Key.{Prints}
use Rattle.starred.specs.Drawings.{A, least_two, all_five, twisted, B, question}
use Rattle.starred.specs.Texts.{can_six, cannot_thirteen, refused_twelve}

-- ── the forms of a line ──
-- a lent slice with these elements in front, and the others as they were
abbrev pub front : {E : Type 0} → List E → List E → List E
front new old = new ++ drop (length new) old

-- the lent slices are long enough for the sheet: a flow for each edge, and the words of a set of nodes
abbrev pub Room : List ℕ → List ℤ → List ℕ → Type 0
Room s flows set = (edges_of s ≤ length flows) × (words_for (nodes_of s) ≤ length set)

-- Solve says "can" and writes these settings; the set is as it was
abbrev pub SolveCan : List ℕ → (source sink : ℕ) → ℤ → List ℤ → Type 0
SolveCan s source sink value settings =
    (flows flows' : List ℤ) (set set' : List ℕ) (answer : Result Solution Refusal) → Room s flows set
    → Solves s source sink value flows flows' set set' answer
    → (answer ≡ Ok Can) × (flows' ≡ front settings flows) × (set' ≡ set)

-- Solve says "cannot" with this size and writes the words of this set; the settings are as they were
abbrev pub SolveCannot : List ℕ → (source sink : ℕ) → ℤ → List ℕ → ℕ → Type 0
SolveCannot s source sink value words n =
    (flows flows' : List ℤ) (set set' : List ℕ) (answer : Result Solution Refusal) → Room s flows set
    → Solves s source sink value flows flows' set set' answer
    → (answer ≡ Ok (Cannot n)) × (set' ≡ front words set) × (flows' ≡ flows)

-- Solve refuses, at place 0; both slices are as they were, and may be of any length
abbrev pub SolveRefused : List ℕ → (source sink : ℕ) → ℤ → ℕ → Type 0
SolveRefused s source sink value k =
    (flows flows' : List ℤ) (set set' : List ℕ) (answer : Result Solution Refusal) → Solves s source sink value flows flows' set set' answer
    → (answer ≡ refused k 0) × (flows' ≡ flows) × (set' ≡ set)

-- Largest gives this value, its settings, and the set that proves the next one impossible
abbrev pub LargestIs : List ℕ → (source sink : ℕ) → ℤ → List ℤ → List ℕ → Type 0
LargestIs s source sink value settings words =
    (flows flows' : List ℤ) (set set' : List ℕ) (answer : Result (Option ℤ) Refusal) → Room s flows set
    → FindsLargest s source sink flows flows' set set' answer
    → (answer ≡ Ok (Some value)) × (flows' ≡ front settings flows) × (set' ≡ front words set)

-- Largest is "none", with this set; the settings are as they were
abbrev pub LargestNone : List ℕ → (source sink : ℕ) → List ℕ → Type 0
LargestNone s source sink words =
    (flows flows' : List ℤ) (set set' : List ℕ) (answer : Result (Option ℤ) Refusal) → Room s flows set
    → FindsLargest s source sink flows flows' set set' answer
    → (answer ≡ Ok None) × (flows' ≡ flows) × (set' ≡ front words set)

-- Levels from settings gives these levels for a slice that begins with these settings
abbrev pub LevelsAre : List ℕ → List ℤ → List ℤ → Type 0
LevelsAre s settings found =
    (more levels levels' : List ℤ) (answer : Result Unit Refusal) → length found ≤ length levels → GivesLevels s (settings ++ more) levels levels' answer
    → (answer ≡ Ok tt) × (levels' ≡ front found levels)

-- the dart d is in the face f, by the left faces that opening a sheet tells
abbrev pub InFace : List ℕ → ℕ → ℕ → Type 0
InFace lefts f d = at lefts d ≡ f

-- the key's function writes this text for these bytes, and gives its length
abbrev pub KeyPrints : List ℕ → List ℕ → Type 0
KeyPrints bytes t = (text text' : List ℕ) (n : ℕ) → Prints bytes text text' n → (n ≡ length t) × (text' ≡ front t text)

-- ── the table ──
pub record Starred : Type 0 where
  -- "faces {0,5}, {1,2}, {3,4}"
  pub faces_of_a : (n : Network) → Opens A n n.opened
      → ((sizes : Sizes) × (n.opened ≡ Ok sizes)) × (InFace n.lefts 0 0 × InFace n.lefts 0 5) × (InFace n.lefts 1 1 × InFace n.lefts 1 2)
      × (InFace n.lefts 2 3 × InFace n.lefts 2 4)
  -- "6: settings 0, 2, 4; key prints `can 6`, `0 0`, `1 2`, `2 4`, one per line"
  pub six : SolveCan A 0 1 (pos 6) (pos 0 ∷ pos 2 ∷ pos 4 ∷ [])
  pub six_key : KeyPrints (question 0 1 (pos 6) ++ A) can_six
  -- "12: 5, 3, 4."
  pub twelve : SolveCan A 0 1 (pos 12) (pos 5 ∷ pos 3 ∷ pos 4 ∷ [])
  -- "13: cannot, set {0}, size 1; key prints `cannot 13 1`, `0`"; the set {0} is bit 0 of the one word
  pub thirteen : SolveCannot A 0 1 (pos 13) (1 ∷ []) 1
  pub thirteen_key : KeyPrints (question 0 1 (pos 13) ++ A) cannot_thirteen
  -- "0: 0, 0, 0."
  pub zero : SolveCan A 0 1 (pos 0) (pos 0 ∷ pos 0 ∷ pos 0 ∷ [])
  -- "−1: cannot, set {1}"; negsuc 0 is −1, and {1} is bit 1
  pub minus_one : SolveCannot A 0 1 (negsuc 0) (2 ∷ []) 1
  -- "largest 12, set {0}", with the settings of 12
  pub largest_of_a : LargestIs A 0 1 (pos 12) (pos 5 ∷ pos 3 ∷ pos 4 ∷ []) (1 ∷ [])
  -- "A with back limit −2 on channel 1: 2 gives 0, 2, 0; 1: cannot, set {1}"
  pub least-two : SolveCan least_two 0 1 (pos 2) (pos 0 ∷ pos 2 ∷ pos 0 ∷ [])
  pub least_one : SolveCannot least_two 0 1 (pos 1) (2 ∷ []) 1
  -- "A with all limits 5: settings 2, 1, −3 have levels 0, −2, −3"
  pub levels_of_five : LevelsAre all_five (pos 2 ∷ pos 1 ∷ negsuc 2 ∷ []) (pos 0 ∷ negsuc 1 ∷ negsuc 2 ∷ [])
  -- "A with turns 1→3→5→1 at node 1: refused 12; key prints `refused 12`", whatever is asked of it
  pub twisted_opened : (n : Network) → Opens twisted n n.opened → n.opened ≡ refused 12 0
  pub twisted_refused : (source sink : ℕ) (value : ℤ) → SolveRefused twisted source sink value 12
  pub twisted_key : (source sink : ℕ) (value : ℤ) → KeyPrints (question source sink value ++ twisted) refused_twelve
  -- "B, 3 nodes: ..; headgate 0, outfall 1: largest is none, set {2}"; {2} is bit 2
  pub largest_of_b : LargestNone B 0 1 (4 ∷ [])
