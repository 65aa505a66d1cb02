-- A class of papers. Document 02, Job 14: "A class of up to 1,000 papers is a list of claims, with settings and sets in stretches as in Job 1. It yields the
-- number of papers, the sum, least and greatest points, and the mean as sum over number, undivided. An empty class has no least, greatest or mean. Sheet and
-- question refusals come first, and a wrong paper is marked, never refused; 32, more than 1,000 papers, stands after them, then 16 for slices too short for the
-- class."
use Rattle.std.specs.Prelude.{ℕ, ◌*◌, ◌≤◌, ◌<◌, ◌≡◌, ◌⊎◌, List, [], ◌∷◌, ◌++◌, length, ℤ, Option, Some, None, Result, Ok, Err}
use Rattle.integers.specs.Sum.{sumℕ}
use Rattle.refusals.specs.Order.{Check, ◌when◌, NoneOf, FirstOf}
use Rattle.flows.specs.ProvingSet.{words_for}
use Rattle.arrays.specs.At.{at}
use Rattle.records.specs.Sheet.{nodes_of, edges_of}
use Rattle.sheets.specs.Open.{sheet_checks}
use Rattle.questions.specs.Question.{end_checks, value_checks}
use Rattle.pages.specs.Stretch.{SameFrom}
use Rattle.desk.specs.Paper.{paper_of, IsLargest, Points}
use Rattle.refusals.specs.declared.Refusal.{Refusal}
use Rattle.desk.specs.declared.ClassFigures.{ClassFigures}

-- 32 and 16 of n papers, by the lengths of the slices alone: a kind for each claim, the stretches of settings and sets, a place for each paper's points
unfoldable pub class_checks : (nodes edges n kinds settings sets points : ℕ) → List Check
class_checks nodes edges n kinds settings sets points =
    (32 when 1000 < n)
    ∷ (16 when (kinds < n) ⊎ ((settings < n * edges) ⊎ ((sets < n * words_for nodes) ⊎ (points < n))))
    ∷ []

-- the sheet checks, 13, 14, 15, 32, 16: what stands in the papers is not among them
unfoldable pub examine_checks : List ℕ → (source sink : ℕ) → ℤ → (n kinds settings sets points : ℕ) → List Check
examine_checks s source sink value n kinds settings sets points =
    sheet_checks s
    ++ (end_checks (nodes_of s) source sink ++ (value_checks value ++ class_checks (nodes_of s) (edges_of s) n kinds settings sets points))

-- the figures of n papers, of which q has `points q`: the mean is sum over number, and is not divided; least and greatest are some paper's
pub record Figures (n : ℕ) (points : ℕ → ℕ) (number sum least greatest : ℕ) : Type 0 where
  pub number_is : number ≡ n
  pub sum_is : sum ≡ sumℕ n points
  pub least_reached : (q : ℕ) × (q < n) × (points q ≡ least)
  pub least_below : (q : ℕ) → q < n → least ≤ points q
  pub greatest_reached : (q : ℕ) × (q < n) × (points q ≡ greatest)
  pub greatest_above : (q : ℕ) → q < n → points q ≤ greatest

-- What a class of claims comes to. None: no paper, and no figures. Some: the points of paper q at place q of the slice lent for them, which is left as it
-- was behind the last, and the figures of those. Refused: the slice as it was.
abbrev pub Examines : List ℕ → (source sink : ℕ) → ℤ → (claims : List ℤ) (kinds : List ℕ) (settings : List ℤ) (sets : List ℕ) → (points points' : List ℕ)
    → Result (Option ClassFigures) Refusal → Type 0
Examines s source sink value claims kinds settings sets points points' (Ok None) =
    NoneOf (examine_checks s source sink value (length claims) (length kinds) (length settings) (length sets) (length points))
    × (length claims ≡ 0)
    × (points' ≡ points)
Examines s source sink value claims kinds settings sets points points' (Ok (Some m)) =
    NoneOf (examine_checks s source sink value (length claims) (length kinds) (length settings) (length sets) (length points))
    × ((largest : Option ℤ) × IsLargest s source sink largest
    × ((q : ℕ) → q < length claims → Points s source sink value largest (paper_of s claims kinds settings sets q) (at points' q)))
    × SameFrom (length claims) points points'
    × Figures (length claims) (at points') m.number m.sum m.least m.greatest
Examines s source sink value claims kinds settings sets points points' (Err r) =
    FirstOf (examine_checks s source sink value (length claims) (length kinds) (length settings) (length sets) (length points)) r.number r.place
    × (points' ≡ points)
