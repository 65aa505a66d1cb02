-- What is printed of the exam desk (document 02, Job 14), as a record: a field for each statement, with the printed words above it. Each is about papers and
-- deliveries, or about every run of `examine`, known by its contract `Examines` alone. The proofs are in proofs/Statements.antt.
use Rattle.std.specs.Prelude.{ℕ, ◌*◌, ◌≤◌, ◌<◌, ◌≡◌, ◌↔◌, List, length, ℤ, Option, Some, None, Result, Ok, Err}
use Rattle.refusals.specs.Order.{NoneOf}
use Rattle.flows.specs.ProvingSet.{member}
use Rattle.arrays.specs.At.{at, atℤ}
use Rattle.records.specs.Sheet.{nodes_of, edges_of}
use Rattle.sheets.specs.Open.{sheet_checks}
use Rattle.questions.specs.Question.{end_checks}
use Rattle.refusals.specs.declared.Refusal.{Refusal}
use Rattle.analyser.specs.Mark.{Marks}
use Rattle.analyser.specs.Largest.{FindsLargest}
use Rattle.analyser.specs.Statements.{Delivers}
use Rattle.desk.specs.Paper.{Paper, nodes_in, paper_of, IsLargest, Points}
use Rattle.desk.specs.Class.{examine_checks, Examines}
use Rattle.desk.specs.declared.ClassFigures.{ClassFigures}

pub record ExamDesk : Type 0 where
  -- there is one largest delivery, or none
  pub largest_one : (s : List ℕ) (source sink : ℕ) (d e : Option ℤ) → IsLargest s source sink d → IsLargest s source sink e → d ≡ e
  -- a paper has one number of points, ..
  pub points_one : (s : List ℕ) (source sink : ℕ) (value : ℤ) (d : Option ℤ) (paper : Paper) (n m : ℕ)
      → Points s source sink value d paper n → Points s source sink value d paper m → n ≡ m
  -- .. at most 10
  pub at_most_ten : (s : List ℕ) (source sink : ℕ) (value : ℤ) (d : Option ℤ) (paper : Paper) (n : ℕ) → Points s source sink value d paper n → n ≤ 10
  -- "if Mark gives the delivery asked": it does exactly where the settings carry it, whatever run of Mark it was
  pub mark_exactly : (s : List ℕ) (source sink : ℕ) (value : ℤ) (settings : List ℤ) (answer : Result ℤ Refusal)
      → NoneOf (sheet_checks s) → NoneOf (end_checks (nodes_of s) source sink) → edges_of s ≤ length settings → Marks s source sink settings answer
      → (answer ≡ Ok value) ↔ Delivers s source sink value (atℤ settings)
  -- "the largest" is Largest's, of whatever run: its value, ..
  pub largest_value : (s : List ℕ) (source sink : ℕ) (v : ℤ) (flows flows' : List ℤ) (set set' : List ℕ)
      → FindsLargest s source sink flows flows' set set' (Ok (Some v)) → IsLargest s source sink (Some v)
  -- .. or none
  pub largest_none : (s : List ℕ) (source sink : ℕ) (flows flows' : List ℤ) (set set' : List ℕ)
      → FindsLargest s source sink flows flows' set set' (Ok None) → IsLargest s source sink None
  -- "bits past the last node are passed over": words that agree on the nodes are one set
  pub past_last_node : (nodes : ℕ) (words other : List ℕ) → ((v : ℕ) → v < nodes → member words v ≡ member other v)
      → (v : ℕ) → nodes_in nodes words v ≡ nodes_in nodes other v
  -- "a wrong paper is marked, never refused": where no check holds, and none looks at what stands in a paper, there is no refusal
  pub never_refused : (s : List ℕ) (source sink : ℕ) (value : ℤ) (claims : List ℤ) (kinds : List ℕ) (settings : List ℤ) (sets points points' : List ℕ)
      → NoneOf (examine_checks s source sink value (length claims) (length kinds) (length settings) (length sets) (length points))
      → (r : Refusal) → Examines s source sink value claims kinds settings sets points points' (Err r) → ⊥
  -- each paper of a class has its points, for the one largest delivery, whatever it claims and holds
  pub each_marked : (s : List ℕ) (source sink : ℕ) (value : ℤ) (claims : List ℤ) (kinds : List ℕ) (settings : List ℤ) (sets points points' : List ℕ)
      (m : ClassFigures) (d : Option ℤ) → IsLargest s source sink d
      → Examines s source sink value claims kinds settings sets points points' (Ok (Some m))
      → (q : ℕ) → q < length claims → Points s source sink value d (paper_of s claims kinds settings sets q) (at points' q)
  -- least, greatest and sum of a class: none above 10 a paper
  pub figures_bounded : (s : List ℕ) (source sink : ℕ) (value : ℤ) (claims : List ℤ) (kinds : List ℕ) (settings : List ℤ) (sets points points' : List ℕ)
      (m : ClassFigures) → Examines s source sink value claims kinds settings sets points points' (Ok (Some m))
      → (1 ≤ m.number) × (m.number ≤ 1000) × (m.least ≤ m.greatest) × (m.greatest ≤ 10) × (m.number * m.least ≤ m.sum) × (m.sum ≤ m.number * m.greatest)
  -- "An empty class has no least, greatest or mean", and only an empty one has none
  pub empty_exactly : (s : List ℕ) (source sink : ℕ) (value : ℤ) (claims : List ℤ) (kinds : List ℕ) (settings : List ℤ) (sets points points' : List ℕ)
      (class : Result (Option ClassFigures) Refusal)
      → NoneOf (examine_checks s source sink value (length claims) (length kinds) (length settings) (length sets) (length points))
      → Examines s source sink value claims kinds settings sets points points' class → (class ≡ Ok None) ↔ (length claims ≡ 0)
  -- two runs of one class answer alike, and leave the same points
  pub class_one : (s : List ℕ) (source sink : ℕ) (value : ℤ) (claims : List ℤ) (kinds : List ℕ) (settings : List ℤ) (sets points points' points'' : List ℕ)
      (m m' : ClassFigures)
      → Examines s source sink value claims kinds settings sets points points' (Ok (Some m))
      → Examines s source sink value claims kinds settings sets points points'' (Ok (Some m'))
      → (m.number ≡ m'.number) × (m.sum ≡ m'.sum) × (m.least ≡ m'.least) × (m.greatest ≡ m'.greatest) × (points' ≡ points'')
