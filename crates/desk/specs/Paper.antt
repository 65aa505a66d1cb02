-- A paper and its points. Document 02, Job 14: "A paper has settings, a claimed largest delivery and a set. It earns 4 points if Mark gives the delivery asked,
-- 3 if the claim is the largest, 3 if the set proves the delivery next above that largest impossible; where the largest is none, the last 6 go to a paper that
-- claims none with a set that meets 01's rule for "none". In either case bits past the last node are passed over." Said of drawings and deliveries: no
-- operation is named here. That Mark gives a delivery exactly where settings carry it, and Largest the largest, is among the statements.
use Rattle.std.specs.Prelude.{ℕ, ◌+◌, ◌≡◌, ◌⊎◌, Bool, cond, ◌&&◌, List, eqb, ltb, ℤ, pos, ◌+ℤ◌, ◌≤ℤ◌, ◌<ℤ◌, Option, Some, None}
use Rattle.maps.specs.Cut.{cut}
use Rattle.flows.specs.ProvingSet.{words_for, member}
use Rattle.arrays.specs.At.{at, atℤ}
use Rattle.records.specs.Sheet.{nodes_of, edges_of, capacity_of, sheet_map}
use Rattle.pages.specs.Stretch.{stretch}
use Rattle.analyser.specs.Statements.{Delivers, Possible, Impossible, ProvesOf}

-- ── a paper ──
-- the setting of each edge, the claim, and the nodes of the set
pub record Paper : Type 0 where
  pub settings : ℕ → ℤ
  pub claim : Option ℤ
  pub set : ℕ → Bool

-- a claim is a number, or none: kind 1 claims none, and its number is not read
unfoldable pub claim_of : (kind : ℕ) → ℤ → Option ℤ
claim_of kind number = cond (eqb kind 1) None (Some number)

-- the nodes whose bits are set in the words: "bits past the last node are passed over"
unfoldable pub nodes_in : (nodes : ℕ) → List ℕ → ℕ → Bool
nodes_in nodes words v = ltb v nodes && member words v

-- paper q of a class: claim and kind number q, and stretch q of the settings and of the sets, "in stretches as in Job 1"
abbrev pub paper_of : List ℕ → (claims : List ℤ) (kinds : List ℕ) (settings : List ℤ) (sets : List ℕ) → ℕ → Paper
paper_of s claims kinds settings sets q = record {
  settings = atℤ (stretch (edges_of s) q settings);
  claim = claim_of (at kinds q) (atℤ claims q);
  set = nodes_in (nodes_of s) (stretch (words_for (nodes_of s)) q sets);
}

-- ── its points ──
-- what is worth k points earns k where it holds, and nothing where it does not
abbrev pub Earns : Type 0 → (k n : ℕ) → Type 0
Earns P k n = (P × (n ≡ k)) ⊎ ((P → ⊥) × (n ≡ 0))

-- the largest delivery: some settings carry it, and no settings carry a greater one; none where no settings carry anything
abbrev pub IsLargest : List ℕ → (source sink : ℕ) → Option ℤ → Type 0
IsLargest s source sink (Some v) = Possible s source sink v × ((w : ℤ) → Possible s source sink w → w ≤ℤ v)
IsLargest s source sink None = (w : ℤ) → Impossible s source sink w

-- 01's rule for "none": "a set holding both or neither of headgate and outfall, outward total below 0"
abbrev pub NoneRule : List ℕ → (source sink : ℕ) → (ℕ → Bool) → Type 0
NoneRule s source sink S = (S source ≡ S sink) × (cut (sheet_map s) (capacity_of s) S <ℤ pos 0)

-- the points for claim and set: 3 and 3, each by itself; where the largest is none 6 for both together
abbrev pub LastSix : List ℕ → (source sink : ℕ) → (largest : Option ℤ) → Paper → ℕ → Type 0
LastSix s source sink (Some v) paper n =
    (b c : ℕ) × Earns (paper.claim ≡ Some v) 3 b × Earns (ProvesOf s source sink (v +ℤ pos 1) paper.set) 3 c × (n ≡ b + c)
LastSix s source sink None paper n = Earns ((paper.claim ≡ None) × NoneRule s source sink paper.set) 6 n

-- all the points: 4 for settings that carry the delivery asked, and those for claim and set
abbrev pub Points : List ℕ → (source sink : ℕ) → (value : ℤ) → (largest : Option ℤ) → Paper → ℕ → Type 0
Points s source sink value largest paper n =
    (a b : ℕ) × Earns (Delivers s source sink value paper.settings) 4 a × LastSix s source sink largest paper b × (n ≡ a + b)
