-- The maximum flow problem of the DIMACS challenge, and its greatest flow. It is of no drawing: nodes are numbered from 1, and the arcs, each one way, stand
-- in a list. A flow f is a number for each arc: f i for the arc at place i of the list.
use Rattle.std.specs.Prelude.{ℕ, ◌*◌, ◌≤◌, ◌<◌, ◌≡◌, ◌≢◌, cond, List, eqb, length, get_or, ℤ, pos, ◌-ℤ◌, ◌*ℤ◌, ◌≤ℤ◌}
use Rattle.integers.specs.Sum.{sumℕ}

pub record Arc : Type 0 where
  pub start : ℕ
  pub end : ℕ
  pub capacity : ℕ

-- `size` is how many arcs the problem line announces
pub record Problem : Type 0 where
  pub nodes : ℕ
  pub size : ℕ
  pub source : ℕ
  pub sink : ℕ
  pub arcs : List Arc

-- past the list's end there is no arc, and this stands for it; nothing below asks for one there
abbrev pub arc_at : Problem → ℕ → Arc
arc_at P i = get_or P.arcs i (record { start = 0; end = 0; capacity = 0 })

-- as many arcs as announced, every node named one of 1, .., nodes, and source and sink two
pub record WellPosed (P : Problem) : Type 0 where
  pub all_arcs : length P.arcs ≡ P.size
  pub source_in : (1 ≤ P.source) × (P.source ≤ P.nodes)
  pub sink_in : (1 ≤ P.sink) × (P.sink ≤ P.nodes)
  pub two : P.source ≢ P.sink
  pub starts_in : (i : ℕ) → i < length P.arcs → (1 ≤ (arc_at P i).start) × ((arc_at P i).start ≤ P.nodes)
  pub ends_in : (i : ℕ) → i < length P.arcs → (1 ≤ (arc_at P i).end) × ((arc_at P i).end ≤ P.nodes)

-- what leaves the node v along its arcs, and what comes to it; an arc from v to v counts in both
unfoldable pub out_flow : Problem → (ℕ → ℕ) → ℕ → ℕ
out_flow P f v = sumℕ (length P.arcs) (λ i. cond (eqb v (arc_at P i).start) (f i) 0)

unfoldable pub in_flow : Problem → (ℕ → ℕ) → ℕ → ℕ
in_flow P f v = sumℕ (length P.arcs) (λ i. cond (eqb v (arc_at P i).end) (f i) 0)

-- what comes to a node leaves it, but at source and sink
abbrev pub Conserved : Problem → (ℕ → ℕ) → Type 0
Conserved P f = (v : ℕ) → 1 ≤ v → v ≤ P.nodes → v ≢ P.source → v ≢ P.sink → in_flow P f v ≡ out_flow P f v

-- a flow is conserved, and no arc carries more than its capacity
pub record Feasible (P : Problem) (f : ℕ → ℕ) : Type 0 where
  pub within : (i : ℕ) → i < length P.arcs → f i ≤ (arc_at P i).capacity
  pub conserved : Conserved P f

-- the value of a flow: what leaves the source less what comes to it
abbrev pub flow_value : Problem → (ℕ → ℕ) → ℤ
flow_value P f = pos (out_flow P f P.source) -ℤ pos (in_flow P f P.source)

-- some flow has this value, and none a greater one
abbrev pub Greatest : Problem → ℤ → Type 0
Greatest P v = ((f : ℕ → ℕ) × Feasible P f × (flow_value P f ≡ v)) × ((f : ℕ → ℕ) → Feasible P f → flow_value P f ≤ℤ v)

-- ── flows that are no whole numbers ──
-- f i counts n-th parts: an arc carries n of them for each unit of its capacity
pub record FeasibleParts (n : ℕ) (P : Problem) (f : ℕ → ℕ) : Type 0 where
  pub within : (i : ℕ) → i < length P.arcs → f i ≤ n * (arc_at P i).capacity
  pub conserved : Conserved P f

-- no flow in n-th parts has a value greater than v, which is n times v parts
abbrev pub NoneGreaterInParts : ℕ → Problem → ℤ → Type 0
NoneGreaterInParts n P v = (f : ℕ → ℕ) → FeasibleParts n P f → flow_value P f ≤ℤ (pos n *ℤ v)
