-- A session that two parties share. Document 02, Job 11: "On the table a delivery is first shown and then let in. A session starts from a sheet."; Job 12: "Two
-- parties, 0 and 1, share one session, its limits and its faces. Each has an offer of its own and may commit once until the session is cleared; clearing
-- restores the sheet's limits and removes both offers." It lies in memory that the caller owns and lends to each call: any value can be handed in as one.
use Rattle.std.specs.Prelude.{ℕ, ◌*◌, cond, List, [], eqb, ℤ, ◌-ℤ◌}
use Rattle.maps.specs.Drawing.{Drawing}
use Rattle.flows.specs.Settings.{on_darts}
use Rattle.arrays.specs.At.{at, atℤ}
use Rattle.arrays.specs.Maps.{drawing_of}
use Rattle.arrays.specs.Filled.{tabulate, filled}

-- where a party stands: no offer, an offer, an offer that another's commit made stale, or it has committed. Any other number is as no offer
abbrev pub idle : ℕ
idle = 0

abbrev pub offered : ℕ
offered = 1

abbrev pub stale : ℕ
stale = 2

abbrev pub committed : ℕ
committed = 3

-- the drawing, the sheet's limits and what is left of them; of each party where it stands, and its offer. Only the parties 0 and 1 mean anything
pub record Shared : Type 0 where
  pub nodes : ℕ
  pub edges : ℕ
  pub outer : ℕ
  pub tails : List ℕ
  pub rotations : List ℕ
  pub limits : List ℤ
  pub left : List ℤ
  pub standing : ℕ → ℕ
  pub offer : ℕ → List ℤ

-- the offers of the parties 0 and 1
abbrev pub offers_of : (first second : List ℤ) → ℕ → List ℤ
offers_of first second q = cond (eqb q 0) first (cond (eqb q 1) second [])

-- the session in the caller's memory: a byte of standing for each party, and an array for each party's offer
abbrev pub shared_of : (nodes edges outer : ℕ) (tails rotations : List ℕ) (limits left : List ℤ) (standing : List ℕ) (first second : List ℤ) → Shared
shared_of nodes edges outer tails rotations limits left standing first second = record {
  nodes = nodes;
  edges = edges;
  outer = outer;
  tails = tails;
  rotations = rotations;
  limits = limits;
  left = left;
  standing = at standing;
  offer = offers_of first second;
}

abbrev pub shared_drawing : Shared → Drawing
shared_drawing S = drawing_of S.nodes S.edges S.outer S.tails S.rotations S.left

-- party p stands there, with this offer; all else as it was
abbrev pub put : Shared → ℕ → ℕ → List ℤ → Shared
put S p a xs = record {
  nodes = S.nodes;
  edges = S.edges;
  outer = S.outer;
  tails = S.tails;
  rotations = S.rotations;
  limits = S.limits;
  left = S.left;
  standing = λ q. cond (eqb q p) a (S.standing q);
  offer = λ q. cond (eqb q p) xs (S.offer q);
}

-- "A commit by one makes the other's offer stale."
abbrev pub staled : ℕ → ℕ
staled a = cond (eqb a offered) stale a

-- the flows of the offer of p, one for each edge
abbrev pub flows_of : Shared → ℕ → List ℤ
flows_of S p = tabulate S.edges (atℤ (S.offer p))

-- each dart's limit left lowered once by its own flow
abbrev pub lowered_by : (edges : ℕ) → List ℤ → List ℤ → List ℤ
lowered_by edges left xs = filled (2 * edges) (λ d. atℤ left d -ℤ on_darts (atℤ xs) d) left

abbrev pub let_in : Shared → ℕ → Shared
let_in S p = record {
  nodes = S.nodes;
  edges = S.edges;
  outer = S.outer;
  tails = S.tails;
  rotations = S.rotations;
  limits = S.limits;
  left = lowered_by S.edges S.left (flows_of S p);
  standing = λ q. cond (eqb q p) committed (staled (S.standing q));
  offer = S.offer;
}

abbrev pub cleared : Shared → Shared
cleared S = record {
  nodes = S.nodes;
  edges = S.edges;
  outer = S.outer;
  tails = S.tails;
  rotations = S.rotations;
  limits = S.limits;
  left = S.limits;
  standing = λ q. idle;
  offer = S.offer;
}
