-- What a session must be for its questions and its offer to mean something. Every part is decided by code, so that any value may be handed in. Document 02,
-- Job 11: "Handed any other value as a session, a call still comes to an end and a refusal still changes nothing; no single outcome is asked there."
use Rattle.std.specs.Prelude.{ℕ, ◌+◌, ◌*◌, ◌≤◌, ◌<◌, ℤ, pos, ◌+ℤ◌, ◌≤ℤ◌, Result, Ok, Err}
use Rattle.refusals.specs.Order.{NoneOf}
use Rattle.refusals.specs.declared.Refusal.{Refusal}
use Rattle.maps.specs.Map.{darts}
use Rattle.maps.specs.Drawing.{Drawing}
use Rattle.maps.specs.Check.{InRange}
use Rattle.flows.specs.Settings.{on_darts}
use Rattle.rotations.specs.MapChecks.{map_checks}
use Rattle.questions.specs.declared.Solution.{Solution}
use Rattle.questions.specs.declared.Solution.TheVariants.{Can, Cannot}

-- an edge's two limits left: "Limits left may reach 2,000,000", and they do not add to less than zero
abbrev pub PairFits : ℤ → ℤ → Type 0
PairFits forward back = (forward ≤ℤ pos 2000000) × (back ≤ℤ pos 2000000) × (pos 0 ≤ℤ (forward +ℤ back))

abbrev pub LimitsFit : (edges : ℕ) → (ℕ → ℤ) → Type 0
LimitsFit edges left = (e : ℕ) → e < edges → PairFits (left (2 * e)) (left (2 * e + 1))

-- the counts and the outer dart are in range, and so is each tail and each rotation; the limits left fit
pub record InBounds (𝓓 : Drawing) : Type 0 where
  pub few_nodes : 𝓓.map.nodes ≤ 1024
  pub few_edges : 𝓓.map.edges ≤ 512
  pub outer_in : 𝓓.outer < darts 𝓓.map
  pub range : InRange 𝓓.map
  pub limits : LimitsFit 𝓓.map.edges 𝓓.capacity

-- and no map check holds, 9 to 12: the drawing is flat
pub record Fit (𝓓 : Drawing) : Type 0 where
  pub bounds : InBounds 𝓓
  pub passes : NoneOf (map_checks 𝓓.map)

-- what was not refused was asked of a fit drawing
abbrev pub OnFit : Drawing → Result Solution Refusal → Type 0
OnFit 𝓓 (Ok Can) = Fit 𝓓
OnFit 𝓓 (Ok (Cannot n)) = Fit 𝓓
OnFit 𝓓 (Err r) = Unit

-- the limits left of so many edges can be lowered by an offer: it keeps within them
pub record Lowerable (edges : ℕ) (left offer : ℕ → ℤ) : Type 0 where
  pub few_edges : edges ≤ 512
  pub limits : LimitsFit edges left
  pub within : (d : ℕ) → d < 2 * edges → on_darts offer d ≤ℤ left d
