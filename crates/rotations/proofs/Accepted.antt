-- A map in range passes the checks 9 to 12 if and only if it is sound and flat. For the crates above.
use mathlib.Core.Path.{sym, ◌∙◌}
use mathlib.Core.Logic.{inl, inr}
use native.Mathlib.Omega.{arith}
use Rattle.refusals.specs.Order.{NoneOf}
use Rattle.maps.specs.Map.{Map}
use Rattle.maps.specs.Flat.{Flat}
use Rattle.maps.specs.Check.{InRange, RotationFault, NodeFault, Sound}
use Rattle.maps.proofs.Checks.{sound_of_checks}
use Rattle.maps.proofs.Parts.{flat_of_check}
use Rattle.rotations.specs.MapChecks.{map_checks}

-- ── passed: sound and flat ──
pub accepted : {𝓜 : Map} → InRange 𝓜 → NoneOf (map_checks 𝓜) → Sound 𝓜 × Flat 𝓜
unfolding NoneOf map_checks
accepted {𝓜} range h = let σ = sound_of_checks range h.0 h.1.0 in (σ, flat_of_check σ h.1.1.0)

-- ── and the other way round ──
module _ {𝓜 : Map} (σ : Sound 𝓜) where
  pub no_rotation_fault : RotationFault 𝓜 → ⊥
  no_rotation_fault (inl (d, l, h)) = h (σ.same_tail d l)
  no_rotation_fault (inr (c, d, l, m, e)) = omega (arith, σ.injective c d (omega arith) m e)

  pub no_node_fault : NodeFault 𝓜 → ⊥
  no_node_fault (v, l, inl none) = let r = σ.has_dart v l in none r.0 r.1 r.2
  no_node_fault (v, l, inr (c, d, lc, ld, ec, ed, far)) = far (σ.one_round c d lc ld (ec ∙ sym ed))

  pub passes : Flat 𝓜 → NoneOf (map_checks 𝓜)
  unfolding NoneOf map_checks
  passes flat = (no_rotation_fault, (no_node_fault, ((λ h. h flat), tt)))
