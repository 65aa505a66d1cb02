-- Lengths of darts for a value: the capacity less the value along what carries it. Potentials that no dart can lower, and flows of that value, are the same
-- thing.
use mathlib.Core.Path.{◌≡◌, refl, ◌∙◌, ap₂}
use mathlib.Core.Logic.{◌≢◌}
use Prim.Native.Nat.{ℕ, ◌<◌}
use native.Mathlib.Omega.{arith}
use lib.Dec.{eqb}
use lib.IntN.{ℤ, pos, ◌+ℤ◌, ◌-ℤ◌, ◌*ℤ◌}
use Rattle.integers.specs.Sum.{when}
use Rattle.integers.proofs.Omega.{atoms₁, atoms₃, atoms₄, parts, equal, at_most, from_at_most}
use Rattle.integers.proofs.Tests.{eqb_true, eqb_false}
use Rattle.maps.specs.Map.{Map, darts}
use Rattle.maps.specs.Face.{left, right}
use Rattle.maps.specs.Check.{Sound}
use Rattle.maps.specs.Flow.{Antisymmetric, net}
use Rattle.maps.specs.Potential.{difference}
use Rattle.maps.proofs.Planar.{difference_circulation}
use Rattle.flows.specs.Settings.{on_darts, Carries}
use Rattle.flows.proofs.OnDarts.{on_darts_antisymmetric, on_darts_of}
use Rattle.flows.proofs.Nets.{net_ext, net_add, net_mul}
use Rattle.flows.specs.inner.UnitFlow.{Carrier}
use Rattle.flows.specs.inner.Lengths.{length_for, Feasible, made, edge_flow}

module _ {𝓜 : Map} (σ : Sound 𝓜) {s t : ℕ} {π : ℕ → ℤ} (c : ℕ → ℤ) (value : ℤ) (carrier : Carrier 𝓜 s t value π) where
  made_antisymmetric : (ρ : ℕ → ℤ) → Antisymmetric 𝓜 (made 𝓜 π value ρ)
  made_antisymmetric ρ d l =
      ap₂ (λ x y. x +ℤ value *ℤ y) ((difference_circulation σ ρ).antisymmetric d l) (carrier.antisymmetric d l)
      ∙ (let a = atoms₃ (difference 𝓜 ρ d) value (π d) in equal (search parts) (omega arith))

  pub edge_flow_darts : (ρ : ℕ → ℤ) (d : ℕ) → d < darts 𝓜 → on_darts (edge_flow 𝓜 π value ρ) d ≡ made 𝓜 π value ρ d
  edge_flow_darts ρ = on_darts_of 𝓜 (made 𝓜 π value ρ) (made_antisymmetric ρ)

  -- the value leaves s and arrives at t
  edge_flow_net : (ρ : ℕ → ℤ) (v : ℕ) → v < 𝓜.nodes → net 𝓜 (on_darts (edge_flow 𝓜 π value ρ)) v ≡ value *ℤ (when (eqb v s) (pos 1) -ℤ when (eqb v t) (pos 1))
  edge_flow_net ρ v l =
      net_ext 𝓜 v (on_darts (edge_flow 𝓜 π value ρ)) (made 𝓜 π value ρ) (edge_flow_darts ρ)
      ∙ net_add 𝓜 v (difference 𝓜 ρ) (λ d. value *ℤ π d)
      ∙ ap₂ ◌+ℤ◌ ((difference_circulation σ ρ).balanced v l) (net_mul 𝓜 v value π ∙ carrier.nets v)
      ∙ (let a = atoms₃ value (when (eqb v s) (pos 1)) (when (eqb v t) (pos 1)) in equal (search parts) (omega arith))

  pub feasible_carries : s < 𝓜.nodes → s ≢ t → (ρ : ℕ → ℤ) → Feasible 𝓜 (length_for c π value) ρ → Carries 𝓜 c s t value (edge_flow 𝓜 π value ρ)
  feasible_carries s_in s≢t ρ h = record {
    antisymmetric = on_darts_antisymmetric 𝓜 (edge_flow 𝓜 π value ρ);
    within = λ d l.
        rw (edge_flow_darts ρ d l)
        (let a = atoms₄ (ρ (left 𝓜 d)) (ρ (right 𝓜 d)) (c d) (value *ℤ π d) in at_most (search parts) (omega (arith, from_at_most (h d l) (search parts))));
    balanced = λ v l p q.
        edge_flow_net ρ v l
        ∙ ap₂ (λ x y. value *ℤ (when x (pos 1) -ℤ when y (pos 1))) (eqb_false v s p) (eqb_false v t q)
        ∙ (let a = atoms₁ value in equal (search parts) (omega arith));
    carries =
        edge_flow_net ρ s s_in
        ∙ ap₂ (λ x y. value *ℤ (when x (pos 1) -ℤ when y (pos 1))) (eqb_true s s refl) (eqb_false s t s≢t)
        ∙ (let a = atoms₁ value in equal (search parts) (omega arith));
  }
