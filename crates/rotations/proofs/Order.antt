-- The verdict of each way out of the checks 9 to 12.
use mathlib.Core.Path.{◌≡◌, refl, sym, ◌∙◌, ap}
use mathlib.Core.Logic.{inl, inr, ◌≢◌}
use Prim.Native.Nat.{ℕ, ◌+◌, ◌*◌}
use Rattle.refusals.specs.Order.{NoneOf, FirstOf}
use Rattle.maps.specs.Map.{Map}
use Rattle.maps.specs.Face.{faces}
use Rattle.maps.specs.Walk.{Components}
use Rattle.maps.specs.Check.{RotationFault, NodeFault, Sound}
use Rattle.maps.proofs.Parts.{flat_of, total_of}
use Rattle.rotations.specs.MapChecks.{map_checks}

module _ (𝓜 : Map) where
  pub refused_9 : RotationFault 𝓜 → FirstOf (map_checks 𝓜) 9 0
  unfolding FirstOf map_checks
  refused_9 h = inl (h, refl, refl)

  module _ (not-9 : RotationFault 𝓜 → ⊥) where
    pub refused_10 : NodeFault 𝓜 → FirstOf (map_checks 𝓜) 10 0
    unfolding FirstOf map_checks
    refused_10 h = inr (not-9, inl (h, refl, refl))

    -- the counts found are the numbers of faces and of parts
    module _ (not-10 : NodeFault 𝓜 → ⊥) (σ : Sound 𝓜) {parts : ℕ} {part : ℕ → ℕ} (κ : Components 𝓜 parts part) {count : ℕ} (is : count ≡ faces 𝓜) where
      pub refused_12 : 𝓜.nodes + count ≢ 𝓜.edges + 2 * parts → FirstOf (map_checks 𝓜) 12 0
      unfolding FirstOf map_checks
      refused_12 h = inr (not-9, inr (not-10, inl ((λ flat. h (ap (λ k. 𝓜.nodes + k) is ∙ total_of σ κ flat)), refl, refl)))

      pub none_refused : 𝓜.nodes + count ≡ 𝓜.edges + 2 * parts → NoneOf (map_checks 𝓜)
      unfolding NoneOf map_checks
      none_refused e = (not-9, (not-10, ((λ h. h (flat_of σ κ (ap (λ k. 𝓜.nodes + k) (sym is) ∙ e))), tt)))
