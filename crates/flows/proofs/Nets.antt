-- Net flows are linear, and tell no two functions apart that agree on the darts.
use mathlib.Core.Path.{◌≡◌, ◌∙◌, ap}
use Prim.Native.Nat.{ℕ, ◌<◌}
use lib.Dec.{eqb}
use lib.IntN.{ℤ, neg_ℤ, ◌+ℤ◌, ◌-ℤ◌, ◌*ℤ◌}
use Rattle.integers.specs.Sum.{Integers, when}
use Rattle.integers.proofs.Sums.{sum_ext, sum_add}
use Rattle.integers.proofs.IntegerSums.{sum_neg, sum_mul, when_neg, when_add, when_mul}
use Rattle.maps.specs.Map.{Map, darts}
use Rattle.maps.specs.Flow.{net}

module _ (𝓜 : Map) (v : ℕ) where
  abbrev here : ℕ → ℤ → ℤ
  here d x = when (eqb v (𝓜.tail d)) x

  pub net_ext : (φ ψ : ℕ → ℤ) → ((d : ℕ) → d < darts 𝓜 → φ d ≡ ψ d) → net 𝓜 φ v ≡ net 𝓜 ψ v
  unfolding net
  net_ext φ ψ h = sum_ext Integers (darts 𝓜) (λ d. here d (φ d)) (λ d. here d (ψ d)) (λ d l. ap (here d) (h d l))

  pub net_add : (φ ψ : ℕ → ℤ) → net 𝓜 (λ d. φ d +ℤ ψ d) v ≡ net 𝓜 φ v +ℤ net 𝓜 ψ v
  unfolding net
  net_add φ ψ =
      sum_ext Integers (darts 𝓜) (λ d. here d (φ d +ℤ ψ d)) (λ d. here d (φ d) +ℤ here d (ψ d)) (λ d l. when_add (eqb v (𝓜.tail d)) (φ d) (ψ d))
      ∙ sum_add Integers (darts 𝓜) (λ d. here d (φ d)) (λ d. here d (ψ d))

  pub net_neg : (φ : ℕ → ℤ) → net 𝓜 (λ d. neg_ℤ (φ d)) v ≡ neg_ℤ (net 𝓜 φ v)
  unfolding net
  net_neg φ =
      sum_ext Integers (darts 𝓜) (λ d. here d (neg_ℤ (φ d))) (λ d. neg_ℤ (here d (φ d))) (λ d l. when_neg (eqb v (𝓜.tail d)) (φ d))
      ∙ sum_neg (darts 𝓜) (λ d. here d (φ d))

  pub net_sub : (φ ψ : ℕ → ℤ) → net 𝓜 (λ d. φ d -ℤ ψ d) v ≡ net 𝓜 φ v -ℤ net 𝓜 ψ v
  net_sub φ ψ = net_add φ (λ d. neg_ℤ (ψ d)) ∙ ap (λ x. net 𝓜 φ v +ℤ x) (net_neg ψ)

  pub net_mul : (k : ℤ) (φ : ℕ → ℤ) → net 𝓜 (λ d. k *ℤ φ d) v ≡ k *ℤ net 𝓜 φ v
  unfolding net
  net_mul k φ =
      sum_ext Integers (darts 𝓜) (λ d. here d (k *ℤ φ d)) (λ d. k *ℤ here d (φ d)) (λ d l. when_mul (eqb v (𝓜.tail d)) k (φ d))
      ∙ sum_mul (darts 𝓜) k (λ d. here d (φ d))
