-- Flows on darts. Document 01, "Faces, settings, levels": the reverse dart has the negative of a dart's flow; "No dart may carry more than its limit.
-- The value is the sum over darts with tail at the headgate (000, 10.3). At other nodes but the outfall that sum is zero."
-- A limit is a capacity here, the headgate the source, the outfall the sink, and balanced settings are a circulation. Capacities may be below zero.
use Rattle.std.specs.Prelude.{ℕ, ◌<◌, ◌≡◌, ◌≢◌, eqb, ℤ, pos, neg_ℤ, ◌≤ℤ◌}
use Rattle.integers.specs.Sum.{sumℤ, when}
use Rattle.maps.specs.Dart.{rev}
use Rattle.maps.specs.Map.{Map, darts}

abbrev pub Antisymmetric : Map → (ℕ → ℤ) → Type 0
Antisymmetric 𝓜 φ = (d : ℕ) → d < darts 𝓜 → φ (rev d) ≡ neg_ℤ (φ d)

-- the net flow out of v: the sum over the darts with tail at v; a loop counts with both its darts, which cancel
unfoldable pub net : Map → (ℕ → ℤ) → ℕ → ℤ
net 𝓜 φ v = sumℤ (darts 𝓜) (λ d. when (eqb v (𝓜.tail d)) (φ d))

pub record Circulation (𝓜 : Map) (φ : ℕ → ℤ) : Type 0 where
  pub antisymmetric : Antisymmetric 𝓜 φ
  pub balanced : (v : ℕ) → v < 𝓜.nodes → net 𝓜 φ v ≡ pos 0

-- φ is a flow from s to t of this value within the capacities c
pub record Flow (𝓜 : Map) (c : ℕ → ℤ) (s t : ℕ) (value : ℤ) (φ : ℕ → ℤ) : Type 0 where
  pub antisymmetric : Antisymmetric 𝓜 φ
  pub within : (d : ℕ) → d < darts 𝓜 → φ d ≤ℤ c d
  pub balanced : (v : ℕ) → v < 𝓜.nodes → v ≢ s → v ≢ t → net 𝓜 φ v ≡ pos 0
  pub carries : net 𝓜 φ s ≡ value
