-- Source and sink exchanged: what carries a value from t to s carries its negative from s to t, the highest answer is the same, and so is what a set proves.
-- The least value from s to t is so the negative of the largest from t to s (document 02, Job 4).
use mathlib.Core.Path.{◌≡◌, refl, sym, ◌∙◌, subst}
use mathlib.Core.Logic.{◌≢◌}
use mathlib.Core.Bool.{Bool, true, false, cond}
use Prim.Native.Nat.{ℕ, ◌<◌}
use lib.IntN.{ℤ, pos, neg_ℤ, neg_ℤ-neg_ℤ}
use lib.Signed.{◌<ℤ◌}
use Rattle.maps.specs.Map.{Map}
use Rattle.maps.specs.Check.{InRange}
use Rattle.maps.specs.Cut.{cut}
use Rattle.maps.proofs.Cuts.{sink_takes}
use Rattle.flows.specs.Settings.{Carries}
use Rattle.flows.specs.Highest.{Highest}
use Rattle.flows.specs.ProvingSet.{bound, Proves}

pub bound_back : (S : ℕ → Bool) (s t : ℕ) (value : ℤ) → bound S t s value ≡ bound S s t (neg_ℤ value)
unfolding bound
bound_back S s t value = go (S s) (S t)
  where
    go : (a b : Bool) → cond b (cond a (pos 0) value) (cond a (neg_ℤ value) (pos 0)) ≡ cond a (cond b (pos 0) (neg_ℤ value))
        (cond b (neg_ℤ (neg_ℤ value)) (pos 0))
    go true true = refl
    go true false = refl
    go false true = sym (neg_ℤ-neg_ℤ value)
    go false false = refl

pub proves_back : (𝓜 : Map) (c : ℕ → ℤ) (s t : ℕ) (value : ℤ) (S : ℕ → Bool) → Proves 𝓜 c t s value S → Proves 𝓜 c s t (neg_ℤ value) S
proves_back 𝓜 c s t value S = subst (λ b. cut 𝓜 c S <ℤ b) (bound_back S s t value)

module _ {𝓜 : Map} (range : InRange 𝓜) {s t : ℕ} (s_in : s < 𝓜.nodes) (t_in : t < 𝓜.nodes) (s≢t : s ≢ t) {c : ℕ → ℤ} where
  pub carries_back : {value : ℤ} (x : ℕ → ℤ) → Carries 𝓜 c s t value x → Carries 𝓜 c t s (neg_ℤ value) x
  carries_back x flow = record {
    antisymmetric = flow.antisymmetric;
    within = flow.within;
    balanced = λ v l p q. flow.balanced v l q p;
    carries = sink_takes range s_in t_in s≢t flow;
  }

  pub highest_back : {outer : ℕ} {value : ℤ} {x : ℕ → ℤ} → Highest 𝓜 outer c s t value x → Highest 𝓜 outer c t s (neg_ℤ value) x
  highest_back {value = value} {x = x} h = record { carries = carries_back x h.carries; highest = λ y flow. h.highest y (again y flow) }
    where
      again : (y : ℕ → ℤ) → Carries 𝓜 c t s (neg_ℤ value) y → Carries 𝓜 c s t value y
      again y flow = record {
        antisymmetric = flow.antisymmetric;
        within = flow.within;
        balanced = λ v l p q. flow.balanced v l q p;
        carries = sink_takes range t_in s_in (λ e. s≢t (sym e)) flow ∙ neg_ℤ-neg_ℤ value;
      }
