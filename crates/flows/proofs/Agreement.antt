-- What agrees where it counts is as good: sets that agree on the nodes have one cut and prove the same;
-- settings that agree on the edges carry the same, and are the highest alike.
use mathlib.Core.Path.{◌≡◌, sym, ◌∙◌, ap, ap₂}
use mathlib.Core.Bool.{Bool, not, ◌&&◌, cond}
use Prim.Native.Nat.{ℕ, ◌<◌}
use lib.IntN.{ℤ, pos, neg_ℤ, ◌-ℤ◌}
use Rattle.integers.specs.Sum.{Integers, when}
use Rattle.integers.proofs.Sums.{sum_ext}
use Rattle.maps.specs.Dart.{rev}
use Rattle.maps.specs.Map.{Map, darts, head}
use Rattle.maps.specs.Check.{InRange}
use Rattle.maps.specs.Cut.{leaves, cut}
use Rattle.maps.proofs.Darts.{by_edge, rev_in}
use Rattle.flows.specs.Settings.{on_darts, Within, Carries}
use Rattle.flows.specs.Highest.{Highest}
use Rattle.flows.specs.ProvingSet.{bound, Proves}
use Rattle.flows.proofs.OnDarts.{on_darts_even, on_darts_odd, on_darts_antisymmetric, on_darts_sub}
use Rattle.flows.proofs.Nets.{net_ext}

-- ── sets ──
module _ {𝓜 : Map} (range : InRange 𝓜) (S T : ℕ → Bool) (same : (v : ℕ) → v < 𝓜.nodes → S v ≡ T v) where
  pub cut_agrees : (c : ℕ → ℤ) → cut 𝓜 c S ≡ cut 𝓜 c T
  unfolding cut
  cut_agrees c =
      sum_ext Integers (darts 𝓜) (λ d. when (leaves 𝓜 S d) (c d)) (λ d. when (leaves 𝓜 T d) (c d))
      (λ d l. ap₂ (λ x y. when (x && not y) (c d)) (same (𝓜.tail d) (range.tail_in d l)) (same (head 𝓜 d) (range.tail_in (rev d) (rev_in 𝓜.edges d l))))

  pub proves_agrees : (c : ℕ → ℤ) {s t : ℕ} → s < 𝓜.nodes → t < 𝓜.nodes → (value : ℤ) → Proves 𝓜 c s t value S → Proves 𝓜 c s t value T
  unfolding bound
  proves_agrees c {s} {t} ls lt value h =
      rw (sym (cut_agrees c), ap₂ (λ a b. cond a (cond b (pos 0) value) (cond b (neg_ℤ value) (pos 0))) (sym (same s ls)) (sym (same t lt))) h

-- ── settings ──
module _ (𝓜 : Map) (x y : ℕ → ℤ) (same : (e : ℕ) → e < 𝓜.edges → x e ≡ y e) where
  pub on_darts_agrees : (d : ℕ) → d < darts 𝓜 → on_darts x d ≡ on_darts y d
  on_darts_agrees =
      by_edge 𝓜.edges (λ d. on_darts x d ≡ on_darts y d)
      (λ e l. on_darts_even x e ∙ same e l ∙ sym (on_darts_even y e))
      (λ e l. on_darts_odd x e ∙ ap neg_ℤ (same e l) ∙ sym (on_darts_odd y e))

  pub within_agrees : (c : ℕ → ℤ) → Within 𝓜 c x → Within 𝓜 c y
  within_agrees c h d l = rw (sym (on_darts_agrees d l)) (h d l)

  pub carries_agrees : {c : ℕ → ℤ} {s t : ℕ} {value : ℤ} → Carries 𝓜 c s t value x → Carries 𝓜 c s t value y
  carries_agrees {s = s} h = record {
    antisymmetric = on_darts_antisymmetric 𝓜 y;
    within = within_agrees _ h.within;
    balanced = λ v l p q. sym (net_ext 𝓜 v (on_darts x) (on_darts y) on_darts_agrees) ∙ h.balanced v l p q;
    carries = sym (net_ext 𝓜 s (on_darts x) (on_darts y) on_darts_agrees) ∙ h.carries;
  }

  pub highest_agrees : {outer : ℕ} {c : ℕ → ℤ} {s t : ℕ} {value : ℤ} → Highest 𝓜 outer c s t value x → Highest 𝓜 outer c s t value y
  highest_agrees h = record {
    carries = carries_agrees h.carries;
    highest = λ z hz.
        let r = h.highest z hz in (
          r.0,
          record {
            differences = λ d l. on_darts_sub z y d ∙ ap (λ w. on_darts z d -ℤ w) (sym (on_darts_agrees d l)) ∙ sym (on_darts_sub z x d) ∙ r.1.differences d l;
            rooted = r.1.rooted;
          },
          r.2,
        );
  }
