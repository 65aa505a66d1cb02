-- Settings in parts: what a proving set excludes, it excludes in parts too; in first parts they are the settings of document 01; and whole settings are
-- settings in parts of every size.
use mathlib.Core.Path.{◌≡◌, refl, sym, subst, ap, ◌∙◌}
use mathlib.Core.Logic.{◌≢◌, ◌⊎◌, ◌↔◌, inl, inr}
use mathlib.Core.Bool.{Bool, true, false, cond}
use Prim.Native.Nat.{ℕ, zero, suc, ◌%◌, ◌/◌, ◌<◌}
use native.Mathlib.Omega.{arith}
use lib.Dec.{eqb}
use lib.IntN.{ℤ, pos, neg_ℤ, ◌+ℤ◌, ◌*ℤ◌}
use lib.Signed.{◌≤ℤ◌}
use Rattle.integers.specs.Sum.{Integers, when}
use Rattle.integers.proofs.Omega.{atoms₁, atoms₂, parts, equal, at_most, from_less}
use Rattle.integers.proofs.Laws.{lt_le_clash, le_trans, mul_le}
use Rattle.integers.proofs.Sums.{sum_ext}
use Rattle.integers.proofs.IntegerSums.{sum_mul, when_mul}
use Rattle.maps.specs.Map.{Map, darts}
use Rattle.maps.specs.Check.{InRange}
use Rattle.maps.specs.Flow.{Flow, net}
use Rattle.maps.specs.Cut.{leaves, cut}
use Rattle.maps.proofs.Cuts.{cut_bound_parts}
use Rattle.flows.specs.Settings.{on_darts, Carries}
use Rattle.flows.specs.Parts.{CarriesInParts, ExcludedInParts}
use Rattle.flows.specs.ProvingSet.{Proves}
use Rattle.flows.proofs.OnDarts.{on_darts_antisymmetric}
use Rattle.flows.specs.inner.Sides.{AtSource, AtSink, Beside}
use Rattle.flows.proofs.Exact.{bound_sent, proves_excludes}
use Rattle.flows.proofs.Interval.{which, source_limits, source_short, sink_proves_less, beside_proves_all}

-- ── excluded ──
pub proves_excludes_parts : {𝓜 : Map} → InRange 𝓜 → {s t : ℕ} → s < 𝓜.nodes → t < 𝓜.nodes
    → s ≢ t → (c : ℕ → ℤ) (value : ℤ) (S : ℕ → Bool) → Proves 𝓜 c s t value S
    → (n : ℕ) (φ : ℕ → ℤ) → Flow 𝓜 (λ d. pos (suc n) *ℤ c d) s t (pos (suc n) *ℤ value) φ → ⊥
proves_excludes_parts range {s = s} {t = t} s_in t_in s≢t c value S short n φ flow =
    lt_le_clash short (rw (bound_sent S s t value) (cut_bound_parts range s_in t_in s≢t c value n flow S))

pub proves_excluded : {𝓜 : Map} → InRange 𝓜 → {s t : ℕ} → s < 𝓜.nodes → t < 𝓜.nodes
    → s ≢ t → (c : ℕ → ℤ) (value : ℤ) (S : ℕ → Bool) → Proves 𝓜 c s t value S → ExcludedInParts 𝓜 c s t value
proves_excluded range s_in t_in s≢t c value S short zero x h = absurd (omega (arith, h.0))
proves_excluded range s_in t_in s≢t c value S short (suc n) x h = proves_excludes_parts range s_in t_in s≢t c value S short n (on_darts x) h.1

-- ── at most the largest value, in parts too ──
module _ {𝓜 : Map} (range : InRange 𝓜) {s t : ℕ} (s_in : s < 𝓜.nodes) (t_in : t < 𝓜.nodes) (s≢t : s ≢ t) (c : ℕ → ℤ)
    (v : ℤ) (x : ℕ → ℤ) (carried : Carries 𝓜 c s t v x) (S : ℕ → Bool) (proves : Proves 𝓜 c s t (v +ℤ pos 1) S) where
  -- a set that proves the value next above one that is carried holds the source only, since else it would exclude that one as well; and its cut is at most
  -- that one
  pub next_tight : AtSource s t S × (cut 𝓜 c S ≤ℤ v)
  next_tight = go (which s t S)
    where
      below : v ≤ℤ (v +ℤ pos 1)
      below = let a = atoms₁ v in at_most (search parts) (omega arith)

      go : AtSource s t S ⊎ (AtSink s t S ⊎ Beside s t S) → AtSource s t S × (cut 𝓜 c S ≤ℤ v)
      go (inl side) = (
        side,
        let a = atoms₂ v (cut 𝓜 c S) in
            at_most (search parts) (omega (arith, from_less (source_short 𝓜 c s t S side (v +ℤ pos 1) proves) (search parts))),
      )
      go (inr (inl side)) = absurd (proves_excludes range s_in t_in s≢t c v S (sink_proves_less 𝓜 c s t S side (v +ℤ pos 1) v below proves) x carried)
      go (inr (inr side)) = absurd (proves_excludes range s_in t_in s≢t c v S (beside_proves_all 𝓜 c s t S side (v +ℤ pos 1) proves v) x carried)

  scaled_cut : (n : ℕ) → cut 𝓜 (λ d. pos n *ℤ c d) S ≡ pos n *ℤ cut 𝓜 c S
  unfolding cut
  scaled_cut n =
      sum_ext Integers (darts 𝓜) (λ d. when (leaves 𝓜 S d) (pos n *ℤ c d)) (λ d. pos n *ℤ when (leaves 𝓜 S d) (c d))
      (λ d l. when_mul (leaves 𝓜 S d) (pos n) (c d))
      ∙ sum_mul (darts 𝓜) (pos n) (λ d. when (leaves 𝓜 S d) (c d))

  -- w parts that are carried are at most n times v: no fraction of a litre more
  pub most_in_parts : (n : ℕ) (w : ℤ) (y : ℕ → ℤ) → Carries 𝓜 (λ d. pos n *ℤ c d) s t w y → w ≤ℤ (pos n *ℤ v)
  most_in_parts n w y h =
      le_trans (source_limits range s_in t_in s≢t (λ d. pos n *ℤ c d) S next_tight.0 w y h) (rw (scaled_cut n) (mul_le n next_tight.1))

-- ── first parts ──
one_times : (x : ℤ) → pos 1 *ℤ x ≡ x
one_times x = let a = atoms₁ x in equal (search parts) (omega arith)

module _ (𝓜 : Map) (c : ℕ → ℤ) (s t : ℕ) (value : ℤ) (x : ℕ → ℤ) where
  pub one_part : CarriesInParts 1 𝓜 c s t value x ↔ Carries 𝓜 c s t value x
  one_part = (there, λ h. (omega arith, back h))
    where
      there : CarriesInParts 1 𝓜 c s t value x → Carries 𝓜 c s t value x
      there h = record {
        antisymmetric = h.1.antisymmetric;
        within = λ d l. subst (λ y. on_darts x d ≤ℤ y) (one_times (c d)) (h.1.within d l);
        balanced = h.1.balanced;
        carries = h.1.carries ∙ one_times value;
      }

      back : Carries 𝓜 c s t value x → Flow 𝓜 (λ d. pos 1 *ℤ c d) s t (pos 1 *ℤ value) (on_darts x)
      back h = record {
        antisymmetric = h.antisymmetric;
        within = λ d l. subst (λ y. on_darts x d ≤ℤ y) (sym (one_times (c d))) (h.within d l);
        balanced = h.balanced;
        carries = h.carries ∙ sym (one_times value);
      }

  -- ── whole settings, counted in parts ──
  abbrev scaled : ℕ → ℕ → ℤ
  scaled n e = pos n *ℤ x e

  on_darts_scaled : (n d : ℕ) → on_darts (scaled n) d ≡ pos n *ℤ on_darts x d
  unfolding on_darts
  on_darts_scaled n d = go (eqb (d % 2) 0)
    where
      go : (b : Bool) → cond b (pos n *ℤ x (d / 2)) (neg_ℤ (pos n *ℤ x (d / 2))) ≡ pos n *ℤ cond b (x (d / 2)) (neg_ℤ (x (d / 2)))
      go true = refl
      go false = let a = atoms₂ (pos n) (x (d / 2)) in equal (search parts) (omega arith)

  net_scaled : (n v : ℕ) → net 𝓜 (on_darts (scaled n)) v ≡ pos n *ℤ net 𝓜 (on_darts x) v
  unfolding net
  net_scaled n v =
      sum_ext Integers (darts 𝓜) (λ d. when (eqb v (𝓜.tail d)) (on_darts (scaled n) d)) (λ d. pos n *ℤ when (eqb v (𝓜.tail d)) (on_darts x d))
      (λ d l. ap (when (eqb v (𝓜.tail d))) (on_darts_scaled n d) ∙ when_mul (eqb v (𝓜.tail d)) (pos n) (on_darts x d))
      ∙ sum_mul (darts 𝓜) (pos n) (λ d. when (eqb v (𝓜.tail d)) (on_darts x d))

  pub whole_in_parts : (n : ℕ) → 0 < n → Carries 𝓜 c s t value x → CarriesInParts n 𝓜 c s t value (scaled n)
  whole_in_parts n some h = (
    some,
    record {
      antisymmetric = on_darts_antisymmetric 𝓜 (scaled n);
      within = λ d l. subst (λ y. y ≤ℤ (pos n *ℤ c d)) (sym (on_darts_scaled n d)) (mul_le n (h.within d l));
      balanced = λ v l p q. net_scaled n v ∙ ap (λ y. pos n *ℤ y) (h.balanced v l p q) ∙ nothing n;
      carries = net_scaled n s ∙ ap (λ y. pos n *ℤ y) h.carries;
    },
  )
    where
      nothing : (n : ℕ) → pos n *ℤ pos 0 ≡ pos 0
      nothing n = let a = atoms₁ (pos n) in equal (search parts) (omega arith)
