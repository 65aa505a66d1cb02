-- The subtotals of the nodes of a set add up to its cut, for every set of nodes; what agrees on the nodes has the same subtotals; and all of them fit 32 bits.
use mathlib.Core.Path.{◌≡◌, refl, sym, ◌∙◌, ap}
use mathlib.Core.Bool.{Bool, true, false, not, ◌&&◌}
use Prim.Native.Nat.{ℕ, ◌+◌, ◌*◌, ◌<◌}
use lib.Dec.{eqb}
use lib.IntN.{ℤ, ◌+ℤ◌}
use Rattle.integers.specs.Sum.{Integers, sumℤ, when}
use Rattle.integers.specs.inner.Limited.{Limited}
use Rattle.integers.proofs.Sums.{sum_ext, sum_pairs}
use Rattle.integers.proofs.Limits.{limited_when, limited_sum}
use Rattle.maps.specs.Dart.{rev}
use Rattle.maps.specs.Map.{Map, darts, head}
use Rattle.maps.specs.Cut.{leaves, cut}
use Rattle.maps.specs.Check.{InRange}
use Rattle.maps.proofs.Darts.{rev_in}
use Rattle.maps.proofs.LabelSums.{sum_at, over_labels}
use Rattle.totals.specs.Subtotal.{subtotal, total}

-- two tests at once, or one after the other
pub when_and : (a b : Bool) (x : ℤ) → when (a && b) x ≡ when a (when b x)
when_and true b x = refl
when_and false b x = refl

module _ (𝓜 : Map) (c : ℕ → ℤ) (S : ℕ → Bool) where
  -- what a dart adds to the subtotal of its tail
  abbrev pub outward : ℕ → ℤ
  outward d = when (not (S (head 𝓜 d))) (c d)

  pub subtotal_at : (v : ℕ) → subtotal 𝓜 c S v ≡ sumℤ (darts 𝓜) (λ d. when (eqb v (𝓜.tail d)) (outward d))
  unfolding subtotal
  subtotal_at v =
      sum_ext Integers (darts 𝓜) (λ d. when (eqb v (𝓜.tail d) && not (S (head 𝓜 d))) (c d)) (λ d. when (eqb v (𝓜.tail d)) (outward d))
      (λ d l. when_and (eqb v (𝓜.tail d)) (not (S (head 𝓜 d))) (c d))

  -- document 01's sum, dart by dart
  pub total_cut : InRange 𝓜 → total 𝓜 c S ≡ cut 𝓜 c S
  unfolding total cut
  total_cut range =
      sum_ext Integers 𝓜.nodes (λ v. when (S v) (subtotal 𝓜 c S v)) (λ v. when (S v) (sum_at 𝓜.edges 𝓜.tail outward v))
      (λ v l. ap (when (S v)) (subtotal_at v))
      ∙ sym (over_labels 𝓜.edges 𝓜.tail 𝓜.nodes outward range.tail_in S)
      ∙ sum_ext Integers (darts 𝓜) (λ d. when (S (𝓜.tail d)) (outward d)) (λ d. when (leaves 𝓜 S d) (c d))
      (λ d l. sym (when_and (S (𝓜.tail d)) (not (S (head 𝓜 d))) (c d)))

  -- and channel by channel, each with both its darts
  pub cut_by_edges : cut 𝓜 c S ≡ sumℤ 𝓜.edges (λ e. when (leaves 𝓜 S (2 * e)) (c (2 * e)) +ℤ when (leaves 𝓜 S (2 * e + 1)) (c (2 * e + 1)))
  unfolding cut
  cut_by_edges = sum_pairs Integers 𝓜.edges (λ d. when (leaves 𝓜 S d) (c d))

  -- ── how great they are: each dart counts once at most ──
  module _ (bound : ℕ) (small : (d : ℕ) → d < darts 𝓜 → Limited bound (c d)) where
    pub subtotal_limited : (v : ℕ) → Limited (darts 𝓜 * bound) (subtotal 𝓜 c S v)
    unfolding subtotal
    subtotal_limited v = limited_sum (darts 𝓜) bound _ (λ d l. limited_when (eqb v (𝓜.tail d) && not (S (head 𝓜 d))) (small d l))

    pub total_limited : InRange 𝓜 → Limited (darts 𝓜 * bound) (total 𝓜 c S)
    unfolding cut
    total_limited range = rw (total_cut range) (limited_sum (darts 𝓜) bound _ (λ d l. limited_when (leaves 𝓜 S d) (small d l)))

-- what the set says past the last node is passed over
pub subtotal_agrees : {𝓜 : Map} → InRange 𝓜 → (c : ℕ → ℤ) (S T : ℕ → Bool) → ((v : ℕ) → v < 𝓜.nodes → S v ≡ T v)
    → (v : ℕ) → subtotal 𝓜 c S v ≡ subtotal 𝓜 c T v
unfolding subtotal
subtotal_agrees {𝓜} range c S T same v =
    sum_ext Integers (darts 𝓜) (λ d. when (eqb v (𝓜.tail d) && not (S (head 𝓜 d))) (c d)) (λ d. when (eqb v (𝓜.tail d) && not (T (head 𝓜 d))) (c d))
    (λ d l. ap (λ x. when (eqb v (𝓜.tail d) && not x) (c d)) (same (head 𝓜 d) (range.tail_in (rev d) (rev_in 𝓜.edges d l))))
