-- The first threshold that serves is one: it follows from the lengths of the darts and the heights of the nodes.
use mathlib.Core.Path.{◌≡◌, sym, ◌∙◌, ap, ap₂, subst}
use mathlib.Core.Logic.{◌⊎◌, inl, inr}
use mathlib.Core.Bool.{Bool, not, ◌&&◌}
use Prim.Native.Nat.{ℕ, ◌%◌, ◌<◌}
use lib.IntN.{ℤ, pos}
use lib.Signed.{◌≤ℤ◌, ◌<ℤ◌, lt_z}
use Rattle.integers.specs.Sum.{Integers, when}
use Rattle.integers.proofs.Laws.{le_antisym, lt_or_ge}
use Rattle.integers.proofs.Sums.{sum_ext}
use Rattle.maps.specs.Dart.{rev}
use Rattle.cuts.specs.inner.Cut.{cut_of}
use Rattle.cuts.proofs.Adding.{reverse_in}
use Rattle.thresholds.specs.inner.Above.{above}
use Rattle.thresholds.specs.inner.Choice.{FirstServes}

module _ {nodes darts : ℕ} {tail : ℕ → ℕ} (even : darts % 2 ≡ 0) (tail_in : (d : ℕ) → d < darts → tail d < nodes) {length length' height height' : ℕ → ℤ}
    (lengths : (d : ℕ) → d < darts → length d ≡ length' d) (heights : (v : ℕ) → v < nodes → height v ≡ height' v) where
  same_cut : (t : ℤ) → cut_of darts tail length (above height t) ≡ cut_of darts tail length' (above height' t)
  unfolding cut_of
  same_cut t =
      sum_ext Integers darts _ _ (λ d l. ap₂ (λ a b. when (lt_z t a && not (lt_z t b)) (length d))
      (heights (tail d) (tail_in d l)) (heights (tail (rev d)) (tail_in (rev d) (reverse_in darts d even l)))
      ∙ ap (λ z. when (lt_z t (height' (tail d)) && not (lt_z t (height' (tail (rev d))))) z) (lengths d l))

  module _ {S S' : ℕ → Bool} (α : FirstServes nodes darts tail length height S) (β : FirstServes nodes darts tail length' height' S') where
    lowests : α.lowest ≡ β.lowest
    lowests =
        let a = α.reached in
        let b = β.reached in
        le_antisym (subst (λ z. α.lowest ≤ℤ z) (heights b.0 b.1 ∙ sym b.2) (α.least b.0 b.1))
        (subst (λ z. β.lowest ≤ℤ z) (sym (heights a.0 a.1) ∙ sym a.2) (β.least a.0 a.1))

    thresholds : α.threshold ≡ β.threshold
    thresholds = by (lt_or_ge α.threshold β.threshold) (lt_or_ge β.threshold α.threshold)
      where
        by : (α.threshold <ℤ β.threshold) ⊎ (β.threshold ≤ℤ α.threshold) → (β.threshold <ℤ α.threshold) ⊎ (α.threshold ≤ℤ β.threshold)
            → α.threshold ≡ β.threshold
        by (inl l) q =
            absurd (β.none_lower α.threshold (subst (λ z. z ≤ℤ α.threshold) lowests α.from_lowest) l
            (subst (λ z. z <ℤ pos 0) (same_cut α.threshold) α.serves))
        by (inr g) (inl l) =
            absurd (α.none_lower β.threshold (subst (λ z. z ≤ℤ β.threshold) (sym lowests) β.from_lowest) l
            (subst (λ z. z <ℤ pos 0) (sym (same_cut β.threshold)) β.serves))
        by (inr g) (inr k) = le_antisym k g

    pub same_set : (v : ℕ) → v < nodes → S v ≡ S' v
    same_set v l =
        α.flags v l ∙ ap₂ (λ t z. lt_z t z) thresholds (heights v l) ∙ sym (β.flags v l)
