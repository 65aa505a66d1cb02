-- Heights with given differences and with the first node of each tree at 0 are one, at the node of every dart.
use mathlib.Core.Path.{◌≡◌, refl, sym, ◌∙◌, ap, subst}
use mathlib.Core.Logic.{◌⊎◌, inl, inr}
use Prim.Native.Nat.{ℕ, zero, suc, ◌+◌, ◌<◌}
use native.Mathlib.Omega.{arith}
use borrow.Author.Count.{below_more}
use lib.IntN.{ℤ, pos}
use Rattle.integers.proofs.Omega.{atoms₄, parts, equal, from_equal}
use Rattle.maps.specs.Dart.{rev}
use Rattle.traversal.specs.inner.Spread.{Follows}
use Rattle.traversal.specs.inner.Forest.{Reached, Forest}
use Rattle.traversal.proofs.Spreading.{all_met}
use Rattle.heights.specs.inner.Heights.{HeightsOf}

module _ {darts : ℕ} {tail rotation : ℕ → ℕ} {first : ℕ} {order from : ℕ → ℕ} {trees : ℕ} (𝓕 : Forest darts rotation first order from trees)
    (turns : (d : ℕ) → d < darts → tail (rotation d) ≡ tail d) (winding height height' : ℕ → ℤ)
    (h : HeightsOf darts tail winding height) (h' : HeightsOf darts tail winding height')
    (zero_at : (i : ℕ) → i < darts → from (order i) ≡ order i → height (tail (order i)) ≡ pos 0)
    (zero_at' : (i : ℕ) → i < darts → from (order i) ≡ order i → height' (tail (order i)) ≡ pos 0) where
  abbrev Same : ℕ → Type 0
  Same i = i < darts → height (tail (order i)) ≡ height' (tail (order i))

  -- across a dart
  over : (d : ℕ) → d < darts → height (tail d) ≡ height' (tail d) → height (tail (rev d)) ≡ height' (tail (rev d))
  over d l e =
      let a = atoms₄ (height (tail d)) (height' (tail d)) (height (tail (rev d))) (height' (tail (rev d))) in
      let q = sym (h d l) ∙ h' d l in
      equal (search parts) (omega (arith, from_equal e (search parts), from_equal q (search parts)))

  next : (i : ℕ) → ((j : ℕ) → j < i → Same j) → Same i
  next i before l = by (𝓕.planted.met i l)
    where
      follow : (j : ℕ) → j < i → order j ≡ from (order i) → Follows rotation (order i) (from (order i)) → height (tail (order i)) ≡ height' (tail (order i))
      follow j b e (inl r) =
          let d = order j in
          let is : order i ≡ rev d = r ∙ ap rev (sym e) in
          ap (λ x. height (tail x)) is ∙ over d (𝓕.inside j (omega (arith, b, l))) (before j b (omega (arith, b, l))) ∙ ap (λ x. height' (tail x)) (sym is)
      follow j b e (inr r) =
          let d = order j in
          let is : tail (order i) ≡ tail d = ap tail (r ∙ ap rotation (sym e)) ∙ turns d (𝓕.inside j (omega (arith, b, l))) in
          ap height is ∙ before j b (omega (arith, b, l)) ∙ ap height' (sym is)

      by : ((t : ℕ) × (t < trees) × (𝓕.planted.begins t ≡ i)) ⊎ Reached rotation order from i → height (tail (order i)) ≡ height' (tail (order i))
      by (inl (t, m, e)) =
          let own = subst (λ x. from (order x) ≡ order x) e (𝓕.planted.own t m) in
          zero_at i l own ∙ sym (zero_at' i l own)
      by (inr r) = follow r.0 r.1 r.2 r.3

  up_to : (n i : ℕ) → i < n → Same i
  up_to zero i l = absurd (omega (arith, l))
  up_to (suc n) i l = below_more Same n (up_to n) (next n (up_to n)) i (omega (arith, l))

  pub same_height : (d : ℕ) → d < darts → height (tail d) ≡ height' (tail d)
  same_height d l =
      let r = all_met darts darts order 𝓕.inside 𝓕.apart refl d l in
      subst (λ x. height (tail x) ≡ height' (tail x)) r.2 (up_to (r.0 + 1) r.0 (omega arith) r.1)
