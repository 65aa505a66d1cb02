-- Lengths along the way through the trees follow from where each dart was met from, from the capacities and from the value.
use mathlib.Core.Path.{◌≡◌, refl, sym, ◌∙◌, ap, ap₂}
use mathlib.Core.Bool.{Bool}
use Prim.Native.Nat.{ℕ, zero, suc, ◌<◌}
use native.Mathlib.Omega.{arith}
use native.Mathlib.Decide.{dec_lt}
use lib.Dec.{eqb}
use lib.IntN.{ℤ, ◌+ℤ◌, ◌-ℤ◌, ◌*ℤ◌}
use Rattle.integers.specs.Sum.{when}
use Rattle.maps.specs.Dart.{rev}
use Rattle.maps.specs.Orbit.{iter}
use Rattle.maps.proofs.Orbits.{iter_zero, iter_suc}
use Rattle.flows.specs.inner.UnitFlow.{single}
use Rattle.lengths.specs.inner.Lengths.{Top, taken, Along}

-- two marks that agree on the darts, and lead to darts
module _ {n : ℕ} {from from' : ℕ → ℕ} (stays : (d : ℕ) → d < n → from d < n) (same : (d : ℕ) → d < n → from d ≡ from' d) (x : ℕ) (l : x < n) where
  up_in : (k : ℕ) → iter from k x < n
  up_in zero = omega (arith, iter_zero from x, l)
  up_in (suc k) = omega (arith, iter_suc from k x, stays (iter from k x) (up_in k))

  pub same_up : (k : ℕ) → iter from k x ≡ iter from' k x
  same_up zero = iter_zero from x ∙ sym (iter_zero from' x)
  same_up (suc k) = iter_suc from k x ∙ same (iter from k x) (up_in k) ∙ ap from' (same_up k) ∙ sym (iter_suc from' k x)

  not_sooner : {k m : ℕ} → Top from x k → Top from' x m → k < m → ⊥
  not_sooner {k} t u b = u.onward k b (ap from' (sym (same_up k)) ∙ sym (same (iter from k x) (up_in k)) ∙ t.own ∙ same_up k)

  not_later : {k m : ℕ} → Top from x k → Top from' x m → m < k → ⊥
  not_later {k} {m} t u b = t.onward m b (same (iter from m x) (up_in m) ∙ ap from' (same_up m) ∙ u.own ∙ sym (same_up m))

  pub same_steps : {k m : ℕ} → Top from x k → Top from' x m → k ≡ m
  same_steps {k} {m} t u = by (dec_lt k m) (dec_lt m k)
    where
      by : Dec (k < m) → Dec (m < k) → k ≡ m
      by (yes p) q = absurd (not_sooner t u p)
      by (no p) (yes q) = absurd (not_later t u q)
      by (no p) (no q) = omega (arith, p, q)

  pub same_taken : (k d : ℕ) → taken from k x d ≡ taken from' k x d
  unfolding taken
  same_taken zero d = refl
  same_taken (suc k) d =
      ap₂ (λ y p. when (eqb y (rev p)) (single p d) +ℤ taken from k x d) (same_up k) (same_up (suc k))
      ∙ ap (λ f. when (eqb (iter from' k x) (rev (iter from' (suc k) x))) (single (iter from' (suc k) x) d) +ℤ f) (same_taken k d)

module _ {n start finish : ℕ} {from from' : ℕ → ℕ} {capacity : ℕ → ℤ} {value : ℤ} {length length' : ℕ → ℤ} {joined joined' : Bool}
    (stays : (d : ℕ) → d < n → from d < n) (same : (d : ℕ) → d < n → from d ≡ from' d) (start_in : start < n) (finish_in : finish < n)
    (α : Along n start finish from capacity value length joined) (β : Along n start finish from' capacity value length' joined') where
  ups : α.up ≡ β.up
  ups = same_steps stays same start start_in α.up_top β.up_top

  downs : α.down ≡ β.down
  downs = same_steps stays same finish finish_in α.down_top β.down_top

  pub same_lengths : (d : ℕ) → d < n → length d ≡ length' d
  same_lengths d l =
      α.lengths d l
      ∙ ap₂ (λ f g. capacity d -ℤ value *ℤ (f -ℤ g))
      (same_taken stays same finish finish_in α.down d ∙ ap (λ k. taken from' k finish d) downs)
      (same_taken stays same start start_in α.up d ∙ ap (λ k. taken from' k start d) ups)
      ∙ sym (β.lengths d l)

  pub same_joined : joined ≡ joined'
  same_joined =
      α.joined_is
      ∙ ap₂ eqb (same_up stays same start start_in α.up ∙ ap (λ k. iter from' k start) ups)
      (same_up stays same finish finish_in α.down ∙ ap (λ k. iter from' k finish) downs)
      ∙ sym β.joined_is
