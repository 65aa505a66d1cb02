-- A dart that does not begin a tree was met from one that stands before it in the order.
use mathlib.Core.Path.{◌≡◌, refl, sym, ◌∙◌, ap, subst}
use mathlib.Core.Logic.{◌⊎◌, inl, inr, ◌≢◌}
use Prim.Native.Nat.{ℕ, ◌<◌}
use native.Mathlib.Omega.{arith}
use Rattle.maps.specs.Dart.{rev}
use Rattle.maps.specs.Map.{Map}
use Rattle.maps.proofs.Darts.{rev_apart}
use Rattle.traversal.specs.inner.Spread.{Met, Follows}
use Rattle.traversal.specs.inner.Forest as forest
use Rattle.traversal.proofs.Spreading.{place, place_is, all_met}
use Rattle.lengths.specs.inner.Lengths.{Treed}

module _ {𝓜 : Map} {n : ℕ} {order from : ℕ → ℕ} (ρ : Treed 𝓜 n order from) where
  listed : (d : ℕ) → d < n → Met order n d
  listed = all_met n n order ρ.forest.inside ρ.forest.apart refl

  place_of : (j d : ℕ) → j < n → order j ≡ d → place order n d ≡ j
  place_of j d l e =
      let q = place_is order n d (j, l, e) in
      ρ.forest.apart (place order n d) j q.0 l (q.1 ∙ sym e)

  pub met_before : (x p : ℕ) → x < n → p ≡ from x → p ≢ x → (p < n) × (place order n p < place order n x) × Follows 𝓜.rotation x p
  met_before x p l is-p other = go (listed x l)
    where
      go : Met order n x → (p < n) × (place order n p < place order n x) × Follows 𝓜.rotation x p
      go (i, m, e) = by (ρ.forest.planted.met i m)
        where
          by : ((t : ℕ) × (t < ρ.trees) × (ρ.forest.planted.begins t ≡ i)) ⊎ forest.Reached 𝓜.rotation order from i
              → (p < n) × (place order n p < place order n x) × Follows 𝓜.rotation x p
          by (inl (t, h, b)) =
              absurd (other (is-p ∙ ap from (sym (ap order b ∙ e)) ∙ ρ.forest.planted.own t h ∙ ap order b ∙ e))
          by (inr r) =
              let j-in : r.0 < n = omega (arith, r.1) in
              let origin : from (order i) ≡ p = ap from e ∙ sym is-p in
              let same : order r.0 ≡ p = r.2 ∙ origin in
              let place-p = place_of r.0 p j-in same in
              let place-x = place_of i x m e in (
                omega (arith, same, ρ.forest.inside r.0 j-in),
                omega (arith, r.1, place-p, place-x),
                subst (λ y. Follows 𝓜.rotation y p) e (subst (λ q. Follows 𝓜.rotation (order i) q) origin r.3),
              )

  -- of the two darts of an edge, only one can have been met from the other
  pub one_way : (d : ℕ) → d < n → rev d < n → from (rev d) ≡ d → from d ≡ rev d → ⊥
  one_way d l m h g =
      let a = met_before (rev d) d m (sym h) (λ e. rev_apart d (sym e)) in
      let b = met_before d (rev d) l (sym g) (rev_apart d) in
      omega (arith, a.1, b.1)
