-- On a plane map: an order that a walk over all darts leaves can be filled, and balanced flows get their levels.
use mathlib.Core.Path.{◌≡◌, refl, sym, ◌∙◌, ap, ap₂, subst}
use mathlib.Core.Logic.{◌⊎◌, inl, inr}
use mathlib.Core.List.{List}
use Prim.Native.Nat.{ℕ, ◌≤◌, ◌<◌}
use native.Mathlib.Omega.{arith}
use lib.ListN.{length}
use lib.IntN.{ℤ, pos, ◌-ℤ◌}
use Rattle.maps.specs.Dart.{rev}
use Rattle.maps.specs.Map.{Map, darts}
use Rattle.maps.specs.Face.{left, right}
use Rattle.maps.specs.Face as face
use Rattle.maps.specs.Check.{Sound}
use Rattle.maps.proofs.Darts.{rev_in}
use Rattle.maps.proofs.Faces.{left_in, left_rotation}
use Rattle.flows.specs.Settings.{on_darts, Balanced}
use Rattle.flows.specs.ZeroFace.{ZeroFace}
use Rattle.flows.specs.Levels.{Levels}
use Rattle.flows.proofs.Plane.{potentials_at}
use Rattle.flows.specs.inner.Plane.{Plane}
use Rattle.traversal.specs.inner.Spread.{Follows}
use Rattle.traversal.specs.inner.Forest.{Reached, Forest}
use Rattle.traversal.proofs.Spreading.{all_met}
use Rattle.traversal.proofs.Forests.{first_in, start_in, start_zero, zero_start}
use Rattle.levels.specs.inner.Laying.{Crossing, Fillable, PotentialsFrom, Filled}
use Rattle.arrays.specs.At.{atℤ}
use Rattle.integers.specs.inner.Limited.{Limited}
use Rattle.arrays.specs.inner.Sizes.{most_on_sheet}

-- where the rotation of a dart has at its left what the dart has at its right, a walk over all darts gives an order to fill along
pub crossing_of_forest : {n : ℕ} {rotation : ℕ → ℕ} {first : ℕ} {left order from : ℕ → ℕ} {trees : ℕ} → Forest n rotation first order from trees
    → ((d : ℕ) → d < n → left (rotation d) ≡ left (rev d)) → Crossing n left order from
crossing_of_forest {n} {rotation} {first} {left} {order} {from} {trees} 𝓕 turns = record {
  inside = 𝓕.inside;
  every = all_met n n order 𝓕.inside 𝓕.apart refl;
  first_own = subst (λ x. from (order x) ≡ order x) (𝓕.planted.at_first 𝓕.some).0 (𝓕.planted.own 0 𝓕.some);
  met = λ i l. go i l (𝓕.planted.met i l);
}
  where
    across : (d p : ℕ) → p < n → Follows rotation d p → left d ≡ left (rev p)
    across d p l (inl e) = ap left e
    across d p l (inr e) = ap left e ∙ turns p l

    go : (i : ℕ) → i < n → ((t : ℕ) × (t < trees) × (𝓕.planted.begins t ≡ i)) ⊎ Reached rotation order from i
        → (from (order i) ≡ order i) ⊎ ((j : ℕ) × (j < i) × (order j ≡ from (order i)) × (left (order i) ≡ left (rev (from (order i)))))
    go i l (inl (t, m, e)) = inl (subst (λ x. from (order x) ≡ order x) e (𝓕.planted.own t m))
    go i l (inr r) =
        inr (r.0, r.1, r.2, across (order i) (from (order i)) (omega (arith, r.2, 𝓕.inside r.0 (omega (arith, r.1)))) r.3)

-- `lefts` hold the number of the face at the left of each dart
module _ {𝓜 : Map} {lefts : ℕ → ℕ} (numbered : (d : ℕ) → d < darts 𝓜 → lefts d ≡ left 𝓜 d) where
  pub map_crossing : {first : ℕ} {order from : ℕ → ℕ} {trees : ℕ} → Sound 𝓜
      → Forest (darts 𝓜) 𝓜.rotation first order from trees → Crossing (darts 𝓜) lefts order from
  map_crossing σ 𝓕 =
      crossing_of_forest 𝓕
      (λ d l. numbered (𝓜.rotation d) (σ.range.rotation_in d l) ∙ left_rotation σ d l ∙ sym (numbered (rev d) (rev_in 𝓜.edges d l)))

  pub map_fillable : {first : ℕ} {order from : ℕ → ℕ} {trees room : ℕ} {flows : List ℤ} → Sound 𝓜 → 0 < 𝓜.edges → 𝓜.edges ≤ 512
      → face.faces 𝓜 ≤ room → 𝓜.edges ≤ length flows
      → ((e : ℕ) → e < 𝓜.edges → Limited most_on_sheet (atℤ flows e))
      → Forest (darts 𝓜) 𝓜.rotation first order from trees → Fillable (darts 𝓜) room lefts order from flows
  map_fillable σ some few roomy long small 𝓕 = record {
    some = omega arith;
    few = omega arith;
    left_in = λ d l. omega (arith, numbered d l, left_in σ d l);
    long = omega arith;
    small = λ e l. small e (omega arith);
    crossing = map_crossing σ 𝓕;
  }

  pub levels_found : {first : ℕ} {order from : ℕ → ℕ} {trees : ℕ} {x level : ℕ → ℤ} → Plane 𝓜 → Balanced 𝓜 x
      → Forest (darts 𝓜) 𝓜.rotation first order from trees → Filled (darts 𝓜) lefts order from x level → Levels 𝓜 first x level
  levels_found {first} {order} {from} {trees} {x} {level} plane balanced 𝓕 filled =
      go (potentials_at plane first (first_in plane.sound 𝓕) (on_darts x) balanced)
    where
      go : (ρ : ℕ → ℤ) × ((d : ℕ) → d < darts 𝓜 → on_darts x d ≡ ρ (left 𝓜 d) -ℤ ρ (right 𝓜 d)) × ((f : ℕ) → ZeroFace 𝓜 first f → ρ f ≡ pos 0)
          → Levels 𝓜 first x level
      go (ρ, h, z) = record {
        differences = λ d l. h d l ∙ sym (ap₂ (λ a b. a -ℤ b) (same d l) (same (rev d) (rev_in 𝓜.edges d l)));
        rooted = λ f e.
            let t = zero_start plane.sound 𝓕 f e in
            ap level t.2 ∙ same (order (𝓕.planted.begins t.0)) (start_in plane.sound 𝓕 t.0 t.1) ∙ ap ρ (sym t.2) ∙ z f e;
      }
        where
          -- a dart that begins a tree lies on a zero face
          begun : (i : ℕ) → i < darts 𝓜 → from (order i) ≡ order i
              → ((t : ℕ) × (t < trees) × (𝓕.planted.begins t ≡ i)) ⊎ Reached 𝓜.rotation order from i → ρ (lefts (order i)) ≡ pos 0
          begun i l own (inl (t, m, e)) =
              ap ρ (numbered (order i) (𝓕.inside i l))
              ∙ subst (λ y. ρ (left 𝓜 (order y)) ≡ pos 0) e (z (left 𝓜 (order (𝓕.planted.begins t))) (start_zero plane.sound 𝓕 t m))
          begun i l own (inr r) = absurd (omega (arith, r.1, 𝓕.apart r.0 i (omega (arith, r.1)) l (r.2 ∙ own)))

          potentials : PotentialsFrom (darts 𝓜) lefts order from x ρ
          potentials = record {
            differences = λ d l. h d l ∙ sym (ap₂ (λ a b. ρ a -ℤ ρ b) (numbered d l) (numbered (rev d) (rev_in 𝓜.edges d l)));
            rooted = λ i l own. begun i l own (𝓕.planted.met i l);
          }

          same : (d : ℕ) → d < darts 𝓜 → level (left 𝓜 d) ≡ ρ (left 𝓜 d)
          same d l = subst (λ f. level f ≡ ρ f) (numbered d l) (filled ρ potentials d l)
