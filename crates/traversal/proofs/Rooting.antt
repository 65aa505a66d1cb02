-- The pass that writes the first faces of the trees, on its way; and what it leaves, of a map: the faces at 0, all of them.
use mathlib.Core.Path.{◌≡◌, sym, ◌∙◌, ap, subst}
use mathlib.Core.Logic.{◌⊎◌, inl, inr, ◌≢◌}
use Prim.Native.Nat.{ℕ, ◌+◌, ◌≤◌, ◌<◌}
use native.Mathlib.Omega.{arith}
use native.Mathlib.Decide.{ℕ_discrete, dec_lt}
use Rattle.maps.specs.Map.{Map, darts}
use Rattle.maps.specs.Face as face
use Rattle.maps.specs.Check.{Sound}
use Rattle.flows.specs.ZeroFace.{ZeroFace}
use Rattle.traversal.specs.inner.Forest.{Reached, Trees, Forest, RootsOf}
use Rattle.traversal.proofs.Spreading.{at_most_n}
use Rattle.traversal.proofs.Forests.{start_in, start_zero, zero_start}

-- so many trees begin before place i, and their faces are written
pub record Rooting (rotation : ℕ → ℕ) (first : ℕ) (order from : ℕ → ℕ) (n trees : ℕ) (τ : Trees rotation first order from n trees)
    (left roots : ℕ → ℕ) (i count : ℕ) : Type 0 where
  pub written : (t : ℕ) → t < count → (t < trees) × (τ.begins t < i) × (roots t ≡ left (order (τ.begins t)))
  pub counted : (t : ℕ) → t < trees → τ.begins t < i → t < count

module _ {rotation : ℕ → ℕ} {first : ℕ} {order from : ℕ → ℕ} {n trees : ℕ} (τ : Trees rotation first order from n trees) where
  begins_apart : (t u : ℕ) → t < trees → u < trees → τ.begins t ≡ τ.begins u → t ≡ u
  begins_apart t u l m e = go (dec_lt t u) (dec_lt u t)
    where
      go : Dec (t < u) → Dec (u < t) → t ≡ u
      go (yes p) q = absurd (omega (arith, τ.rising t u p m))
      go (no p) (yes q) = absurd (omega (arith, τ.rising u t q l))
      go (no p) (no q) = omega (arith, p, q)

module _ {rotation : ℕ → ℕ} {first : ℕ} {order from : ℕ → ℕ} {n trees : ℕ} (τ : Trees rotation first order from n trees) {left : ℕ → ℕ} where
  module _ {roots : ℕ → ℕ} {i count : ℕ} (ξ : Rooting rotation first order from n trees τ left roots i count) (l : i < n) where
    -- a dart marked with its own number begins a tree: the next one
    module _ (apart : (i j : ℕ) → i < n → j < n → order i ≡ order j → i ≡ j) (own : from (order i) ≡ order i) where
      pub begins_here : (count < trees) × (τ.begins count ≡ i)
      begins_here = go (τ.met i l)
        where
          go : ((t : ℕ) × (t < trees) × (τ.begins t ≡ i)) ⊎ Reached rotation order from i → (count < trees) × (τ.begins count ≡ i)
          go (inr r) = absurd (omega (arith, r.1, apart r.0 i (omega (arith, r.1)) l (r.2 ∙ own)))
          go (inl (t, m, e)) = by (dec_lt t count) (dec_lt count t)
            where
              by : Dec (t < count) → Dec (count < t) → (count < trees) × (τ.begins count ≡ i)
              by (yes p) q = absurd (omega (arith, (ξ.written t p).1, e))
              by (no p) (yes q) = absurd (omega (arith, ξ.counted count (omega arith) (omega (arith, τ.rising count t q m, e))))
              by (no p) (no q) = let s : t ≡ count = omega (arith, p, q) in (omega arith, ap τ.begins (sym s) ∙ e)

      pub rooting_written : {roots' : ℕ → ℕ} → roots' count ≡ left (order i) → ((t : ℕ) → t ≢ count → roots' t ≡ roots t)
          → Rooting rotation first order from n trees τ left roots' (i + 1) (count + 1)
      rooting_written {roots'} put keep = record {
        written = λ t m. old t m (ℕ_discrete t count);
        counted = λ t m b. new t m b (ℕ_discrete (τ.begins t) i);
      }
        where
          old : (t : ℕ) → t < count + 1 → Dec (t ≡ count) → (t < trees) × (τ.begins t < i + 1) × (roots' t ≡ left (order (τ.begins t)))
          old t m (yes e) =
              let b = begins_here in
              (omega (arith, b.0), omega (arith, ap τ.begins e, b.1), ap roots' e ∙ put ∙ ap (λ x. left (order x)) (sym (ap τ.begins e ∙ b.1)))
          old t m (no e) = let r = ξ.written t (omega (arith, e)) in (r.0, omega (arith, r.1), keep t e ∙ r.2)

          new : (t : ℕ) → t < trees → τ.begins t < i + 1 → Dec (τ.begins t ≡ i) → t < count + 1
          new t m b (yes e) = let s = begins_here in omega (arith, begins_apart τ t count m s.0 (e ∙ sym s.1))
          new t m b (no e) = omega (arith, ξ.counted t m (omega (arith, e)))

    pub rooting_passed : from (order i) ≢ order i → Rooting rotation first order from n trees τ left roots (i + 1) count
    rooting_passed other = record {
      written = λ t m. let r = ξ.written t m in (r.0, omega (arith, r.1), r.2);
      counted = λ t m b. ξ.counted t m (before t m b (ℕ_discrete (τ.begins t) i));
    }
      where
        before : (t : ℕ) → t < trees → τ.begins t < i + 1 → Dec (τ.begins t ≡ i) → τ.begins t < i
        before t m b (yes e) = absurd (other (subst (λ x. from (order x) ≡ order x) e (τ.own t m)))
        before t m b (no e) = omega (arith, e)

pub trees_few : {n : ℕ} {rotation : ℕ → ℕ} {first : ℕ} {order from : ℕ → ℕ} {trees : ℕ} → Forest n rotation first order from trees → trees ≤ n
trees_few {n} {trees = trees} 𝓕 =
    at_most_n n trees 𝓕.planted.begins 𝓕.planted.begins_in (λ t u l m e. begins_apart 𝓕.planted t u l m e)

-- where a tree is not yet found, its place is still ahead
pub rooting_ahead : {rotation : ℕ → ℕ} {first : ℕ} {order from : ℕ → ℕ} {n trees : ℕ} (τ : Trees rotation first order from n trees)
    {left roots : ℕ → ℕ} {i count : ℕ} → Rooting rotation first order from n trees τ left roots i count → count < trees → i < n
rooting_ahead {n = n} τ {i = i} {count = count} ξ l = go (dec_lt (τ.begins count) i)
  where
    go : Dec (τ.begins count < i) → i < n
    go (yes p) = absurd (omega (arith, ξ.counted count l p))
    go (no p) = omega (arith, p, τ.begins_in count l)

-- all trees are found
pub rooting_end : {rotation : ℕ → ℕ} {first : ℕ} {order from : ℕ → ℕ} {n trees : ℕ}
    (𝓕 : Forest n rotation first order from trees) {left roots : ℕ → ℕ} {i count : ℕ}
    → trees ≤ count → Rooting rotation first order from n trees 𝓕.planted left roots i count → RootsOf n rotation first left roots trees
rooting_end {order = order} {from = from} 𝓕 over ξ =
    record { order = order; from = from; forest = 𝓕; are = λ t l. (ξ.written t (omega arith)).2 }

-- ── of a map ──
pub roots_few : {n : ℕ} {rotation : ℕ → ℕ} {first : ℕ} {left roots : ℕ → ℕ} {trees : ℕ} → RootsOf n rotation first left roots trees → trees ≤ n
roots_few ρ = trees_few ρ.forest

module _ {𝓜 : Map} (σ : Sound 𝓜) {first : ℕ} {left roots : ℕ → ℕ} {trees : ℕ} (left_is : (d : ℕ) → d < darts 𝓜 → left d ≡ face.left 𝓜 d)
    (ρ : RootsOf (darts 𝓜) 𝓜.rotation first left roots trees) where
  pub root_is : (t : ℕ) → t < trees → roots t ≡ face.left 𝓜 (ρ.order (ρ.forest.planted.begins t))
  root_is t l = ρ.are t l ∙ left_is (ρ.order (ρ.forest.planted.begins t)) (start_in σ ρ.forest t l)

  -- each is a zero face, and each zero face is one of them
  pub root_zero : (t : ℕ) → t < trees → ZeroFace 𝓜 first (roots t)
  root_zero t l = subst (ZeroFace 𝓜 first) (sym (root_is t l)) (start_zero σ ρ.forest t l)

  pub zero_root : (f : ℕ) → ZeroFace 𝓜 first f → (t : ℕ) × (t < trees) × (roots t ≡ f)
  zero_root f z = let r = zero_start σ ρ.forest f z in (r.0, r.1, root_is r.0 r.1 ∙ sym r.2)
