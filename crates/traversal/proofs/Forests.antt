-- What the walk over all darts says of a sound map: its trees are the parts of the map, and the faces left of their first darts are the faces at 0
-- (document 02, Job 8).
use mathlib.Core.Path.{◌≡◌, refl, sym, ◌∙◌, ap, subst}
use mathlib.Core.Logic.{◌⊎◌, inl, inr}
use mathlib.Core.Bool.{Bool}
use Prim.Native.Nat.{ℕ, zero, suc, ◌≤◌, ◌<◌}
use native.Mathlib.Omega.{arith}
use native.Mathlib.Decide.{ℕ_discrete, dec_lt}
use lib.Dec.{eqb}
use Rattle.integers.proofs.Tests.{eqb_true, eqb_eq}
use Rattle.integers.proofs.Injections.{find, find_is}
use Rattle.maps.specs.Map.{Map, darts}
use Rattle.maps.specs.Face.{left}
use Rattle.maps.specs.Walk.{Walk, here, Components}
use Rattle.maps.specs.Check.{Sound}
use Rattle.maps.proofs.Walks.{walk_append, walk_back, walk_keeps, node_label, label_across, walk_of_label}
use Rattle.flows.specs.ZeroFace.{ZeroFace}
use Rattle.flows.proofs.Plane.{lowest_elsewhere, zero_one}
use Rattle.traversal.specs.inner.Spread.{Met}
use Rattle.traversal.specs.inner.Forest.{Reached, Trees, Forest}
use Rattle.traversal.proofs.Spreading.{all_met}
use Rattle.traversal.proofs.Reach.{joined_met, step_walk}

module _ {𝓜 : Map} (σ : Sound 𝓜) {first : ℕ} {order from : ℕ → ℕ} {trees : ℕ} (𝓕 : Forest (darts 𝓜) 𝓜.rotation first order from trees) where
  abbrev τ : Trees 𝓜.rotation first order from (darts 𝓜) trees
  τ = 𝓕.planted

  -- the first dart of a tree, and its node
  abbrev start : ℕ → ℕ
  start t = order (𝓕.planted.begins t)

  abbrev at_start : ℕ → ℕ
  at_start t = 𝓜.tail (order (𝓕.planted.begins t))

  pub listed_at : (d : ℕ) → d < darts 𝓜 → Met order (darts 𝓜) d
  listed_at = all_met (darts 𝓜) (darts 𝓜) order 𝓕.inside 𝓕.apart refl

  pub start_in : (t : ℕ) → t < trees → order (𝓕.planted.begins t) < darts 𝓜
  start_in t l = 𝓕.inside (τ.begins t) (τ.begins_in t l)

  pub first_in : first < darts 𝓜
  first_in = omega (arith, (τ.at_first 𝓕.some).1, 𝓕.inside 0 (omega (arith, τ.begins_in 0 𝓕.some)))

  -- each dart is reached from the first of a tree that began before it
  abbrev InTree : ℕ → Type 0
  InTree i = (t : ℕ) × (t < trees) × (𝓕.planted.begins t ≤ i) × Walk 𝓜 (at_start t) (𝓜.tail (order i))

  in_tree : (n i : ℕ) → i < n → i < darts 𝓜 → InTree i
  in_tree zero i b l = absurd (omega arith)
  in_tree (suc n) i b l = go (τ.met i l) (in_tree n)
    where
      go : ((t : ℕ) × (t < trees) × (τ.begins t ≡ i)) ⊎ Reached 𝓜.rotation order from i → ((j : ℕ) → j < n → j < darts 𝓜 → InTree j) → InTree i
      go (inl (t, m, e)) ih = (t, m, omega (arith, e), subst (λ x. Walk 𝓜 (at_start t) (𝓜.tail (order x))) e here)
      go (inr r) ih =
          let j-in : r.0 < darts 𝓜 = omega (arith, r.1) in
          let q = ih r.0 (omega (arith, r.1)) j-in in (
            q.0,
            q.1,
            omega (arith, q.2, r.1),
            walk_append q.3
                (subst (λ x. Walk 𝓜 (𝓜.tail x) (𝓜.tail (order i))) (sym r.2)
                (step_walk σ (order i) (from (order i)) (omega (arith, r.2, 𝓕.inside r.0 j-in)) r.3)),
          )

  dart_tree : (d : ℕ) → d < darts 𝓜 → (t : ℕ) × (t < trees) × Walk 𝓜 (at_start t) (𝓜.tail d)
  dart_tree d l =
      let m = listed_at d l in
      let r = in_tree (darts 𝓜) m.0 m.1 m.1 in
      (r.0, r.1, subst (λ x. Walk 𝓜 (at_start r.0) (𝓜.tail x)) m.2 r.3)

  -- what was listed before a tree began is in no walk with it
  not_before : (u : ℕ) → u < trees → (d : ℕ) → d < darts 𝓜 → Met order (τ.begins u) d → Walk 𝓜 (𝓜.tail d) (at_start u) → ⊥
  not_before u l d m h w =
      let r = joined_met σ (τ.closed u l) d (start u) m (start_in u l) w h in
      let e = 𝓕.apart r.0 (τ.begins u) (omega (arith, r.1, τ.begins_in u l)) (τ.begins_in u l) r.2 in
      omega (arith, r.1, e)

  apart_less : (t u : ℕ) → t < u → u < trees → Walk 𝓜 (at_start t) (at_start u) → ⊥
  apart_less t u l m w = not_before u m (start t) (start_in t (omega arith)) (τ.begins t, τ.rising t u l m, refl) w

  one_tree : (t u : ℕ) → t < trees → u < trees → Walk 𝓜 (at_start t) (at_start u) → t ≡ u
  one_tree t u l m w = go (dec_lt t u) (dec_lt u t)
    where
      go : Dec (t < u) → Dec (u < t) → t ≡ u
      go (yes h) q = absurd (apart_less t u h m w)
      go (no h) (yes q) = absurd (apart_less u t q l (walk_back w))
      go (no h) (no q) = omega (arith, h, q)

  -- a dart marked with its own number begins a tree, and no two such darts are in one part
  own_start : (d : ℕ) → d < darts 𝓜 → from d ≡ d → (t : ℕ) × (t < trees) × (order (τ.begins t) ≡ d)
  own_start d l own = go (listed_at d l)
    where
      go : Met order (darts 𝓜) d → (t : ℕ) × (t < trees) × (order (τ.begins t) ≡ d)
      go (i, m, e) = by (τ.met i m)
        where
          by : ((t : ℕ) × (t < trees) × (τ.begins t ≡ i)) ⊎ Reached 𝓜.rotation order from i → (t : ℕ) × (t < trees) × (order (τ.begins t) ≡ d)
          by (inl (t, h, b)) = (t, h, ap order b ∙ e)
          by (inr r) = absurd (omega (arith, r.1, 𝓕.apart r.0 i (omega (arith, r.1)) m (r.2 ∙ ap from e ∙ own ∙ sym e)))

  pub own_one : (d e : ℕ) → d < darts 𝓜 → e < darts 𝓜 → from d ≡ d → from e ≡ e → Walk 𝓜 (𝓜.tail d) (𝓜.tail e) → d ≡ e
  own_one d e l m p q w =
      let t = own_start d l p in
      let u = own_start e m q in
      let v : Walk 𝓜 (𝓜.tail d) (at_start u.0) = subst (λ x. Walk 𝓜 (𝓜.tail d) (𝓜.tail x)) (sym u.2) w in
      let z : Walk 𝓜 (at_start t.0) (at_start u.0) = subst (λ x. Walk 𝓜 (𝓜.tail x) (at_start u.0)) (sym t.2) v in
      sym t.2 ∙ ap start (one_tree t.0 u.0 t.1 u.1 z) ∙ u.2

  -- ── the tree of a node ──
  same_label : ℕ → ℕ → Bool
  same_label v t = eqb (node_label 𝓜 𝓜.edges (at_start t)) (node_label 𝓜 𝓜.edges v)

  pub tree_of : ℕ → ℕ
  tree_of v = find trees (same_label v)

  label_of : {v w : ℕ} → Walk 𝓜 v w → node_label 𝓜 𝓜.edges v ≡ node_label 𝓜 𝓜.edges w
  label_of = walk_keeps (node_label 𝓜 𝓜.edges) (label_across 𝓜)

  pub tree_walk : (v : ℕ) → v < 𝓜.nodes → (tree_of v < trees) × Walk 𝓜 (at_start (tree_of v)) v
  unfolding tree_of same_label
  tree_walk v l =
      let d = σ.has_dart v l in
      let t = dart_tree d.0 d.1 in
      let w : Walk 𝓜 (at_start t.0) v = subst (λ x. Walk 𝓜 (at_start t.0) x) d.2 t.2 in
      let q = find_is trees (same_label v) t.0 t.1 (eqb_true (node_label 𝓜 𝓜.edges (at_start t.0)) (node_label 𝓜 𝓜.edges v) (label_of w)) in
      (q.0, walk_of_label (at_start (tree_of v)) v (eqb_eq (node_label 𝓜 𝓜.edges (at_start (tree_of v))) (node_label 𝓜 𝓜.edges v) q.1))

  pub tree_of_start : (t : ℕ) → t < trees → tree_of (at_start t) ≡ t
  tree_of_start t l =
      let r = tree_walk (at_start t) (σ.range.tail_in (start t) (start_in t l)) in
      one_tree (tree_of (at_start t)) t r.0 l r.1

  pub trees_components : Components 𝓜 trees tree_of
  trees_components = record {
    below = λ v l. (tree_walk v l).0;
    joined = λ v w lv lw e. walk_append (walk_back (tree_walk v lv).1) (subst (λ t. Walk 𝓜 (at_start t) w) (sym e) (tree_walk w lw).1);
    agree = λ v w lv lw r.
        one_tree (tree_of v) (tree_of w) (tree_walk v lv).0 (tree_walk w lw).0
        (walk_append (tree_walk v lv).1 (walk_append r (walk_back (tree_walk w lw).1)));
    used = λ t l. (at_start t, σ.range.tail_in (start t) (start_in t l), tree_of_start t l);
  }

  -- ── the faces at 0 ──
  start_first : order (τ.begins 0) ≡ first
  start_first = ap order (τ.at_first 𝓕.some).0 ∙ (τ.at_first 𝓕.some).1

  lowest_of : (t : ℕ) → 0 < t → t < trees → (e : ℕ) → e < darts 𝓜 → tree_of (𝓜.tail e) ≡ tree_of (at_start t) → start t ≤ e
  lowest_of t z l e m same = go (dec_lt e (start t))
    where
      joined : Walk 𝓜 (𝓜.tail e) (at_start t)
      joined = trees_components.joined (𝓜.tail e) (at_start t) (σ.range.tail_in e m) (σ.range.tail_in (start t) (start_in t l)) same

      go : Dec (e < start t) → start t ≤ e
      go (yes h) = absurd (not_before t l e m (τ.lowest t z l e h) joined)
      go (no h) = omega (arith, h)

  pub start_zero : (t : ℕ) → t < trees → ZeroFace 𝓜 first (left 𝓜 (order (𝓕.planted.begins t)))
  start_zero t l = go (ℕ_discrete t 0)
    where
      go : Dec (t ≡ 0) → ZeroFace 𝓜 first (left 𝓜 (start t))
      go (yes e) = inl (ap (left 𝓜) (ap start e ∙ start_first))
      go (no h) =
          inr (lowest_elsewhere σ trees_components first first_in (start t) (start_in t l)
          (λ q. h (sym (tree_of_start t l) ∙ q ∙ ap (λ x. tree_of (𝓜.tail x)) (sym start_first) ∙ tree_of_start 0 𝓕.some))
          (lowest_of t (omega (arith, h)) l))

  pub zero_start : (f : ℕ) → ZeroFace 𝓜 first f → (t : ℕ) × (t < trees) × (f ≡ left 𝓜 (order (𝓕.planted.begins t)))
  zero_start f z = go z
    where
      by : (d : ℕ) → d < darts 𝓜 → left 𝓜 d ≡ f → (t : ℕ) × (t < trees) × (f ≡ left 𝓜 (order (𝓕.planted.begins t)))
      by d l e =
          let t = tree_of (𝓜.tail d) in
          let m = (tree_walk (𝓜.tail d) (σ.range.tail_in d l)).0 in (
            t,
            m,
            sym e
                ∙ zero_one σ trees_components first first_in d (start t) l (start_in t m) (sym (tree_of_start t m))
                (subst (ZeroFace 𝓜 first) (sym e) z) (start_zero t m),
          )

      go : ZeroFace 𝓜 first f → (t : ℕ) × (t < trees) × (f ≡ left 𝓜 (order (𝓕.planted.begins t)))
      go (inl e) = by first first_in (sym e)
      go (inr r) = by r.dart r.dart_in r.holds
