-- What a finished walk says of a sound map: it meets the darts of the nodes that a walk along the edges joins to its start, and no others.
use mathlib.Core.Path.{◌≡◌, refl, sym, ◌∙◌, ap, subst}
use mathlib.Core.Logic.{inl, inr, ◌≢◌}
use Prim.Native.Nat.{ℕ, zero, suc, ◌<◌}
use native.Mathlib.Omega.{arith}
use native.Mathlib.Decide.{ℕ_discrete}
use Rattle.maps.specs.Dart.{rev}
use Rattle.maps.specs.Orbit.{iter}
use Rattle.maps.specs.Map.{Map, darts}
use Rattle.maps.specs.Walk.{Walk, here, along}
use Rattle.maps.specs.Check.{Sound}
use Rattle.maps.proofs.Darts.{rev_in}
use Rattle.maps.proofs.Orbits.{iter_zero, iter_suc}
use Rattle.maps.proofs.Walks.{walk_append}
use Rattle.traversal.specs.inner.Mark.{unmarked}
use Rattle.traversal.specs.inner.Spread.{Met, Follows, Spread}

-- darts that rotation and reversal lead to no others from: a walk leads to no others either
module _ {𝓜 : Map} (σ : Sound 𝓜) {order : ℕ → ℕ} {count : ℕ}
    (closed : (i : ℕ) → i < count → Met order count (𝓜.rotation (order i)) × Met order count (rev (order i))) where
  neighbours : (y : ℕ) → Met order count y → Met order count (𝓜.rotation y) × Met order count (rev y)
  neighbours y (i, l, e) =
      let r = closed i l in
      ((r.0.0, r.0.1, r.0.2 ∙ ap 𝓜.rotation e), (r.1.0, r.1.1, r.1.2 ∙ ap rev e))

  round_met : (j c : ℕ) → Met order count c → Met order count (iter 𝓜.rotation j c)
  round_met zero c h = (h.0, h.1, h.2 ∙ sym (iter_zero 𝓜.rotation c))
  round_met (suc j) c h = let r = (neighbours (iter 𝓜.rotation j c) (round_met j c h)).0 in (r.0, r.1, r.2 ∙ sym (iter_suc 𝓜.rotation j c))

  node_met : (c d : ℕ) → c < darts 𝓜 → d < darts 𝓜 → 𝓜.tail c ≡ 𝓜.tail d → Met order count c → Met order count d
  node_met c d l m e h = let o = σ.one_round c d l m e in let r = round_met o.0 c h in (r.0, r.1, r.2 ∙ o.1)

  walk_met : {v w : ℕ} → Walk 𝓜 v w → ((d : ℕ) → d < darts 𝓜 → 𝓜.tail d ≡ v → Met order count d) → (d : ℕ) → d < darts 𝓜 → 𝓜.tail d ≡ w → Met order count d
  walk_met here h = h
  walk_met (along e l p r) h = walk_met r (λ d m q. node_met (rev e) d (rev_in 𝓜.edges e l) m (sym q) (neighbours e (h e l p)).1)

  pub joined_met : (c d : ℕ) → c < darts 𝓜 → d < darts 𝓜 → Walk 𝓜 (𝓜.tail c) (𝓜.tail d) → Met order count c → Met order count d
  joined_met c d l m w h = walk_met w (λ e n q. node_met c e l n (sym q) h) d m refl

-- the walk goes along an edge, or stays at a node
pub step_walk : {𝓜 : Map} → Sound 𝓜 → (d p : ℕ) → p < darts 𝓜 → Follows 𝓜.rotation d p → Walk 𝓜 (𝓜.tail p) (𝓜.tail d)
step_walk {𝓜} σ d p l (inl e) = along p l refl (subst (λ x. Walk 𝓜 (𝓜.tail (rev p)) (𝓜.tail x)) (sym e) here)
step_walk {𝓜} σ d p l (inr e) = subst (λ x. Walk 𝓜 (𝓜.tail p) x) (sym (ap 𝓜.tail e ∙ σ.same_tail p l)) here

module _ {𝓜 : Map} (σ : Sound 𝓜) {start : ℕ} {order from : ℕ → ℕ} {count : ℕ} (ξ : Spread (darts 𝓜) 𝓜.rotation start order from count) where
  pub start_in : start < darts 𝓜
  start_in = omega (arith, ξ.first, ξ.inside 0 ξ.some)

  -- where a walk leads from the start's node to another, its darts are met
  pub joined_reached : (d : ℕ) → d < darts 𝓜 → Walk 𝓜 (𝓜.tail start) (𝓜.tail d) → Met order count d
  joined_reached d l w = joined_met σ ξ.closed start d start_in l w (0, ξ.some, ξ.first)

  -- ── marks ──
  pub start_marked : from start ≢ unmarked
  start_marked = subst (λ x. from x ≢ unmarked) ξ.first (ξ.marked 0 ξ.some)

  mark_met : (d : ℕ) → Met order count d → from d ≢ unmarked
  mark_met d (i, l, e) = subst (λ x. from x ≢ unmarked) e (ξ.marked i l)

  -- the darts of a node are all marked or none is, and so are those at both ends of a dart
  pub node_marked : (c d : ℕ) → c < darts 𝓜 → d < darts 𝓜 → 𝓜.tail c ≡ 𝓜.tail d → from c ≢ unmarked → from d ≢ unmarked
  node_marked c d l m e h = mark_met d (node_met σ ξ.closed c d l m e (ξ.listed c l h))

  pub back_marked : (d : ℕ) → d < darts 𝓜 → from d ≢ unmarked → from (rev d) ≢ unmarked
  back_marked d l h = mark_met (rev d) (neighbours σ ξ.closed d (ξ.listed d l h)).1

  pub joined_marked : (d : ℕ) → d < darts 𝓜 → Walk 𝓜 (𝓜.tail start) (𝓜.tail d) → from d ≢ unmarked
  joined_marked d l w = mark_met d (joined_reached d l w)

  -- and each dart marked is reached by a walk, from the one that it was met from
  reached : (n i : ℕ) → i < n → i < count → Walk 𝓜 (𝓜.tail start) (𝓜.tail (order i))
  reached zero i b l = absurd (omega arith)
  reached (suc n) i b l = go (ℕ_discrete i 0) (reached n)
    where
      go : Dec (i ≡ 0) → ((j : ℕ) → j < n → j < count → Walk 𝓜 (𝓜.tail start) (𝓜.tail (order j))) → Walk 𝓜 (𝓜.tail start) (𝓜.tail (order i))
      go (yes e) ih = subst (λ x. Walk 𝓜 (𝓜.tail start) (𝓜.tail x)) (sym (ap order e ∙ ξ.first)) here
      go (no e) ih =
          let r = ξ.met i (omega (arith, e)) l in
          let j-in : r.0 < count = omega (arith, r.1) in
          walk_append (ih r.0 (omega (arith, r.1)) j-in)
          (subst (λ x. Walk 𝓜 (𝓜.tail x) (𝓜.tail (order i))) (sym r.2)
          (step_walk σ (order i) (from (order i)) (omega (arith, r.2, ξ.inside r.0 j-in)) r.3))

  pub met_walk : (d : ℕ) → d < darts 𝓜 → from d ≢ unmarked → Walk 𝓜 (𝓜.tail start) (𝓜.tail d)
  met_walk d l h =
      let m = ξ.listed d l h in
      subst (λ x. Walk 𝓜 (𝓜.tail start) (𝓜.tail x)) m.2 (reached count m.0 m.1 m.1)
