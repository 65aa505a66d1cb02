-- Walks: joined end to end, turned round, kept by sets that no edge leaves, and decided.
use mathlib.Core.Path.{◌≡◌, refl, sym, ◌∙◌, ap, subst}
use mathlib.Core.Logic.{◌⊎◌, inl, inr}
use mathlib.Core.Bool.{Bool, true, false, cond}
use Prim.Native.Nat.{ℕ, zero, suc, ◌+◌, ◌*◌, ◌≤◌, ◌<◌}
use native.Mathlib.Omega.{arith}
use native.Mathlib.Decide.{ℕ_discrete}
use lib.Dec.{eqb}
use Rattle.integers.proofs.Tests.{either, eqb_eq}
use Rattle.maps.specs.Dart.{rev}
use Rattle.maps.specs.Map.{Map, darts, head}
use Rattle.maps.specs.Walk.{Walk, here, along, Connected, Components}
use Rattle.maps.proofs.Darts.{rev_even, rev_odd, rev_rev, rev_in, by_edge}
use Rattle.maps.proofs.Forest.{label, taken, label_zero, label_joined, label_kept, label_closed}

pub all : ℕ → Bool
all e = true

-- the label of a node in the forest of all edges: two nodes are joined by a walk if and only if they have one label
unfoldable pub node_label : Map → ℕ → ℕ → ℕ
node_label 𝓜 = label all (λ e. 𝓜.tail (2 * e)) (λ e. 𝓜.tail (2 * e + 1))

pub label_across : (𝓜 : Map) (d : ℕ) → d < darts 𝓜 → node_label 𝓜 𝓜.edges (𝓜.tail d) ≡ node_label 𝓜 𝓜.edges (head 𝓜 d)
unfolding node_label all
label_across 𝓜 =
    by_edge 𝓜.edges (λ d. node_label 𝓜 𝓜.edges (𝓜.tail d) ≡ node_label 𝓜 𝓜.edges (head 𝓜 d))
    (λ e l. shut e l ∙ ap (λ x. node_label 𝓜 𝓜.edges (𝓜.tail x)) (sym (rev_even e)))
    (λ e l. sym (shut e l) ∙ ap (λ x. node_label 𝓜 𝓜.edges (𝓜.tail x)) (sym (rev_odd e)))
  where
    shut : (e : ℕ) → e < 𝓜.edges → node_label 𝓜 𝓜.edges (𝓜.tail (2 * e)) ≡ node_label 𝓜 𝓜.edges (𝓜.tail (2 * e + 1))
    shut e l = label_closed all (λ e. 𝓜.tail (2 * e)) (λ e. 𝓜.tail (2 * e + 1)) e 𝓜.edges l refl

module _ {𝓜 : Map} where
  pub walk_keeps : {A : Type 0} (q : ℕ → A) → ((d : ℕ) → d < darts 𝓜 → q (𝓜.tail d) ≡ q (head 𝓜 d)) → {v w : ℕ} → Walk 𝓜 v w → q v ≡ q w
  walk_keeps q h here = refl
  walk_keeps q h (along d l e r) = ap q (sym e) ∙ h d l ∙ walk_keeps q h r

  pub walk_append : {u v w : ℕ} → Walk 𝓜 u v → Walk 𝓜 v w → Walk 𝓜 u w
  walk_append here s = s
  walk_append (along d l e r) s = along d l e (walk_append r s)

  -- over one dart, back and forth
  back_over : (d : ℕ) → d < darts 𝓜 → Walk 𝓜 (head 𝓜 d) (𝓜.tail d)
  back_over d l = along (rev d) (rev_in 𝓜.edges d l) refl (subst (λ x. Walk 𝓜 (𝓜.tail x) (𝓜.tail d)) (sym (rev_rev d)) here)

  forth_over : (e : ℕ) → e < 𝓜.edges → Walk 𝓜 (𝓜.tail (2 * e)) (𝓜.tail (2 * e + 1))
  forth_over e l = along (2 * e) (omega arith) refl (subst (λ x. Walk 𝓜 (𝓜.tail x) (𝓜.tail (2 * e + 1))) (sym (rev_even e)) here)

  pub walk_back : {u v : ℕ} → Walk 𝓜 u v → Walk 𝓜 v u
  walk_back here = here
  walk_back (along {v = u} {w = w} d l e r) = walk_append (walk_back r) (subst (λ x. Walk 𝓜 (head 𝓜 d) x) e (back_over d l))

  to_label : (k : ℕ) → k ≤ 𝓜.edges → (v : ℕ) → Walk 𝓜 v (node_label 𝓜 k v)
  unfolding node_label
  to_label zero h v = rw (label_zero all (λ e. 𝓜.tail (2 * e)) (λ e. 𝓜.tail (2 * e + 1)) v) here
  to_label (suc k) h v = step (to_label k (omega arith)) (either (taken all a b k))
    where
      a : ℕ → ℕ
      a e = 𝓜.tail (2 * e)

      b : ℕ → ℕ
      b e = 𝓜.tail (2 * e + 1)

      L : ℕ → ℕ → ℕ
      L = label all a b

      step : ((v : ℕ) → Walk 𝓜 v (L k v)) → (taken all a b k ≡ true) ⊎ (taken all a b k ≡ false) → Walk 𝓜 v (L (suc k) v)
      step ih (inr t) = rw (label_kept all a b k v t) (ih v)
      step ih (inl t) = rw (label_joined all a b k v t) (cs (either (eqb (L k v) (L k (a k)))))
        where
          cs : (eqb (L k v) (L k (a k)) ≡ true) ⊎ (eqb (L k v) (L k (a k)) ≡ false) → Walk 𝓜 v (cond (eqb (L k v) (L k (a k))) (L k (b k)) (L k v))
          cs (inl e) =
              rw e (walk_append (rw (eqb_eq (L k v) (L k (a k)) e) at (ih v)) (walk_append (walk_back (ih (a k))) (walk_append (forth_over k h) (ih (b k)))))
          cs (inr e) = rw e (ih v)

  pub walk_of_label : (v w : ℕ) → node_label 𝓜 𝓜.edges v ≡ node_label 𝓜 𝓜.edges w → Walk 𝓜 v w
  walk_of_label v w e = walk_append (rw e at (to_label 𝓜.edges (omega arith) v)) (walk_back (to_label 𝓜.edges (omega arith) w))

  pub walk_decided : (v w : ℕ) → Dec (Walk 𝓜 v w)
  walk_decided v w = go (ℕ_discrete (node_label 𝓜 𝓜.edges v) (node_label 𝓜 𝓜.edges w))
    where
      go : Dec (node_label 𝓜 𝓜.edges v ≡ node_label 𝓜 𝓜.edges w) → Dec (Walk 𝓜 v w)
      go (yes e) = yes (walk_of_label v w e)
      go (no c) = no (λ r. c (walk_keeps (node_label 𝓜 𝓜.edges) (label_across 𝓜) r))

-- a connected map is one component
pub connected_components : {𝓜 : Map} → 0 < 𝓜.nodes → Connected 𝓜 → Components 𝓜 1 (λ v. 0)
connected_components some con = record {
  below = λ v l. omega arith;
  joined = λ v w lv lw e. con v w lv lw;
  agree = λ v w lv lw r. refl;
  used = λ c l. (0, some, omega arith);
}
