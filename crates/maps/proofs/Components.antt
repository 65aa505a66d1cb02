-- Every map has its components numbered: a class of the forest of all edges is a component, and its number is how many classes have a lower label.
use mathlib.Core.Path.{◌≡◌, ◌∙◌, ap}
use mathlib.Core.Bool.{Bool, true}
use Prim.Native.Nat.{ℕ, ◌+◌, ◌*◌, ◌<◌}
use native.Mathlib.Omega.{arith}
use native.Mathlib.Decide.{dec_lt}
use lib.Dec.{eqb}
use Rattle.integers.specs.Sum.{count}
use Rattle.integers.proofs.Tests.{eqb_true, eqb_eq}
use Rattle.integers.proofs.Counting.{count_lt, count_reach}
use Rattle.maps.specs.Map.{Map}
use Rattle.maps.specs.Walk.{Components}
use Rattle.maps.specs.Check.{InRange}
use Rattle.maps.proofs.ForestCount.{label_idempotent, label_in}
use Rattle.maps.proofs.Walks.{all, node_label, label_across, walk_keeps, walk_of_label}

abbrev label_of : Map → ℕ → ℕ
label_of 𝓜 = node_label 𝓜 𝓜.edges

abbrev pub own_label : Map → ℕ → Bool
own_label 𝓜 v = eqb (node_label 𝓜 𝓜.edges v) v

pub components : Map → ℕ
components 𝓜 = count 𝓜.nodes (own_label 𝓜)

pub component_of : Map → ℕ → ℕ
component_of 𝓜 v = count (label_of 𝓜 v) (own_label 𝓜)

own-label : (𝓜 : Map) (v : ℕ) → own_label 𝓜 (label_of 𝓜 v) ≡ true
unfolding node_label
own-label 𝓜 v = eqb_true (label_of 𝓜 (label_of 𝓜 v)) (label_of 𝓜 v) (label_idempotent all (λ e. 𝓜.tail (2 * e)) (λ e. 𝓜.tail (2 * e + 1)) 𝓜.edges v)

label_below : {𝓜 : Map} → InRange 𝓜 → (v : ℕ) → v < 𝓜.nodes → label_of 𝓜 v < 𝓜.nodes
unfolding node_label
label_below {𝓜} range =
    label_in all (λ e. 𝓜.tail (2 * e)) (λ e. 𝓜.tail (2 * e + 1)) 𝓜.nodes 𝓜.edges (λ e l. range.tail_in (2 * e + 1) (omega arith))

pub components_numbered : {𝓜 : Map} → InRange 𝓜 → Components 𝓜 (components 𝓜) (component_of 𝓜)
unfolding components component_of
components_numbered {𝓜} range = record {
  below = λ v l. count_lt (label_of 𝓜 v) 𝓜.nodes (own_label 𝓜) (label_below range v l) (own-label 𝓜 v);
  joined = λ v w lv lw e. walk_of_label v w (same v w e);
  agree = λ v w lv lw r. ap (λ x. count x (own_label 𝓜)) (walk_keeps (label_of 𝓜) (label_across 𝓜) r);
  used = λ c l.
      let q = count_reach 𝓜.nodes c (own_label 𝓜) l in
      (q.0, q.1, ap (λ x. count x (own_label 𝓜)) (eqb_eq (label_of 𝓜 q.0) q.0 q.2) ∙ q.3);
}
  where
    less : (v w : ℕ) → label_of 𝓜 v < label_of 𝓜 w → count (label_of 𝓜 v) (own_label 𝓜) < count (label_of 𝓜 w) (own_label 𝓜)
    less v w h = count_lt (label_of 𝓜 v) (label_of 𝓜 w) (own_label 𝓜) h (own-label 𝓜 v)

    same : (v w : ℕ) → count (label_of 𝓜 v) (own_label 𝓜) ≡ count (label_of 𝓜 w) (own_label 𝓜) → label_of 𝓜 v ≡ label_of 𝓜 w
    same v w e = go (dec_lt (label_of 𝓜 v) (label_of 𝓜 w)) (dec_lt (label_of 𝓜 w) (label_of 𝓜 v))
      where
        go : Dec (label_of 𝓜 v < label_of 𝓜 w) → Dec (label_of 𝓜 w < label_of 𝓜 v) → label_of 𝓜 v ≡ label_of 𝓜 w
        go (yes h) q = absurd (omega (arith, less v w h))
        go (no h) (yes q) = absurd (omega (arith, less w v q))
        go (no h) (no q) = omega (arith, h, q)
