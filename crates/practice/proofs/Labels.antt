-- Two laws of any map: it is connected where from every node but 0 a dart leads to a lower one, and it has at least as many faces as there are labels that the
-- face step keeps.
use mathlib.Core.Path.{◌≡◌, sym, ◌∙◌, ap, subst}
use Prim.Native.Nat.{ℕ, zero, suc, ◌≤◌, ◌<◌}
use native.Mathlib.Omega.{arith}
use native.Mathlib.Decide.{dec_lt}
use Rattle.integers.proofs.Pigeonhole.{Twice, pigeonhole}
use Rattle.maps.specs.Orbit.{Orbit}
use Rattle.maps.specs.Map.{Map, darts, head}
use Rattle.maps.specs.Face.{step, faces, left}
use Rattle.maps.specs.Walk.{Walk, here, along, Connected}
use Rattle.maps.specs.Check.{Sound}
use Rattle.maps.proofs.Orbits.{iter_keeps}
use Rattle.maps.proofs.Walks.{walk_append, walk_back}
use Rattle.maps.proofs.Faces.{step_permutes, left_in, left_same}

pub connected_down : (𝓜 : Map) → ((v : ℕ) → 0 < v → v < 𝓜.nodes → (d : ℕ) × (d < darts 𝓜) × (𝓜.tail d ≡ v) × (head 𝓜 d < v)) → Connected 𝓜
connected_down 𝓜 down v w lv lw = walk_append (to_zero v v (omega arith) lv) (walk_back (to_zero w w (omega arith) lw))
  where
    -- induction on a bound of v
    to_zero : (bound v : ℕ) → v ≤ bound → v < 𝓜.nodes → Walk 𝓜 v 0
    to_zero zero v h l = subst (λ x. Walk 𝓜 v x) none here
      where
        none : v ≡ 0
        none = omega arith
    to_zero (suc bound) v h l = go (dec_lt 0 v) (to_zero bound)
      where
        go : Dec (0 < v) → ((u : ℕ) → u ≤ bound → u < 𝓜.nodes → Walk 𝓜 u 0) → Walk 𝓜 v 0
        go (yes m) ih = let q = down v m l in along q.0 q.1 q.2 (ih (head 𝓜 q.0) (omega (arith, q.3)) (omega (arith, q.3)))
        go (no m) ih = subst (λ x. Walk 𝓜 v x) none here
          where
            none : v ≡ 0
            none = omega arith

-- were there fewer faces than labels, two labels' darts would lie on one face, and have one label
pub faces_at_least : {𝓜 : Map} → Sound 𝓜 → (label : ℕ → ℕ) → ((d : ℕ) → d < darts 𝓜 → label (step 𝓜 d) ≡ label d)
    → (k : ℕ) (some : ℕ → ℕ) → ((f : ℕ) → f < k → (some f < darts 𝓜) × (label (some f) ≡ f)) → k ≤ faces 𝓜
faces_at_least {𝓜} σ label keeps k some has = go (dec_lt (faces 𝓜) k)
  where
    go : Dec (faces 𝓜 < k) → k ≤ faces 𝓜
    go (no h) = omega arith
    go (yes h) = absurd (omega (arith, t.2, apart))
      where
        t : Twice (λ f. left 𝓜 (some f)) (faces 𝓜)
        t = pigeonhole (faces 𝓜) (λ f. left 𝓜 (some f)) (λ f l. left_in σ (some f) (has f (omega arith)).0)

        a : t.0 < k
        a = omega (arith, t.2, t.3)

        b : t.1 < k
        b = omega (arith, t.3)

        o : Orbit (step 𝓜) (some t.0) (some t.1)
        o = left_same σ (some t.0) (some t.1) (has t.0 a).0 (has t.1 b).0 t.4

        apart : t.0 ≡ t.1
        apart =
            sym (has t.0 a).1
            ∙ sym (iter_keeps (darts 𝓜) (step 𝓜) (step_permutes σ).stays label keeps o.0 (some t.0) (has t.0 a).0)
            ∙ ap label o.1
            ∙ (has t.1 b).1
