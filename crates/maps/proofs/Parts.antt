-- Flat by the total. In no component of a sound map are nodes + faces more than edges + 2; so a map of k components is flat in each if and only if the
-- totals have nodes + faces = edges + 2 · k. And however the components are numbered, there are as many.
use mathlib.Core.Path.{◌≡◌, sym, ◌∙◌, ap}
use mathlib.Core.Logic.{◌⊎◌, inl, inr}
use mathlib.Core.Bool.{Bool, true, false, ◌&&◌}
use Prim.Native.Nat.{ℕ, ◌+◌, ◌*◌, ◌≤◌, ◌<◌}
use native.Mathlib.Omega.{arith}
use native.Mathlib.Decide.{ℕ_discrete, dec_lt}
use lib.Dec.{eqb}
use Rattle.integers.specs.Sum.{Naturals, sumℕ, bit, count}
use Rattle.integers.proofs.Tests.{either, eqb_eq}
use Rattle.integers.proofs.Sums.{sum_ext, sum_add}
use Rattle.integers.proofs.Counting.{count_marked, sum_squeezed}
use Rattle.integers.proofs.Pigeonhole.{Twice, pigeonhole}
use Rattle.maps.specs.Orbit.{lowest, is_lowest, orbits, orbit_of}
use Rattle.maps.specs.Map.{Map, darts}
use Rattle.maps.specs.Face.{step, faces, left}
use Rattle.maps.specs.Walk.{Connected, Components}
use Rattle.maps.specs.Flat.{nodes_in, edges_in, faces_in, FlatInEach, Flat}
use Rattle.maps.specs.Check.{Sound, NotFlat}
use Rattle.maps.proofs.Faces.{dart_with, dart_with_is}
use Rattle.maps.proofs.Euler.{sum_twos, nodes_whole, edges_whole, faces_whole, euler, flat_in_one}
use Rattle.maps.proofs.Walks.{connected_components}
use Rattle.maps.proofs.Components.{components, components_numbered}
use Rattle.maps.proofs.Planar.{face_part, face_part_left, part_at_most}

-- the face of a lowest dart is numbered by the lowest darts before it
left_lowest : (𝓜 : Map) (d : ℕ) → is_lowest (darts 𝓜) (step 𝓜) d ≡ true → left 𝓜 d ≡ count d (is_lowest (darts 𝓜) (step 𝓜))
unfolding left orbit_of is_lowest
left_lowest 𝓜 d e = ap (λ m. count m (is_lowest (darts 𝓜) (step 𝓜))) (eqb_eq (lowest (step 𝓜) (darts 𝓜) d) d e)

module _ {𝓜 : Map} (σ : Sound 𝓜) {k : ℕ} {part : ℕ → ℕ} (κ : Components 𝓜 k part) where
  -- counting a component's faces by their lowest darts or by their numbers is one
  pub faces-in : (c : ℕ) → faces_in 𝓜 part c ≡ count (faces 𝓜) (λ f. eqb c (face_part σ κ f))
  unfolding faces orbits
  faces-in c =
      sum_ext Naturals (darts 𝓜) (λ d. bit (low d && eqb c (part (𝓜.tail d)))) (λ d. bit (low d && eqb c (face_part σ κ (count d low))))
      (λ d l. point d l (either (low d)))
      ∙ count_marked (darts 𝓜) low (λ f. eqb c (face_part σ κ f))
    where
      low : ℕ → Bool
      low = is_lowest (darts 𝓜) (step 𝓜)

      point : (d : ℕ) → d < darts 𝓜 → (low d ≡ true) ⊎ (low d ≡ false) → bit (low d && eqb c (part (𝓜.tail d))) ≡ bit
          (low d && eqb c (face_part σ κ (count d low)))
      point d l (inl e) = ap (λ x. bit (low d && eqb c x)) (sym (face_part_left σ κ d l) ∙ ap (face_part σ κ) (left_lowest 𝓜 d e))
      point d l (inr e) = rw e

  pub euler_in_part : (c : ℕ) → nodes_in 𝓜 part c + faces_in 𝓜 part c ≤ edges_in 𝓜 part c + 2
  euler_in_part c = rw (faces-in c) (part_at_most σ κ c)

  pub flat_of_total : 𝓜.nodes + faces 𝓜 ≡ 𝓜.edges + 2 * k → FlatInEach 𝓜 k part
  flat_of_total total c l = omega
      (arith, euler_in_part c, sum_squeezed k (λ c. nodes_in 𝓜 part c + faces_in 𝓜 part c) (λ c. edges_in 𝓜 part c + 2) (λ c l. euler_in_part c) whole c l)
    where
      whole : sumℕ k (λ c. edges_in 𝓜 part c + 2) ≤ sumℕ k (λ c. nodes_in 𝓜 part c + faces_in 𝓜 part c)
      whole =
          omega (
            arith,
            sum_add Naturals k (nodes_in 𝓜 part) (faces_in 𝓜 part),
            sum_add Naturals k (edges_in 𝓜 part) (λ c. 2),
            nodes_whole σ.range κ,
            edges_whole σ.range κ,
            faces_whole σ.range κ,
            sum_twos k,
          )

  pub flat_by_total : (FlatInEach 𝓜 k part → 𝓜.nodes + faces 𝓜 ≡ 𝓜.edges + 2 * k) × (𝓜.nodes + faces 𝓜 ≡ 𝓜.edges + 2 * k → FlatInEach 𝓜 k part)
  flat_by_total = (euler σ.range κ, flat_of_total)

-- ── the number of components is one number ──
-- a node of each component has, by the other numbering, a number of its own
module _ {𝓜 : Map} {k j : ℕ} {part other : ℕ → ℕ} (κ : Components 𝓜 k part) (μ : Components 𝓜 j other) where
  no_more_components : k ≤ j
  no_more_components = go (dec_lt j k)
    where
      node : ℕ → ℕ
      node = dart_with 𝓜.nodes part

      is : (c : ℕ) → c < k → (node c < 𝓜.nodes) × (part (node c) ≡ c)
      is c l = dart_with_is 𝓜.nodes part c (κ.used c l)

      go : Dec (j < k) → k ≤ j
      go (no h) = omega (arith, h)
      go (yes h) = twice (pigeonhole j (λ c. other (node c)) (λ c l. μ.below (node c) (is c (omega arith)).0))
        where
          twice : Twice (λ c. other (node c)) j → k ≤ j
          twice t =
              let a = is t.0 (omega (arith, t.2, t.3)) in
              let b = is t.1 (omega (arith, t.3)) in
              let e : t.0 ≡ t.1 = sym a.1 ∙ κ.agree (node t.0) (node t.1) a.0 b.0
              (μ.joined (node t.0) (node t.1) a.0 b.0 t.4) ∙ b.1 in
              absurd (omega (arith, t.2))

pub components_counted : {𝓜 : Map} {k j : ℕ} {part other : ℕ → ℕ} → Components 𝓜 k part → Components 𝓜 j other → k ≡ j
components_counted κ μ = let x = no_more_components κ μ in let y = no_more_components μ κ in omega arith

-- flat in each component by one numbering is flat in each by any
pub flat_in_any : {𝓜 : Map} → Sound 𝓜 → {k j : ℕ} {part other : ℕ → ℕ} → Components 𝓜 k part → Components 𝓜 j other → FlatInEach 𝓜 k part → FlatInEach 𝓜 j other
flat_in_any σ κ μ flat = flat_of_total σ μ (omega (arith, euler σ.range κ flat, components_counted κ μ))

-- ── flat, by the total of any numbering ──
module _ {𝓜 : Map} (σ : Sound 𝓜) {k : ℕ} {part : ℕ → ℕ} (κ : Components 𝓜 k part) where
  pub flat_of : 𝓜.nodes + faces 𝓜 ≡ 𝓜.edges + 2 * k → Flat 𝓜
  flat_of total = record { parts = k; part = part; components = κ; in-each = flat_of_total σ κ total }

  pub total_of : Flat 𝓜 → 𝓜.nodes + faces 𝓜 ≡ 𝓜.edges + 2 * k
  total_of flat = omega (arith, euler σ.range flat.components flat.in-each, components_counted flat.components κ)

-- so it is decided
pub flat_of_check : {𝓜 : Map} → Sound 𝓜 → (NotFlat 𝓜 → ⊥) → Flat 𝓜
flat_of_check {𝓜} σ good = go (ℕ_discrete (𝓜.nodes + faces 𝓜) (𝓜.edges + 2 * components 𝓜))
  where
    go : Dec (𝓜.nodes + faces 𝓜 ≡ 𝓜.edges + 2 * components 𝓜) → Flat 𝓜
    go (yes e) = flat_of σ (components_numbered σ.range) e
    go (no h) = absurd (good (λ flat. h (total_of σ (components_numbered σ.range) flat)))

-- ── a connected map has one component ──
module _ {𝓜 : Map} (some : 0 < 𝓜.nodes) (con : Connected 𝓜) where
  pub flat_connected : 𝓜.nodes + faces 𝓜 ≡ 𝓜.edges + 2 → Flat 𝓜
  flat_connected total = record { parts = 1; part = λ v. 0; components = connected_components some con; in-each = flat_in_one 𝓜 total }

  pub connected_total : Sound 𝓜 → Flat 𝓜 → 𝓜.nodes + faces 𝓜 ≡ 𝓜.edges + 2
  connected_total σ = total_of σ (connected_components some con)
