-- The planar theorems, over the definitions of `specs/` and with no further assumption. Potential differences are circulations on every sound map; on a flat
-- one every circulation has potentials, one set of them once each component's root face is at 0; and, dually, what is zero around every face is a
-- difference of heights of the nodes.
use mathlib.Core.Path.{◌≡◌, refl, sym, ◌∙◌, ap, ap₂}
use Prim.Native.Nat.{ℕ, ◌+◌, ◌*◌, ◌≤◌, ◌<◌}
use native.Mathlib.Omega.{arith}
use lib.Dec.{eqb}
use lib.IntN.{ℤ, pos, ◌-ℤ◌, +ℤ_invr}
use Rattle.integers.proofs.Omega.{atoms₃, atoms₄, parts, equal, from_equal}
use Rattle.integers.specs.Sum.{Naturals, bit, count}
use Rattle.integers.proofs.Laws.{equal_of_sub}
use Rattle.integers.proofs.Sums.{sum_ext}
use Rattle.maps.specs.Dart.{rev}
use Rattle.maps.specs.Map.{Map, darts}
use Rattle.maps.specs.Face.{faces, left, right}
use Rattle.maps.specs.Walk.{Components}
use Rattle.maps.specs.Flat.{nodes_in, edges_in, FlatInEach}
use Rattle.maps.specs.Check.{Sound}
use Rattle.maps.specs.Flow.{Antisymmetric, net, Circulation}
use Rattle.maps.specs.Potential.{difference, Potentials, Roots, RootedAtZero, around, Heights}
use Rattle.maps.proofs.Darts.{rev_in}
use Rattle.maps.proofs.Incidence.{Incidence, dual, difference_antisymmetric, difference_closed, planar, incidence_bound, incidence_part_bound}
use Rattle.maps.proofs.Faces.{dart_with, dart_with_is, left_in, left_rotation, face_dart, same_in_part, part_head, part_left}
use Rattle.maps.proofs.Euler.{euler}

-- potential differences are circulations
pub difference_circulation : {𝓜 : Map} → Sound 𝓜 → (ρ : ℕ → ℤ) → Circulation 𝓜 (difference 𝓜 ρ)
unfolding net
difference_circulation {𝓜} σ ρ = record {
  antisymmetric = λ d l. difference_antisymmetric (left 𝓜) ρ d;
  balanced =
      λ v l. difference_closed 𝓜.edges 𝓜.rotation 𝓜.tail (left 𝓜) σ.range.rotation_in
      σ.injective σ.same_tail (left_rotation σ) ρ (λ u. eqb v u);
}

module _ {𝓜 : Map} (σ : Sound 𝓜) {k : ℕ} {part : ℕ → ℕ} (κ : Components 𝓜 k part) where
  -- the component of a face: that of any of its darts
  pub face_part : ℕ → ℕ
  face_part f = part (𝓜.tail (dart_with (darts 𝓜) (left 𝓜) f))

  pub face_part_left : (d : ℕ) → d < darts 𝓜 → face_part (left 𝓜 d) ≡ part (𝓜.tail d)
  unfolding face_part
  face_part_left d l =
      let q = dart_with_is (darts 𝓜) (left 𝓜) (left 𝓜 d) (d, l, refl) in
      part_left σ κ (dart_with (darts 𝓜) (left 𝓜) (left 𝓜 d)) d q.0 l q.1

  face_part_right : (d : ℕ) → d < darts 𝓜 → face_part (right 𝓜 d) ≡ part (𝓜.tail d)
  face_part_right d l = face_part_left (rev d) (rev_in 𝓜.edges d l) ∙ part_head σ κ d l

  -- ── uniqueness: needs no flatness ──
  -- two potentials of one function differ by as much at any two faces of one component
  pub offset_same : (φ ρ τ : ℕ → ℤ) → Potentials 𝓜 φ ρ → Potentials 𝓜 φ τ → (c d : ℕ) → c < darts 𝓜 → d < darts 𝓜
      → part (𝓜.tail c) ≡ part (𝓜.tail d) → ρ (left 𝓜 c) -ℤ τ (left 𝓜 c) ≡ ρ (left 𝓜 d) -ℤ τ (left 𝓜 d)
  offset_same φ ρ τ p q =
      same_in_part σ κ (λ d. ρ (left 𝓜 d) -ℤ τ (left 𝓜 d)) over_rev (λ d l. ap (λ f. ρ f -ℤ τ f) (left_rotation σ d l) ∙ over_rev d l)
    where
      over_rev : (d : ℕ) → d < darts 𝓜 → ρ (right 𝓜 d) -ℤ τ (right 𝓜 d) ≡ ρ (left 𝓜 d) -ℤ τ (left 𝓜 d)
      over_rev d l =
          let a = atoms₄ (ρ (left 𝓜 d)) (ρ (right 𝓜 d)) (τ (left 𝓜 d)) (τ (right 𝓜 d)) in
          equal (search parts) (omega (arith, from_equal (sym (p d l) ∙ q d l) (search parts)))

  pub potentials_unique : {root : ℕ → ℕ} → Roots 𝓜 k part root → (φ ρ τ : ℕ → ℤ) → Potentials 𝓜 φ ρ → Potentials 𝓜 φ τ
      → RootedAtZero k root ρ → RootedAtZero k root τ → (f : ℕ) → f < faces 𝓜 → ρ f ≡ τ f
  potentials_unique {root} roots φ ρ τ p q ρ-zero τ-zero f l =
      equal_of_sub (ρ f) (τ f)
      (ap (λ g. ρ g -ℤ τ g) (sym d.2)
      ∙ offset_same φ ρ τ p q d.0 r.0 d.1 r.1 (sym r.3)
      ∙ ap (λ g. ρ g -ℤ τ g) r.2
      ∙ ap₂ ◌-ℤ◌ (ρ-zero c c_in) (τ-zero c c_in))
    where
      d : (d : ℕ) × (d < darts 𝓜) × (left 𝓜 d ≡ f)
      d = face_dart σ f l

      c : ℕ
      c = part (𝓜.tail d.0)

      c_in : c < k
      c_in = κ.below (𝓜.tail d.0) (σ.range.tail_in d.0 d.1)

      r : (e : ℕ) × (e < darts 𝓜) × (left 𝓜 e ≡ root c) × (part (𝓜.tail e) ≡ c)
      r = roots.of c c_in

  -- ── the map with its labels ──
  on_node : ℕ → ℕ
  on_node = dart_with (darts 𝓜) 𝓜.tail

  on_face : ℕ → ℕ
  on_face = dart_with (darts 𝓜) (left 𝓜)

  on-node : (v : ℕ) → v < 𝓜.nodes → (on_node v < darts 𝓜) × (𝓜.tail (on_node v) ≡ v)
  unfolding on_node
  on-node v l = dart_with_is (darts 𝓜) 𝓜.tail v (σ.has_dart v l)

  on-face : (f : ℕ) → f < faces 𝓜 → (on_face f < darts 𝓜) × (left 𝓜 (on_face f) ≡ f)
  unfolding on_face
  on-face f l = dart_with_is (darts 𝓜) (left 𝓜) f (face_dart σ f l)

  incidence : Incidence 𝓜.edges 𝓜.nodes (faces 𝓜) k 𝓜.rotation 𝓜.tail (left 𝓜) (λ d. part (𝓜.tail d)) on_node on_face
  incidence = record {
    turn_in = σ.range.rotation_in;
    turn_injective = σ.injective;
    tail_in = σ.range.tail_in;
    left_in = left_in σ;
    tail_turn = σ.same_tail;
    left_turn = left_rotation σ;
    on_node_in = λ v l. (on-node v l).0;
    on_node_is = λ v l. (on-node v l).1;
    on_face_in = λ f l. (on-face f l).0;
    on_face_is = λ f l. (on-face f l).1;
    part_in = λ d l. κ.below (𝓜.tail d) (σ.range.tail_in d l);
    part_rev = part_head σ κ;
    part_tail = λ c d lc ld e. ap part e;
    part_left = part_left σ κ;
    joined = λ Q hr ht d c ld lc e. same_in_part σ κ Q hr ht d c ld lc e;
  }

  -- nodes + faces are never more than edges + 2 · components
  pub euler_at_most : 𝓜.nodes + faces 𝓜 ≤ 𝓜.edges + 2 * k
  euler_at_most = incidence_bound incidence

  -- nor in any component more than its edges + 2
  pub part_at_most : (c : ℕ) → nodes_in 𝓜 part c + count (faces 𝓜) (λ f. eqb c (face_part f)) ≤ edges_in 𝓜 part c + 2
  unfolding on_face face_part
  part_at_most c =
      omega (
        arith,
        incidence_part_bound incidence c,
        sum_ext Naturals 𝓜.nodes (λ v. bit (eqb c (part (𝓜.tail (on_node v))))) (λ v. bit (eqb c (part v)))
            (λ v l. ap (λ x. bit (eqb c (part x))) (on-node v l).1),
      )

  module _ (flat : FlatInEach 𝓜 k part) where
    -- every circulation has potentials
    pub circulation_potentials : (φ : ℕ → ℤ) → Circulation 𝓜 φ → (ρ : ℕ → ℤ) × Potentials 𝓜 φ ρ
    unfolding net
    circulation_potentials φ c = planar incidence (euler σ.range κ flat) φ c.antisymmetric c.balanced

    -- and potentials with each component's root face at 0
    pub rooted_potentials : {root : ℕ → ℕ} → Roots 𝓜 k part root → (φ : ℕ → ℤ) → Circulation 𝓜 φ → (ρ : ℕ → ℤ) × Potentials 𝓜 φ ρ × RootedAtZero k root ρ
    rooted_potentials {root} roots φ c = (τ, shifted, at_root)
      where
        p : (ρ : ℕ → ℤ) × Potentials 𝓜 φ ρ
        p = circulation_potentials φ c

        τ : ℕ → ℤ
        τ f = p.0 f -ℤ p.0 (root (face_part f))

        same_offset : (x y z : ℤ) → x -ℤ y ≡ (x -ℤ z) -ℤ (y -ℤ z)
        same_offset x y z = let a = atoms₃ x y z in equal (search parts) (omega arith)

        shifted : Potentials 𝓜 φ τ
        shifted d l = p.1 d l ∙ same_offset (p.0 (left 𝓜 d)) (p.0 (right 𝓜 d)) (p.0 (root (part (𝓜.tail d))))
            ∙ ap₂ (λ x y. (p.0 (left 𝓜 d) -ℤ p.0 (root x)) -ℤ (p.0 (right 𝓜 d) -ℤ p.0 (root y))) (sym (face_part_left d l)) (sym (face_part_right d l))

        at_root : RootedAtZero k root τ
        at_root x l =
            let r = roots.of x l in
            ap (λ y. p.0 (root x) -ℤ p.0 (root y)) (ap face_part (sym r.2) ∙ face_part_left r.0 r.1 ∙ r.3) ∙ +ℤ_invr (p.0 (root x))

    -- the dual: antisymmetric and zero around every face, a is a difference of heights
    pub tension_heights : (a : ℕ → ℤ) → Antisymmetric 𝓜 a → ((f : ℕ) → f < faces 𝓜 → around 𝓜 a f ≡ pos 0) → (h : ℕ → ℤ) × Heights 𝓜 a h
    unfolding around
    tension_heights a anti zero-around = planar (dual incidence) (omega (arith, euler σ.range κ flat)) a anti zero-around
