-- Faces of a sound map: the face step permutes the darts, the numbers of faces are the one numbering by lowest dart, and the identity everything hangs on,
-- left (rotation d) = right d.
use mathlib.Core.Path.{◌≡◌, refl, sym, ◌∙◌, ap}
use Prim.Native.Nat.{ℕ, ◌<◌}
use native.Mathlib.Omega.{arith}
use lib.Dec.{eqb}
use Rattle.integers.proofs.Tests.{eqb_true, eqb_eq}
use Rattle.integers.proofs.Injections.{find, find_is}
use Rattle.maps.specs.Dart.{rev}
use Rattle.integers.specs.Sum.{sum, count}
use Rattle.maps.specs.Orbit.{Orbit, lowest, is_lowest, orbit_of, Permutes}
use Rattle.maps.specs.Map.{Map, darts, head}
use Rattle.maps.specs.Face.{step, faces, left, right}
use Rattle.maps.specs.Walk.{here, along, Components}
use Rattle.maps.specs.Check.{Sound}
use Rattle.maps.proofs.Darts.{rev_rev, rev_in, rev_injective}
use Rattle.maps.proofs.Orbits.{iter_keeps, iter_zero, iter_suc, lowest_below}
use Rattle.maps.proofs.Numbering.{Numbered, orbit_of_below, orbit_of_along, orbit_of_same, orbit_of_first, orbits_numbered, one_numbering, one_count}
use Rattle.maps.proofs.Walks.{walk_keeps}

-- some dart with this label, where there is one
abbrev pub dart_with : ℕ → (ℕ → ℕ) → ℕ → ℕ
dart_with n label x = find n (λ d. eqb x (label d))

pub dart_with_is : (n : ℕ) (label : ℕ → ℕ) (x : ℕ) → (d : ℕ) × (d < n) × (label d ≡ x) → (dart_with n label x < n) × (label (dart_with n label x) ≡ x)
dart_with_is n label x r =
    let q = find_is n (λ d. eqb x (label d)) r.0 r.1 (eqb_true x (label r.0) (sym r.2)) in
    (q.0, sym (eqb_eq x (label (dart_with n label x)) q.1))

module _ {𝓜 : Map} (σ : Sound 𝓜) where
  pub step_permutes : Permutes (darts 𝓜) (step 𝓜)
  step_permutes = record {
    stays = λ d l. σ.range.rotation_in (rev d) (rev_in 𝓜.edges d l);
    apart = λ c d lc ld e. rev_injective c d (σ.injective (rev c) (rev d) (rev_in 𝓜.edges c lc) (rev_in 𝓜.edges d ld) e);
  }

  pub left_in : (d : ℕ) → d < darts 𝓜 → left 𝓜 d < faces 𝓜
  unfolding left faces
  left_in = orbit_of_below step_permutes

  pub right_in : (d : ℕ) → d < darts 𝓜 → right 𝓜 d < faces 𝓜
  right_in d l = left_in (rev d) (rev_in 𝓜.edges d l)

  pub left_step : (d : ℕ) → d < darts 𝓜 → left 𝓜 (step 𝓜 d) ≡ left 𝓜 d
  unfolding left
  left_step d l = sym (orbit_of_along step_permutes d (step 𝓜 d) l (1, iter_suc (step 𝓜) 0 d ∙ ap (step 𝓜) (iter_zero (step 𝓜) d)))

  pub left_rotation : (d : ℕ) → d < darts 𝓜 → left 𝓜 (𝓜.rotation d) ≡ right 𝓜 d
  left_rotation d l = ap (λ x. left 𝓜 (𝓜.rotation x)) (sym (rev_rev d)) ∙ left_step (rev d) (rev_in 𝓜.edges d l)

  -- the darts with one number are one round of face steps
  pub left_same : (c d : ℕ) → c < darts 𝓜 → d < darts 𝓜 → left 𝓜 c ≡ left 𝓜 d → Orbit (step 𝓜) c d
  unfolding left
  left_same = orbit_of_same step_permutes

  pub left_along : (c d : ℕ) → c < darts 𝓜 → Orbit (step 𝓜) c d → left 𝓜 c ≡ left 𝓜 d
  unfolding left
  left_along = orbit_of_along step_permutes

  -- every face number is some dart's
  pub face_dart : (f : ℕ) → f < faces 𝓜 → (d : ℕ) × (d < darts 𝓜) × (left 𝓜 d ≡ f)
  unfolding left faces
  face_dart f l = let r = orbit_of_first step_permutes f l in (r.0, r.1, r.2)

  -- dart 0 is the lowest of its face, which is face 0
  pub first_face : left 𝓜 0 ≡ 0
  unfolding left orbit_of sum
  first_face = ap (λ m. count m (is_lowest (darts 𝓜) (step 𝓜))) low
    where
      low : lowest (step 𝓜) (darts 𝓜) 0 ≡ 0
      low = omega (arith, lowest_below step_permutes 0)

  pub faces_numbered : Numbered (darts 𝓜) (step 𝓜) (left 𝓜) (faces 𝓜)
  unfolding left faces
  faces_numbered = orbits_numbered step_permutes

  -- any numbers that are in order of the lowest darts are these
  pub faces_unique : {number : ℕ → ℕ} {k : ℕ} → Numbered (darts 𝓜) (step 𝓜) number k → ((d : ℕ) → d < darts 𝓜 → number d ≡ left 𝓜 d) × (k ≡ faces 𝓜)
  faces_unique ν = (one_numbering ν faces_numbered, one_count ν faces_numbered)

  -- ── one component: what reversal and rotation keep is one for all its darts ──
  pub same_in_part : {A : Type 0} {k : ℕ} {part : ℕ → ℕ} → Components 𝓜 k part → (q : ℕ → A)
      → ((d : ℕ) → d < darts 𝓜 → q (rev d) ≡ q d) → ((d : ℕ) → d < darts 𝓜 → q (𝓜.rotation d) ≡ q d)
      → (c d : ℕ) → c < darts 𝓜 → d < darts 𝓜 → part (𝓜.tail c) ≡ part (𝓜.tail d) → q c ≡ q d
  same_in_part κ q over_rev over-rotation c d lc ld e =
      to_node c lc
      ∙ walk_keeps (λ v. q (on_node v)) across (κ.joined (𝓜.tail c) (𝓜.tail d) (σ.range.tail_in c lc) (σ.range.tail_in d ld) e)
      ∙ sym (to_node d ld)
    where
      on_node : ℕ → ℕ
      on_node = dart_with (darts 𝓜) 𝓜.tail

      on : (v : ℕ) → v < 𝓜.nodes → (on_node v < darts 𝓜) × (𝓜.tail (on_node v) ≡ v)
      on v l = dart_with_is (darts 𝓜) 𝓜.tail v (σ.has_dart v l)

      -- a dart and its node's own dart
      to_node : (d : ℕ) → d < darts 𝓜 → q d ≡ q (on_node (𝓜.tail d))
      to_node d l =
          let o = on (𝓜.tail d) (σ.range.tail_in d l) in
          let r = σ.one_round d (on_node (𝓜.tail d)) l o.0 (sym o.1) in
          sym (iter_keeps (darts 𝓜) 𝓜.rotation σ.range.rotation_in q over-rotation r.0 d l) ∙ ap q r.1

      across : (d : ℕ) → d < darts 𝓜 → q (on_node (𝓜.tail d)) ≡ q (on_node (head 𝓜 d))
      across d l = sym (to_node d l) ∙ sym (over_rev d l) ∙ to_node (rev d) (rev_in 𝓜.edges d l)

  -- the two ends of a dart lie in one component, and so do all darts around a face
  pub part_head : {k : ℕ} {part : ℕ → ℕ} → Components 𝓜 k part → (d : ℕ) → d < darts 𝓜 → part (head 𝓜 d) ≡ part (𝓜.tail d)
  part_head κ d l = sym (κ.agree (𝓜.tail d) (head 𝓜 d) (σ.range.tail_in d l) (σ.range.tail_in (rev d) (rev_in 𝓜.edges d l)) (along d l refl here))

  pub part_left : {k : ℕ} {part : ℕ → ℕ} → Components 𝓜 k part → (c d : ℕ) → c < darts 𝓜
      → d < darts 𝓜 → left 𝓜 c ≡ left 𝓜 d → part (𝓜.tail c) ≡ part (𝓜.tail d)
  part_left {part = part} κ c d lc ld e =
      let o = left_same c d lc ld e in
      sym (iter_keeps (darts 𝓜) (step 𝓜) step_permutes.stays (λ d. part (𝓜.tail d)) over_step o.0 c lc) ∙ ap (λ d. part (𝓜.tail d)) o.1
    where
      over_step : (d : ℕ) → d < darts 𝓜 → part (𝓜.tail (step 𝓜 d)) ≡ part (𝓜.tail d)
      over_step d l = ap part (σ.same_tail (rev d) (rev_in 𝓜.edges d l)) ∙ part_head κ d l
