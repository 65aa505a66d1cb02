-- The dual of a map, for who calls the search on a drawing: it is sound, its faces are joined part by part, and a ring is a walk over faces of the map.
use mathlib.Core.Path.{◌≡◌, refl, sym, ◌∙◌, ap}
use mathlib.Core.Bool.{Bool}
use mathlib.Core.List.{List}
use Prim.Native.Nat.{ℕ, zero, suc, ◌≤◌, ◌<◌}
use native.Mathlib.Omega.{arith}
use lib.ListN.{get_or}
use lib.IntN.{ℤ, pos, ◌+ℤ◌}
use Rattle.integers.specs.Sum.{bit}
use Rattle.integers.proofs.Counting.{bit_le, sum_le_size}
use Rattle.maps.specs.Dart.{rev}
use Rattle.maps.specs.Orbit.{is_lowest, orbits}
use lib.Signed.{mag, ◌<ℤ◌}
use Rattle.maps.specs.Map.{Map, darts}
use Rattle.maps.specs.Face.{step, faces, left, right}
use Rattle.maps.specs.Walk.{Components}
use Rattle.maps.specs.Check as check
use Rattle.maps.specs.inner.FaceWalk.{FaceWalk}
use Rattle.maps.specs.inner.FaceWalk as faceWalk
use Rattle.maps.proofs.Darts.{rev_in}
use Rattle.maps.proofs.Faces.{left_in, right_in, left_rotation, face_dart, same_in_part, part_head}
use Rattle.maps.proofs.Planar.{face_part, face_part_left}
use Rattle.search.specs.Dual.{Dual, dual_of, WellFormed, Joined, longest}
use Rattle.search.specs.inner.Walk.{Crossing, stay, cross, total, Ring}
use Rattle.search.specs.inner.OfMap.{OfMap}

-- what holds of the first root holds of each where there is one
pub one_root : (P : ℕ → Type 0) → P 0 → (m : ℕ) → m < 1 → P m
one_root P p zero l = p
one_root P p (suc m) l = absurd (omega arith)

-- an array with the left faces is enough
pub of_array : {𝓜 : Map} (lefts : List ℕ) (lengths : List ℤ) (roots : List ℕ) → ((d : ℕ) → d < darts 𝓜 → get_or lefts d 0 ≡ left 𝓜 d)
    → OfMap (dual_of lefts lengths (darts 𝓜) (faces 𝓜) roots) 𝓜
of_array {𝓜} lefts lengths roots is = record { darts_are = refl; faces_are = refl; left_is = is; right_is = λ d l. is (rev d) (rev_in 𝓜.edges d l) }

-- no more faces than darts
pub faces_few : (𝓜 : Map) → faces 𝓜 ≤ darts 𝓜
unfolding faces orbits
faces_few 𝓜 = sum_le_size (darts 𝓜) (λ d. bit (is_lowest (darts 𝓜) (step 𝓜) d)) (λ d l. bit_le (is_lowest (darts 𝓜) (step 𝓜) d))

module _ {N : Dual} {𝓜 : Map} (of : OfMap N 𝓜) where
  -- ── sound ──
  pub sound_of_map : check.Sound 𝓜 → darts 𝓜 ≤ 1024 → ((m : ℕ) → m < N.roots → N.root m < faces 𝓜)
      → ((d : ℕ) → d < darts 𝓜 → mag (N.length d) < longest) → WellFormed N
  sound_of_map σ few root_in short = record {
    few_darts = omega (arith, of.darts_are);
    few_faces = omega (arith, of.faces_are, faces_few 𝓜);
    root_in = λ m l. omega (arith, of.faces_are, root_in m l);
    left_in = λ d l. let m : d < darts 𝓜 = omega (arith, of.darts_are) in omega (arith, of.left_is d m, left_in σ d m, of.faces_are);
    right_in = λ d l. let m : d < darts 𝓜 = omega (arith, of.darts_are) in omega (arith, of.right_is d m, right_in σ d m, of.faces_are);
    short = λ d l. short d (omega (arith, of.darts_are));
    even = omega (arith, of.darts_are);
    reversed = λ d l. let m : d < darts 𝓜 = omega (arith, of.darts_are) in of.right_is d m ∙ sym (of.left_is (rev d) (rev_in 𝓜.edges d m));
  }

  -- ── joined: a root to each part ──
  module _ (σ : check.Sound 𝓜) {k : ℕ} {part : ℕ → ℕ} (κ : Components 𝓜 k part) (rooted : N.roots ≡ k)
      (root-of : (m : ℕ) → m < k → (d : ℕ) × (d < darts 𝓜) × (left 𝓜 d ≡ N.root m) × (part (𝓜.tail d) ≡ m)) where
    dart-of : (f : ℕ) → f < N.faces → (d : ℕ) × (d < darts 𝓜) × (left 𝓜 d ≡ f)
    dart-of f l = face_dart σ f (omega (arith, of.faces_are))

    part_of : (f d : ℕ) → d < darts 𝓜 → left 𝓜 d ≡ f → face_part σ κ f ≡ part (𝓜.tail d)
    part_of f d l e = ap (face_part σ κ) (sym e) ∙ face_part_left σ κ d l

    below : (f : ℕ) → f < N.faces → face_part σ κ f < k
    below f l = let d = dart-of f l in omega (arith, part_of f d.0 d.1 d.2, κ.below (𝓜.tail d.0) (σ.range.tail_in d.0 d.1))

    closed : (B : ℕ → Bool) → ((d : ℕ) → d < N.darts → B (N.left d) ≡ B (N.right d)) → (f : ℕ) → f < N.faces → B f ≡ B (N.root (face_part σ κ f))
    closed B same f l =
        let d = dart-of f l in
        let r = root-of (face_part σ κ f) (below f l) in
        sym (ap B d.2)
        ∙ same_in_part σ κ (λ d. B (left 𝓜 d)) across (λ d m. ap B (left_rotation σ d m) ∙ across d m) d.0 r.0 d.1 r.1
        (sym (part_of f d.0 d.1 d.2) ∙ sym r.3)
        ∙ ap B r.2
      where
        across : (d : ℕ) → d < darts 𝓜 → B (right 𝓜 d) ≡ B (left 𝓜 d)
        across d m = sym (ap B (of.right_is d m)) ∙ sym (same d (omega (arith, of.darts_are))) ∙ ap B (of.left_is d m)

    pub joined_of_map : Joined N
    joined_of_map = record {
      part = face_part σ κ;
      part_in = λ f l. omega (arith, below f l, rooted);
      part_root = λ m l. let r = root-of m (omega (arith, rooted)) in part_of (N.root m) r.0 r.1 r.2 ∙ r.3;
      part_kept = λ d l.
          let m : d < darts 𝓜 = omega (arith, of.darts_are) in
          part_of (N.left d) d m (sym (of.left_is d m))
          ∙ sym (part_head σ κ d m)
          ∙ sym (part_of (N.right d) (rev d) (rev_in 𝓜.edges d m) (sym (of.right_is d m)));
      closed = closed;
    }

  -- ── rings ──
  -- darts crossed in turn, as a walk over faces of the same length
  pub face_walk : {e f g : ℕ} {ds : List ℕ} → e ≡ f → Crossing N f g ds → (w : FaceWalk 𝓜 e g) × (faceWalk.total N.length w ≡ total N.length ds)
  unfolding total faceWalk.total
  face_walk q stay = rw q (faceWalk.stay, refl)
  face_walk {e = e'} q (cross d l e r) =
      let d_in : d < darts 𝓜 = omega (arith, of.darts_are) in
      let w = face_walk {e = left 𝓜 d} (sym (of.left_is d d_in)) r in
      (faceWalk.cross d d_in (sym (of.right_is d d_in) ∙ e ∙ sym q) w.0, ap (λ z. N.length d +ℤ z) w.1)

  pub ring_walk : {x : ℕ} → Ring N x → (w : FaceWalk 𝓜 x x) × (faceWalk.total N.length w <ℤ pos 0)
  ring_walk r = let w = face_walk refl r.closed in (w.0, rw w.1 r.negative)
