-- Potentials are bounded: where the two sides of each dart differ by at most M, no face is more than m · M from the root of its part, m + 1 being the faces of
-- the part. While some face is above k · M, some face lies in the next M: with none there, the faces above would be cut off from the root, against the part
-- being one. So each M that a face is above the root takes a face of its own.
use mathlib.Core.Path.{◌≡◌, refl, sym, ◌∙◌, ap}
use mathlib.Core.Logic.{◌⊎◌, inl, inr}
use mathlib.Core.Bool.{Bool, true, false, ◌&&◌}
use Prim.Native.Nat.{ℕ, zero, suc, ◌+◌, ◌*◌, ◌≤◌, ◌<◌}
use native.Mathlib.Omega.{arith}
use native.Mathlib.Decide.{dec_lt}
use lib.Dec.{eqb}
use lib.IntN.{ℤ, pos, neg_ℤ, ◌-ℤ◌}
use lib.Signed.{◌≤ℤ◌, ◌<ℤ◌, le_z}
use Rattle.integers.specs.Sum.{bit, count}
use Rattle.integers.proofs.Omega.{atoms₁, atoms₂, parts, at_most, less, from_equal, from_at_most, from_less}
use Rattle.integers.proofs.Laws.{lt_or_ge, lt_le_clash, le_of_test}
use Rattle.integers.specs.inner.Limited.{Limited}
use Rattle.integers.proofs.Limits.{limited_both}
use Rattle.integers.proofs.Tests.{of_T, either, eqb_true, eqb_eq, and_both, and_true}
use Rattle.integers.proofs.Counting.{bit_le, bit_one, term_le_sum, sum_squeezed, sum_le_size}
use Rattle.maps.specs.Map.{Map, darts}
use Rattle.maps.specs.Face.{faces, left, right}
use Rattle.maps.specs.Potential.{difference}
use Rattle.maps.specs.Dart.{rev}
use Rattle.maps.specs.Walk.{Components}
use Rattle.maps.specs.Check.{Sound}
use Rattle.maps.proofs.Darts.{rev_in}
use Rattle.maps.proofs.Faces.{left_in, right_in, left_rotation, face_dart, same_in_part, part_head}
use Rattle.maps.proofs.Planar.{face_part, face_part_left, part_at_most}
use Rattle.flows.specs.Settings.{Within}
use Rattle.flows.specs.Levels.{Levels}
use Rattle.flows.proofs.Limits.{settings_limited}
use Rattle.flows.specs.ZeroFace.{ZeroFace}
use Rattle.flows.proofs.Plane.{zero_dart}
use Rattle.flows.specs.inner.Plane.{Plane}

-- what is one on both sides of every dart is one for all faces of a part
module _ {𝓜 : Map} (σ : Sound 𝓜) {n : ℕ} {part : ℕ → ℕ} (κ : Components 𝓜 n part) where
  pub faces_agree : {A : Type 0} (q : ℕ → A) → ((d : ℕ) → d < darts 𝓜 → q (right 𝓜 d) ≡ q (left 𝓜 d))
      → (f g : ℕ) → f < faces 𝓜 → g < faces 𝓜 → face_part σ κ f ≡ face_part σ κ g → q f ≡ q g
  faces_agree q kept f g lf lg same =
      let c = face_dart σ f lf in
      let d = face_dart σ g lg in
      ap q (sym c.2)
      ∙ same_in_part σ κ (λ d. q (left 𝓜 d)) kept (λ d l. ap q (left_rotation σ d l) ∙ kept d l) c.0 d.0 c.1 d.1
      (sym (face_part_left σ κ c.0 c.1) ∙ ap (face_part σ κ) c.2 ∙ same ∙ sym (ap (face_part σ κ) d.2) ∙ face_part_left σ κ d.0 d.1)
      ∙ ap q d.2

  face_part_right : (d : ℕ) → d < darts 𝓜 → face_part σ κ (right 𝓜 d) ≡ face_part σ κ (left 𝓜 d)
  face_part_right d l = face_part_left σ κ (rev d) (rev_in 𝓜.edges d l) ∙ part_head σ κ d l ∙ sym (face_part_left σ κ d l)

  module _ (root : ℕ) (root_in : root < faces 𝓜) (M : ℕ) (ρ : ℕ → ℤ) (rooted : ρ root ≡ pos 0)
      (near : (d : ℕ) → d < darts 𝓜 → Limited M (difference 𝓜 ρ d)) where
    -- a face of the root's part
    abbrev mine : ℕ → Bool
    mine g = eqb (face_part σ κ root) (face_part σ κ g)

    -- such a face with a potential of at most k times M
    abbrev under : ℕ → ℕ → Bool
    under k g = eqb (face_part σ κ root) (face_part σ κ g) && le_z (ρ g) (pos (k * M))

    root_under : (k : ℕ) → under k root ≡ true
    root_under k = and_true (eqb_true (face_part σ κ root) (face_part σ κ root) refl) (of_T low.le)
      where
        low : ρ root ≤ℤ pos (k * M)
        low = let a = atoms₁ (ρ root) in at_most (search parts) (omega (arith, from_equal rooted (search parts)))

    under_more : (k g : ℕ) → under k g ≡ true → under (suc k) g ≡ true
    under_more k g e = let r = and_both (mine g) (le_z (ρ g) (pos (k * M))) e in and_true r.0 (of_T (low r.1).le)
      where
        low : le_z (ρ g) (pos (k * M)) ≡ true → ρ g ≤ℤ pos (suc k * M)
        low h = let a = atoms₁ (ρ g) in at_most (search parts) (omega (arith, from_at_most (le_of_test (ρ g) (pos (k * M)) h) (search parts)))

    -- with no face in the next M, the faces under k times M are cut off from the others; but the root is among them
    module _ (k : ℕ) (none : (g : ℕ) → g < faces 𝓜 → under (suc k) g ≡ true → under k g ≡ true) where
      across : (f g : ℕ) → g < faces 𝓜 → face_part σ κ f ≡ face_part σ κ g → (ρ g -ℤ ρ f) ≤ℤ pos M → under k f ≡ true → under k g ≡ true
      across f g l one h e =
          let r = and_both (mine f) (le_z (ρ f) (pos (k * M))) e in
          none g l (and_true (eqb_true (face_part σ κ root) (face_part σ κ g) (eqb_eq (face_part σ κ root) (face_part σ κ f) r.0 ∙ one)) (of_T (low r.1).le))
        where
          low : le_z (ρ f) (pos (k * M)) ≡ true → ρ g ≤ℤ pos (suc k * M)
          low t =
              let a = atoms₂ (ρ f) (ρ g) in
              at_most (search parts) (omega (arith, from_at_most h (search parts), from_at_most (le_of_test (ρ f) (pos (k * M)) t) (search parts)))

      same : (a b : Bool) → (a ≡ true → b ≡ true) → (b ≡ true → a ≡ true) → a ≡ b
      same true b h g = sym (h refl)
      same false true h g = g refl
      same false false h g = refl

      all_under : (f : ℕ) → f < faces 𝓜 → mine f ≡ true → under k f ≡ true
      all_under f l own = faces_agree (under k) kept f root l root_in (sym (eqb_eq (face_part σ κ root) (face_part σ κ f) own)) ∙ root_under k
        where
          kept : (d : ℕ) → d < darts 𝓜 → under k (right 𝓜 d) ≡ under k (left 𝓜 d)
          kept d m =
              same (under k (right 𝓜 d)) (under k (left 𝓜 d))
              (across (right 𝓜 d) (left 𝓜 d) (left_in σ d m) (face_part_right d m) (near d m).high)
              (across (left 𝓜 d) (right 𝓜 d) (right_in σ d m) (sym (face_part_right d m)) back)
            where
              back : (ρ (right 𝓜 d) -ℤ ρ (left 𝓜 d)) ≤ℤ pos M
              back =
                  let a = atoms₂ (ρ (left 𝓜 d)) (ρ (right 𝓜 d)) in
                  at_most (search parts) (omega (arith, from_at_most (near d m).low (search parts)))

    -- so, while some face of the part is above, more than k faces are under k times M
    climb : (f : ℕ) → f < faces 𝓜 → mine f ≡ true → (k : ℕ) → pos (k * M) <ℤ ρ f → k < count (faces 𝓜) (under k)
    climb f l own zero high = omega (arith, term_le_sum (faces 𝓜) root (λ g. bit (under 0 g)) root_in, ap bit (root_under 0))
    climb f l own (suc k) high = go (dec_lt (count (faces 𝓜) (under k)) (count (faces 𝓜) (under (suc k)))) (climb f l own k higher)
      where
        higher : pos (k * M) <ℤ ρ f
        higher = let a = atoms₁ (ρ f) in less (search parts) (omega (arith, from_less high (search parts)))

        grows : (g : ℕ) → g < faces 𝓜 → bit (under k g) ≤ bit (under (suc k) g)
        grows g m = by (either (under k g))
          where
            by : (under k g ≡ true) ⊎ (under k g ≡ false) → bit (under k g) ≤ bit (under (suc k) g)
            by (inl e) = omega (arith, ap bit e, ap bit (under_more k g e))
            by (inr e) = omega (arith, ap bit e)

        go : Dec (count (faces 𝓜) (under k) < count (faces 𝓜) (under (suc k))) → k < count (faces 𝓜) (under k) → suc k < count (faces 𝓜) (under (suc k))
        go (yes h) r = omega arith
        go (no h) r =
            absurd (lt_le_clash higher (le_of_test (ρ f) (pos (k * M)) (and_both (mine f) (le_z (ρ f) (pos (k * M))) (all_under k none f l own)).1))
          where
            none : (g : ℕ) → g < faces 𝓜 → under (suc k) g ≡ true → under k g ≡ true
            none g m e =
                bit_one (under k g)
                (omega (arith, ap bit e, sum_squeezed (faces 𝓜) (λ g. bit (under k g)) (λ g. bit (under (suc k) g)) grows (omega (arith, h)) g m))

    -- and m times M is above all faces of the part, where it has at most m + 1
    level_above : (m : ℕ) → count (faces 𝓜) mine ≤ m + 1 → (f : ℕ) → f < faces 𝓜 → mine f ≡ true → ρ f ≤ℤ pos (m * M)
    level_above m most f l own = go (lt_or_ge (pos (m * M)) (ρ f))
      where
        part_of : (g : ℕ) → g < faces 𝓜 → bit (under m g) ≤ bit (mine g)
        part_of g b = by (mine g) (le_z (ρ g) (pos (m * M)))
          where
            by : (a b : Bool) → bit (a && b) ≤ bit a
            by true b = bit_le b
            by false b = omega arith

        go : (pos (m * M) <ℤ ρ f) ⊎ (ρ f ≤ℤ pos (m * M)) → ρ f ≤ℤ pos (m * M)
        go (inl high) =
            le_of_test (ρ f) (pos (m * M))
            (and_both (mine f) (le_z (ρ f) (pos (m * M)))
            (bit_one (under m f)
            (omega (
              arith,
              ap bit own,
              sum_squeezed (faces 𝓜) (λ g. bit (under m g)) (λ g. bit (mine g)) part_of (omega (arith, climb f l own m high)) f l,
            )))).1
        go (inr h) = h

-- the potentials below the root are those of −ρ above it
pub levels_limited : {𝓜 : Map} (σ : Sound 𝓜) {k : ℕ} {part : ℕ → ℕ} (κ : Components 𝓜 k part) (root : ℕ) → root < faces 𝓜 → (M : ℕ) (ρ : ℕ → ℤ)
    → ρ root ≡ pos 0 → ((d : ℕ) → d < darts 𝓜 → Limited M (difference 𝓜 ρ d))
    → (m : ℕ) → count (faces 𝓜) (λ g. eqb (face_part σ κ root) (face_part σ κ g)) ≤ m + 1
    → (f : ℕ) → f < faces 𝓜 → face_part σ κ root ≡ face_part σ κ f → Limited (m * M) (ρ f)
levels_limited {𝓜} σ κ root root_in M ρ rooted near m most f l same =
    limited_both
    (level_above σ κ root root_in M ρ rooted near m most f l own)
    (level_above σ κ root root_in M (λ g. neg_ℤ (ρ g)) (ap neg_ℤ rooted) turned m most f l own)
  where
    own : eqb (face_part σ κ root) (face_part σ κ f) ≡ true
    own = eqb_true (face_part σ κ root) (face_part σ κ f) same

    turned : (d : ℕ) → d < darts 𝓜 → Limited M (neg_ℤ (ρ (left 𝓜 d)) -ℤ neg_ℤ (ρ (right 𝓜 d)))
    turned d m =
        let a = atoms₂ (ρ (left 𝓜 d)) (ρ (right 𝓜 d)) in
        record {
          low = at_most (search parts) (omega (arith, from_at_most (near d m).high (search parts)));
          high = at_most (search parts) (omega (arith, from_at_most (near d m).low (search parts)));
        }

-- ── in a sheet ──
-- a part of at most 512 edges has a node, so at most 513 faces
part_faces : {𝓜 : Map} (p : Plane 𝓜) → 𝓜.edges ≤ 512 → (f : ℕ) → f < faces 𝓜
    → count (faces 𝓜) (λ g. eqb (face_part p.sound p.flat.components f) (face_part p.sound p.flat.components g)) ≤ 513
part_faces {𝓜} p few f l =
    let d = face_dart p.sound f l in
    let σ = p.sound in
    let κ = p.flat.components in
    let c = face_part σ κ f in
    let is_c : p.flat.part (𝓜.tail d.0) ≡ face_part p.sound p.flat.components f = sym (face_part_left σ κ d.0 d.1) ∙ ap (face_part σ κ)
    d.2 in
    omega (
      arith,
      part_at_most σ κ c,
      sum_le_size 𝓜.edges (λ e. bit (eqb c (p.flat.part (𝓜.tail (2 * e))))) (λ e m. bit_le (eqb c (p.flat.part (𝓜.tail (2 * e))))),
      term_le_sum 𝓜.nodes (𝓜.tail d.0) (λ v. bit (eqb c (p.flat.part v))) (σ.range.tail_in d.0 d.1),
      ap bit (eqb_true c (p.flat.part (𝓜.tail d.0)) (sym is_c)),
    )

pub levels_small : {𝓜 : Map} → Plane 𝓜 → 𝓜.edges ≤ 512 → (outer : ℕ) → outer < darts 𝓜
    → (c x ρ : ℕ → ℤ) → ((d : ℕ) → d < darts 𝓜 → c d ≤ℤ pos 1000000) → Within 𝓜 c x
    → Levels 𝓜 outer x ρ → (f : ℕ) → f < faces 𝓜 → Limited 512000000 (ρ f)
levels_small {𝓜} p few outer outer_in c x ρ low within levels f l =
    levels_limited σ κ root root_in 1000000 ρ (levels.rooted root z.3) near 512 (omega (arith, part_faces p few root root_in)) f l same
  where
    σ : Sound 𝓜
    σ = p.sound

    κ : Components 𝓜 p.flat.parts p.flat.part
    κ = p.flat.components

    d : (d : ℕ) × (d < darts 𝓜) × (left 𝓜 d ≡ f)
    d = face_dart p.sound f l

    -- the zero face of the part of f
    z : (e : ℕ) × (e < darts 𝓜) × (p.flat.part (𝓜.tail e) ≡ p.flat.part (𝓜.tail (face_dart p.sound f l).0)) × ZeroFace 𝓜 outer (left 𝓜 e)
    z =
        zero_dart p.sound p.flat.components outer outer_in (p.flat.part (𝓜.tail d.0))
        (p.flat.components.below (𝓜.tail d.0) (p.sound.range.tail_in d.0 d.1))

    root : ℕ
    root = left 𝓜 z.0

    root_in : left 𝓜 z.0 < faces 𝓜
    root_in = left_in p.sound z.0 z.1

    same : face_part p.sound p.flat.components (left 𝓜 z.0) ≡ face_part p.sound p.flat.components f
    same = face_part_left σ κ z.0 z.1 ∙ z.2 ∙ sym (face_part_left σ κ d.0 d.1) ∙ ap (face_part σ κ) d.2

    near : (d : ℕ) → d < darts 𝓜 → Limited 1000000 (difference 𝓜 ρ d)
    near d m = rw (levels.differences d m) at (settings_limited 𝓜 1000000 c x low within d m)
