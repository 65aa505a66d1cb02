-- A ring of faces of negative total length yields a set of nodes whose cut is negative. The ring crosses each dart a number of times; forth minus back is zero
-- around every face, so by the planar theorem it is a difference of heights of the nodes; a dart crossed both ways only adds to the total; layer cake.
use mathlib.Core.Path.{◌≡◌, refl, sym, ◌∙◌, ap, ap₂}
use mathlib.Core.Bool.{Bool, true, false, cond}
use Prim.Native.Nat.{ℕ, ◌+◌, ◌*◌, ◌-◌, ◌<◌, min}
use native.Mathlib.Omega.{arith}
use lib.Dec.{eqb}
use lib.IntN.{ℤ, pos, ◌+ℤ◌, ◌-ℤ◌, ◌*ℤ◌, +ℤ_invr}
use lib.Signed.{◌≤ℤ◌, ◌<ℤ◌}
use Rattle.integers.specs.Sum.{Integers, sumℤ, when, bit}
use Rattle.integers.proofs.Omega.{literal, added, negated, atoms₁, atoms₂, atoms₃, parts, positive, positive_is, equal, at_most, less, from_less, from_at_most}
use Rattle.integers.proofs.Laws.{neg_sub, mul_le}
use Rattle.integers.proofs.Sums.{sum_ext, sum_nil, sum_add, sum_pick, sum_pairs}
use Rattle.integers.proofs.IntegerSums.{sum_le, sum_sub, when_zero}
use Rattle.maps.specs.Dart.{rev}
use Rattle.maps.specs.Map.{Map, darts, head}
use Rattle.maps.specs.Face.{left, right}
use Rattle.maps.specs.Walk.{Components}
use Rattle.maps.specs.Flat.{FlatInEach}
use Rattle.maps.specs.Check.{Sound}
use Rattle.maps.specs.Flow.{Antisymmetric}
use Rattle.maps.specs.Potential.{around, Heights}
use Rattle.maps.specs.Cut.{cut}
use Rattle.maps.specs.inner.FaceWalk.{FaceWalk, stay, cross, total}
use Rattle.maps.proofs.Darts.{rev_even, rev_odd, rev_rev, rev_in, eqb_rev}
use Rattle.maps.proofs.Planar.{tension_heights}
use Rattle.maps.proofs.LayerCake.{above, threshold}

-- one crossing of d comes into the face left of d, out of the face right of it
one_cross : (𝓜 : Map) (d : ℕ) → d < darts 𝓜 → (x : ℕ)
    → sumℤ (darts 𝓜) (λ i. when (eqb x (left 𝓜 i)) (pos (bit (eqb i d)) -ℤ pos (bit (eqb (rev i) d))))
    ≡ when (eqb x (left 𝓜 d)) (pos 1) -ℤ when (eqb x (right 𝓜 d)) (pos 1)
one_cross 𝓜 d l x =
    sum_ext Integers (darts 𝓜) (λ i. when (eqb x (left 𝓜 i)) (pos (bit (eqb i d)) -ℤ pos (bit (eqb (rev i) d))))
    (λ i. cond (eqb i d) (unit i) (pos 0) -ℤ cond (eqb i (rev d)) (unit i) (pos 0))
    (λ i m. ap (λ t. when (eqb x (left 𝓜 i)) (pos (bit (eqb i d)) -ℤ pos (bit t))) (eqb_rev i d) ∙ split (eqb x (left 𝓜 i)) (eqb i d) (eqb i (rev d)))
    ∙ sum_sub (darts 𝓜) (λ i. cond (eqb i d) (unit i) (pos 0)) (λ i. cond (eqb i (rev d)) (unit i) (pos 0))
    ∙ ap₂ ◌-ℤ◌ (sum_pick Integers (darts 𝓜) d unit l) (sum_pick Integers (darts 𝓜) (rev d) unit (rev_in 𝓜.edges d l))
  where
    unit : ℕ → ℤ
    unit i = when (eqb x (left 𝓜 i)) (pos 1)

    split : (t p q : Bool) → when t (pos (bit p) -ℤ pos (bit q)) ≡ cond p (when t (pos 1)) (pos 0) -ℤ cond q (when t (pos 1)) (pos 0)
    split true true true = refl
    split true true false = refl
    split true false true = refl
    split true false false = refl
    split false true true = refl
    split false true false = refl
    split false false true = refl
    split false false false = refl

module _ {𝓜 : Map} where
  -- how often a walk crosses the dart i
  unfoldable pub times : {f g : ℕ} → FaceWalk 𝓜 f g → ℕ → ℕ
  times stay i = 0
  times (cross d l e w) i = bit (eqb i d) + times w i

  -- forth minus back
  unfoldable pub winding : {f g : ℕ} → FaceWalk 𝓜 f g → ℕ → ℤ
  winding w i = pos (times w i) -ℤ pos (times w (rev i))

  winding_antisymmetric : {f g : ℕ} (w : FaceWalk 𝓜 f g) → Antisymmetric 𝓜 (winding w)
  unfolding winding
  winding_antisymmetric w i l = ap (λ x. pos (times w (rev i)) -ℤ pos (times w x)) (rev_rev i) ∙ sym (neg_sub (pos (times w i)) (pos (times w (rev i))))

  -- the total length counts each dart as often as it is crossed
  total_times : (length : ℕ → ℤ) {f g : ℕ} (w : FaceWalk 𝓜 f g) → total length w ≡ sumℤ (darts 𝓜) (λ i. pos (times w i) *ℤ length i)
  unfolding total times
  total_times length stay = sym (sum_nil Integers (darts 𝓜) (λ i. pos 0 *ℤ length i) (λ i l. none (length i)))
    where
      none : (x : ℤ) → pos 0 *ℤ x ≡ pos 0
      none x = let a = atoms₁ x in equal (search parts) (omega arith)
  total_times length (cross d l e w) =
      ap₂ ◌+ℤ◌ (sym (sum_pick Integers (darts 𝓜) d length l)) (total_times length w)
      ∙ sym (sum_add Integers (darts 𝓜) (λ i. cond (eqb i d) (length i) (pos 0)) (λ i. pos (times w i) *ℤ length i))
      ∙ sum_ext Integers (darts 𝓜) (λ i. cond (eqb i d) (length i) (pos 0) +ℤ pos (times w i) *ℤ length i)
      (λ i. pos (bit (eqb i d) + times w i) *ℤ length i) (λ i m. once (eqb i d) (times w i) (length i))
    where
      once : (t : Bool) (k : ℕ) (x : ℤ) → cond t x (pos 0) +ℤ pos k *ℤ x ≡ pos (bit t + k) *ℤ x
      once true k x = let a = atoms₁ x in equal (search parts) (omega arith)
      once false k x = let a = atoms₁ x in equal (search parts) (omega arith)

  -- ── around a face, a walk comes in as often as it goes out, but at its two ends ──
  winding_around : {f g : ℕ} (w : FaceWalk 𝓜 f g) (x : ℕ) → around 𝓜 (winding w) x ≡ when (eqb x g) (pos 1) -ℤ when (eqb x f) (pos 1)
  unfolding around winding times
  winding_around (stay {f = f}) x =
      sum_nil Integers (darts 𝓜) (λ i. when (eqb x (left 𝓜 i)) (pos 0)) (λ i l. when_zero (eqb x (left 𝓜 i))) ∙ sym (+ℤ_invr (when (eqb x f) (pos 1)))
  winding_around (cross {f = f} {g = g} d l e w) x =
      sum_ext Integers (darts 𝓜)
      (λ i. when (eqb x (left 𝓜 i)) (pos (bit (eqb i d) + times w i) -ℤ pos (bit (eqb (rev i) d) + times w (rev i))))
      (λ i. when (eqb x (left 𝓜 i)) (pos (bit (eqb i d)) -ℤ pos (bit (eqb (rev i) d))) +ℤ when (eqb x (left 𝓜 i)) (pos (times w i) -ℤ pos (times w (rev i))))
      (λ i m. split (eqb x (left 𝓜 i)) (bit (eqb i d)) (times w i) (bit (eqb (rev i) d)) (times w (rev i)))
      ∙ sum_add Integers (darts 𝓜) (λ i. when (eqb x (left 𝓜 i)) (pos (bit (eqb i d)) -ℤ pos (bit (eqb (rev i) d))))
      (λ i. when (eqb x (left 𝓜 i)) (pos (times w i) -ℤ pos (times w (rev i))))
      ∙ ap₂ ◌+ℤ◌ (one_cross 𝓜 d l x) (winding_around w x)
      ∙ (let a = atoms₃ (when (eqb x (left 𝓜 d)) (pos 1)) (when (eqb x (right 𝓜 d)) (pos 1)) (when (eqb x g) (pos 1)) in equal (search parts) (omega arith))
      ∙ ap (λ y. when (eqb x g) (pos 1) -ℤ when (eqb x y) (pos 1)) e
    where
      split : (t : Bool) (p q r s : ℕ) → when t (pos (p + q) -ℤ pos (r + s)) ≡ when t (pos p -ℤ pos r) +ℤ when t (pos q -ℤ pos s)
      split true p q r s = equal (search parts) (omega arith)
      split false p q r s = refl

-- ── the theorem ──
module _ {𝓜 : Map} (σ : Sound 𝓜) {k : ℕ} {part : ℕ → ℕ} (κ : Components 𝓜 k part) (flat : FlatInEach 𝓜 k part) where
  -- a ring's winding is a difference of heights
  pub ring_heights : {f : ℕ} (w : FaceWalk 𝓜 f f) → (h : ℕ → ℤ) × Heights 𝓜 (winding w) h
  ring_heights {f} w = tension_heights σ κ flat (winding w) (winding_antisymmetric w) (λ x l. winding_around w x ∙ +ℤ_invr (when (eqb x f) (pos 1)))

-- lengths of the two darts of an edge add to zero or more: what is crossed both ways may be left out
cancelled : (x y : ℕ) (l m : ℤ) → pos 0 ≤ℤ (l +ℤ m) → (pos (x - y) *ℤ l +ℤ pos (y - x) *ℤ m) ≤ℤ (pos x *ℤ l +ℤ pos y *ℤ m)
cancelled x y l m h =
    rw (ap pos whole_x, ap pos whole_y)
    (let a = atoms₂ l m in at_most (search parts) (omega (arith, from_at_most (mul_le (min x y) h) (search parts))))
  where
    whole_x : x ≡ (x - y) + min x y
    whole_x = omega arith

    whole_y : y ≡ (y - x) + min x y
    whole_y = omega arith

-- for any heights of the winding some threshold set has a negative cut
pub ring_threshold : {𝓜 : Map} → Sound 𝓜 → (length : ℕ → ℤ) → ((d : ℕ) → d < darts 𝓜 → pos 0 ≤ℤ (length d +ℤ length (rev d)))
    → {f : ℕ} (w : FaceWalk 𝓜 f f) → total length w <ℤ pos 0 → (h : ℕ → ℤ) → Heights 𝓜 (winding w) h → (θ : ℤ) × (cut 𝓜 length (above h θ) <ℤ pos 0)
unfolding winding
ring_threshold {𝓜} σ length pairs w short h heights = threshold 𝓜 length σ.range h (less_by (rw (total_times length w) at short))
  where
    drop : ℕ → ℤ
    drop d = pos (positive (h (𝓜.tail d) -ℤ h (head 𝓜 d))) *ℤ length d

    crossed : ℕ → ℤ
    crossed d = pos (times w d) *ℤ length d

    drop_is : (d : ℕ) → d < darts 𝓜 → drop d ≡ pos (times w d - times w (rev d)) *ℤ length d
    drop_is d l =
        ap (λ x. pos (positive x) *ℤ length d) (sym (heights d l))
        ∙ ap (λ x. pos x *ℤ length d) (positive_is (added (literal (times w d)) (negated (literal (times w (rev d))))) ∙ omega arith)

    by_edge_le : (e : ℕ) → e < 𝓜.edges → (drop (2 * e) +ℤ drop (2 * e + 1)) ≤ℤ (crossed (2 * e) +ℤ crossed (2 * e + 1))
    by_edge_le e l =
        rw (
          drop_is (2 * e) (omega arith) ∙ ap (λ x. pos (times w (2 * e) - times w x) *ℤ length (2 * e)) (rev_even e),
          drop_is (2 * e + 1) (omega arith) ∙ ap (λ x. pos (times w (2 * e + 1) - times w x) *ℤ length (2 * e + 1)) (rev_odd e),
        )
        (cancelled (times w (2 * e)) (times w (2 * e + 1)) (length (2 * e)) (length (2 * e + 1)) (rw (rev_even e) at (pairs (2 * e) (omega arith))))

    less_by : sumℤ (darts 𝓜) crossed <ℤ pos 0 → sumℤ (darts 𝓜) drop <ℤ pos 0
    less_by s =
        let le = sum_le 𝓜.edges (λ e. drop (2 * e) +ℤ drop (2 * e + 1)) (λ e. crossed (2 * e) +ℤ crossed (2 * e + 1)) by_edge_le in
        rw (sum_pairs Integers 𝓜.edges drop)
        (let a = atoms₂ (sumℤ 𝓜.edges (λ e. drop (2 * e) +ℤ drop (2 * e + 1))) (sumℤ 𝓜.edges (λ e. crossed (2 * e) +ℤ crossed (2 * e + 1))) in
        less (search parts) (omega (arith, from_at_most le (search parts), from_less (rw (sum_pairs Integers 𝓜.edges crossed) at s) (search parts))))

-- so a ring of negative total length yields a set of nodes with a negative cut
pub ring_cut : {𝓜 : Map} → Sound 𝓜 → {k : ℕ} {part : ℕ → ℕ} → Components 𝓜 k part → FlatInEach 𝓜 k part
    → (length : ℕ → ℤ) → ((d : ℕ) → d < darts 𝓜 → pos 0 ≤ℤ (length d +ℤ length (rev d)))
    → {f : ℕ} (w : FaceWalk 𝓜 f f) → total length w <ℤ pos 0 → (h : ℕ → ℤ) × (θ : ℤ) × (cut 𝓜 length (above h θ) <ℤ pos 0)
ring_cut σ κ flat length pairs w short =
    let heights = ring_heights σ κ flat w in
    let r = ring_threshold σ length pairs w short heights.0 heights.1 in
    (heights.0, r.0, r.1)
