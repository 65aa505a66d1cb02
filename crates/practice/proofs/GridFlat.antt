-- A grid is connected and flat. The corner before a dart's side names the face at its left: 0 outside, else one more than the number of a cell. The face step
-- keeps that label and every label occurs, so there are enough faces; that there are no more is Euler's bound, which holds of every map.
use mathlib.Core.Path.{◌≡◌, refl, sym, ◌∙◌, ap}
use mathlib.Core.Bool.{Bool, true, false, cond, ◌&&◌}
use Prim.Native.Nat.{ℕ, zero, suc, ◌+◌, ◌*◌, ◌-◌, ◌/◌, ◌%◌, ◌≤◌, ◌<◌}
use native.Mathlib.Omega.{arith}
use native.Mathlib.Decide.{dec_lt}
use native.Mathlib.Nat.{div-add-mod', zero-mul}
use lib.Dec.{ltb}
use Rattle.integers.proofs.Tests.{ltb_true, ltb_lt}
use Rattle.maps.specs.Dart.{rev}
use Rattle.maps.specs.Map.{Map, darts}
use Rattle.maps.specs.Face.{step}
use Rattle.maps.specs.Walk.{Connected, Components}
use Rattle.maps.specs.Flat.{Flat}
use Rattle.maps.proofs.Darts.{rev_in, rev_rev}
use Rattle.maps.proofs.Walks.{connected_components}
use Rattle.maps.proofs.Planar.{euler_at_most}
use Rattle.maps.proofs.Parts.{flat_of}
use Rattle.practice.specs.Side.{turn, next}
use Rattle.practice.specs.declared.Side.{Side}
use Rattle.practice.specs.declared.Side.TheVariants.{North, East, South, West}
use Rattle.practice.specs.Grid.{place_of, present, dart_at, grid_tail, grid_rotation, grid_map}
use Rattle.practice.proofs.Labels.{connected_down, faces_at_least}
use Rattle.practice.proofs.Sides.{back, corner, corners}
use Rattle.practice.proofs.Coordinates.{View, view, place_at, tail_at, rotation-at, dart_in, row_of, present_having, row_above, column_left, one_less}
use Rattle.practice.proofs.Coordinates.{rev_east, rev_west, rev_south, rev_north}
use Rattle.practice.proofs.GridSound.{next_here, grid_sound}

and_one : (b : Bool) (x : ℕ) → cond (b && true) x 0 ≡ cond (true && b) x 0
and_one true x = refl
and_one false x = refl

module _ (R C : ℕ) where
  abbrev G : Map
  G = grid_map R C

  -- ── connected: west, or north from the first column ──
  pub grid_connected : Connected G
  unfolding present
  grid_connected = connected_down G down
    where
      down : (v : ℕ) → 0 < v → v < R * C → (d : ℕ) × (d < darts G) × (grid_tail R C d ≡ v) × (grid_tail R C (rev d) < v)
      down v some l = go (dec_lt 0 (v % C))
        where
          r : ℕ
          r = v / C

          c : ℕ
          c = v % C

          r_in : r < R
          r_in = (row_of C R v l).0

          c_in : c < C
          c_in = (row_of C R v l).1

          whole : r * C + c ≡ v
          whole = div-add-mod' v C

          go : Dec (0 < c) → (d : ℕ) × (d < darts G) × (grid_tail R C d ≡ v) × (grid_tail R C (rev d) < v)
          go (yes h) =
              let p : present R C r c West ≡ true = ltb_true 0 c h in
              let q : present R C r (c - 1) East ≡ true = ltb_true (c - 1 + 1) C (omega (arith, c_in)) in (
                dart_at R C r c West,
                dart_in R C r c r_in c_in West p,
                tail_at R C r c r_in c_in West p ∙ whole,
                rw (rev_west R C r c r_in c_in, tail_at R C r (c - 1) r_in (omega (arith, c_in)) East q) (omega (arith, whole)),
              )
          go (no h) =
              let up : 0 < r = high (dec_lt 0 r) in
              let p : present R C r c North ≡ true = ltb_true 0 r up in
              let q : present R C (r - 1) c South ≡ true = ltb_true (r - 1 + 1) R (omega (arith, r_in)) in (
                dart_at R C r c North,
                dart_in R C r c r_in c_in North p,
                tail_at R C r c r_in c_in North p ∙ whole,
                rw (rev_north R C r c r_in c_in, tail_at R C (r - 1) c (omega (arith, r_in)) c_in South q)
                    (omega (arith, whole, c_in, row_above C r up)),
              )
            where
              high : Dec (0 < r) → 0 < r
              high (yes g) = g
              high (no g) = absurd (omega (arith, whole, zero-mul C, ap (λ x. x * C) none))
                where
                  none : r ≡ 0
                  none = omega arith

  -- ── the label of a dart ──
  -- the cell at the corner between a side and the next one, counted from 1
  unfoldable cell : ℕ → ℕ → Side → ℕ
  cell r c North = (r - 1) * (C - 1) + c + 1
  cell r c East = r * (C - 1) + c + 1
  cell r c South = r * (C - 1) + (c - 1) + 1
  cell r c West = (r - 1) * (C - 1) + (c - 1) + 1

  corner_at : ℕ → ℕ → Side → ℕ
  corner_at r c x = corner (present R C r c) (cell r c) x

  label : ℕ → ℕ
  label d = corner_at (place_of R C d).row (place_of R C d).column (back (place_of R C d).side)

  label_at : (r c : ℕ) → r < R → c < C → (s : Side) → present R C r c s ≡ true → label (dart_at R C r c s) ≡ corner_at r c (back s)
  unfolding label
  label_at r c r_in c_in s h = ap (λ x. corner_at x.row x.column (back x.side)) (place_at R C r c r_in c_in s h)

  -- the corner before a dart's reverse is the corner behind the dart
  label_rev : (r c : ℕ) → r < R → c < C → (s : Side) → present R C r c s ≡ true → label (rev (dart_at R C r c s)) ≡ corner_at r c s
  unfolding present cell corner_at back turn
  label_rev r c r_in c_in East h =
      let l : c + 1 < C = ltb_lt (c + 1) C h in
      ap label (rev_east R C r c r_in c_in)
      ∙ label_at r (c + 1) r_in l West (ltb_true 0 (c + 1) (omega arith))
      ∙ rw (h, ltb_true 0 (c + 1) (omega arith), one_less c) (and_one (ltb (r + 1) R) (r * (C - 1) + c + 1))
  label_rev r c r_in c_in West h =
      let l : 0 < c = ltb_lt 0 c h in
      let m : c - 1 + 1 < C = omega arith in
      ap label (rev_west R C r c r_in c_in)
      ∙ label_at r (c - 1) r_in (omega arith) East (ltb_true (c - 1 + 1) C m)
      ∙ rw (h, ltb_true (c - 1 + 1) C m) (and_one (ltb 0 r) ((r - 1) * (C - 1) + (c - 1) + 1))
  label_rev r c r_in c_in South h =
      let l : r + 1 < R = ltb_lt (r + 1) R h in
      ap label (rev_south R C r c r_in c_in)
      ∙ label_at (r + 1) c l c_in North (ltb_true 0 (r + 1) (omega arith))
      ∙ rw (h, ltb_true 0 (r + 1) (omega arith), one_less r) (and_one (ltb 0 c) (r * (C - 1) + (c - 1) + 1))
  label_rev r c r_in c_in North h =
      let l : 0 < r = ltb_lt 0 r h in
      let m : r - 1 + 1 < R = omega arith in
      ap label (rev_north R C r c r_in c_in)
      ∙ label_at (r - 1) c (omega arith) c_in South (ltb_true (r - 1 + 1) R m)
      ∙ rw (h, ltb_true (r - 1 + 1) R m) (and_one (ltb (c + 1) C) ((r - 1) * (C - 1) + c + 1))

  -- the corner before the next dart is the corner behind this one
  label_next : (r c : ℕ) → r < R → c < C → (s : Side) → present R C r c s ≡ true → label (grid_rotation R C (dart_at R C r c s)) ≡ corner_at r c s
  unfolding corner_at
  label_next r c r_in c_in s h =
      ap label (rotation-at R C r c r_in c_in s h)
      ∙ label_at r c r_in c_in (next (present R C r c) s) (next_here R C r c r_in c_in s h)
      ∙ rw (present_having R C r c) (corners (ltb 0 r) (ltb (c + 1) C) (ltb (r + 1) R) (ltb 0 c) (cell r c) s (rw (present_having R C r c) at h))

  -- so the face step keeps the label
  along_step : (d : ℕ) → d < darts G → label (step G d) ≡ label d
  along_step d l = turned (view R C (rev d) (rev_in G.edges d l))
    where
      turned : View R C (rev d) → label (grid_rotation R C (rev d)) ≡ label d
      turned v =
          ap (λ x. label (grid_rotation R C x)) v.is
          ∙ label_next v.r v.c v.r_in v.c_in v.s v.here
          ∙ sym (label_rev v.r v.c v.r_in v.c_in v.s v.here)
          ∙ ap (λ x. label (rev x)) (sym v.is)
          ∙ ap label (rev_rev d)

  -- each label is some dart's: 0 is that of dart 0, and a cell's is that of the dart that leaves its first corner southwards
  some_dart : ℕ → ℕ
  some_dart zero = dart_at R C 0 0 East
  some_dart (suc f) = dart_at R C (f / (C - 1)) (f % (C - 1)) South

  has_label : 2 ≤ R → 2 ≤ C → (f : ℕ) → f < suc ((R - 1) * (C - 1)) → (some_dart f < darts G) × (label (some_dart f) ≡ f)
  unfolding some_dart present cell corner_at back turn
  has_label hR hC zero l =
      let h : present R C 0 0 East ≡ true = ltb_true (0 + 1) C (omega arith) in
      (dart_in R C 0 0 (omega arith) (omega arith) East h, label_at 0 0 (omega arith) (omega arith) East h)
  has_label hR hC (suc f) l =
      let q = row_of (C - 1) (R - 1) f (omega arith) in
      let n : f % (C - 1) + 1 < C = omega (arith, q.1) in
      let m : f / (C - 1) + 1 < R = omega (arith, q.0) in
      let h : present R C (f / (C - 1)) (f % (C - 1)) South ≡ true = ltb_true (f / (C - 1) + 1) R m in (
        dart_in R C (f / (C - 1)) (f % (C - 1)) (omega arith) (omega arith) South h,
        label_at (f / (C - 1)) (f % (C - 1)) (omega arith) (omega arith) South h
            ∙ rw (ltb_true (f % (C - 1) + 1) C n, h) (omega (arith, div-add-mod' f (C - 1))),
      )

  pub grid_flat : 2 ≤ R → 2 ≤ C → Flat G
  grid_flat hR hC =
      let σ = grid_sound R C hR in
      let nodes : 0 < R * C = omega (arith, row_above C R (omega arith)) in
      let κ : Components G 1 (λ v. 0) = connected_components nodes grid_connected in
      flat_of σ κ
      (omega (
        arith,
        faces_at_least σ label along_step (suc ((R - 1) * (C - 1))) some_dart (has_label hR hC),
        euler_at_most σ κ,
        row_above C R (omega arith),
        row_above (C - 1) R (omega arith),
        column_left (R - 1) C (omega arith),
      ))
