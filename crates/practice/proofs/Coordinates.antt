-- Rows and columns: which dart leaves a node on a side, and that every dart leaves some node on some side.
use mathlib.Core.Path.{◌≡◌, refl, sym, ◌∙◌, ap, fun_ext}
use mathlib.Core.Bool.{true, cond}
use Prim.Native.Nat.{ℕ, zero, suc, ◌+◌, ◌*◌, ◌-◌, ◌/◌, ◌%◌, ◌≤◌, ◌<◌}
use native.Mathlib.Omega.{arith}
use native.Mathlib.Nat.{suc-mul, mul-suc, mul-le-mul_right, mul-zero, div-add-mod', mod-lt, div-lt_iff_lt-mul}
use native.Mathlib.Decide.{dec_lt}
use lib.Dec.{ltb}
use lib.Arith.{digits_div, digits_mod}
use Rattle.integers.proofs.Tests.{eqb_true, eqb_false, ltb_true, ltb_false, ltb_lt}
use Rattle.maps.specs.Dart.{rev}
use Rattle.maps.proofs.Darts.{rev_even, rev_odd, by_edge}
use Rattle.practice.specs.Side.{next}
use Rattle.practice.specs.declared.Side.{Side}
use Rattle.practice.specs.declared.Side.TheVariants.{North, East, South, West}
use Rattle.practice.specs.Grid.{placed, across, grid_edges, beginning, ending, place_of, present, dart_at, node_at, rotation_at, grid_tail, grid_rotation}
use Rattle.practice.proofs.Sides.{having}

pub one_less : (n : ℕ) → n + 1 - 1 ≡ n
one_less n = omega arith

pub one_more : (n : ℕ) → 0 < n → n - 1 + 1 ≡ n
one_more n h = omega arith

-- a row more, and a column more
pub row_above : (w r : ℕ) → 0 < r → r * w ≡ (r - 1) * w + w
row_above w zero l = absurd (omega arith)
row_above w (suc r) l = suc-mul r w ∙ ap (λ x. x * w + w) less
  where
    less : r ≡ suc r - 1
    less = omega arith

pub column_left : (r w : ℕ) → 0 < w → r * w ≡ r * (w - 1) + r
column_left r zero l = absurd (omega arith)
column_left r (suc w) l = mul-suc r w ∙ ap (λ x. r * x + r) less
  where
    less : w ≡ suc w - 1
    less = omega arith

-- place c of row r is one of n rows of w places
pub in_rows : (w n r c : ℕ) → r < n → c < w → r * w + c < n * w
in_rows w n r c lr lc = let l : suc r ≤ n = omega arith in omega (arith, suc-mul r w, mul-le-mul_right w l)

-- and each of n * w places is one of some row
pub row_of : (w n i : ℕ) → i < n * w → (i / w < n) × (i % w < w)
row_of w n i l = ((div-lt_iff_lt-mul some).1 l, mod-lt i some)
  where
    some : 0 < w
    some = go w l
      where
        go : (w : ℕ) → i < n * w → 0 < w
        go zero m = absurd (omega (arith, mul-zero n))
        go (suc w) m = omega arith

module _ (R C : ℕ) where
  pub place_even : (e : ℕ) → place_of R C (2 * e) ≡ beginning R C e
  unfolding place_of
  place_even e = rw (eqb_true (2 * e % 2) 0 (omega arith)) (ap (beginning R C) half)
    where
      half : 2 * e / 2 ≡ e
      half = omega arith

  pub place_odd : (e : ℕ) → place_of R C (2 * e + 1) ≡ ending R C e
  unfolding place_of
  place_odd e = rw (eqb_false ((2 * e + 1) % 2) 0 (omega arith)) (ap (ending R C) half)
    where
      half : (2 * e + 1) / 2 ≡ e
      half = omega arith

  -- ── the edge east of row r and column c, and the one south of it ──
  module _ (r c : ℕ) where
    pub begins_east : r < R → c < C - 1 → beginning R C (r * (C - 1) + c) ≡ placed r c East
    unfolding beginning
    begins_east lr lc = rw (ltb_true (r * (C - 1) + c) (R * (C - 1)) (in_rows (C - 1) R r c lr lc), digits_div r lc, digits_mod r lc)

    pub ends_west : r < R → c < C - 1 → ending R C (r * (C - 1) + c) ≡ placed r (c + 1) West
    unfolding ending
    ends_west lr lc = rw (ltb_true (r * (C - 1) + c) (R * (C - 1)) (in_rows (C - 1) R r c lr lc), digits_div r lc, digits_mod r lc)

    rest : R * (C - 1) + (r * C + c) - R * (C - 1) ≡ r * C + c
    rest = omega arith

    pub begins_south : c < C → beginning R C (across R C + (r * C + c)) ≡ placed r c South
    unfolding beginning
    begins_south lc = rw (ltb_false (R * (C - 1) + (r * C + c)) (R * (C - 1)) (omega arith), rest, digits_div r lc, digits_mod r lc)

    pub ends_north : c < C → ending R C (across R C + (r * C + c)) ≡ placed (r + 1) c North
    unfolding ending
    ends_north lc = rw (ltb_false (R * (C - 1) + (r * C + c)) (R * (C - 1)) (omega arith), rest, digits_div r lc, digits_mod r lc)

  pub present_having : (r c : ℕ) → present R C r c ≡ having (ltb 0 r) (ltb (c + 1) C) (ltb (r + 1) R) (ltb 0 c)
  unfolding present having
  present_having r c = fun_ext go
    where
      go : (s : Side) → present R C r c s ≡ having (ltb 0 r) (ltb (c + 1) C) (ltb (r + 1) R) (ltb 0 c) s
      go North = refl
      go East = refl
      go South = refl
      go West = refl

  -- ── the dart that leaves a node on a side ──
  module _ (r c : ℕ) (r_in : r < R) (c_in : c < C) where
    pub place_at : (s : Side) → present R C r c s ≡ true → place_of R C (dart_at R C r c s) ≡ placed r c s
    unfolding present dart_at
    place_at North h =
        let l : 0 < r = ltb_lt 0 r h in
        place_odd (across R C + ((r - 1) * C + c)) ∙ ends_north (r - 1) c c_in ∙ ap (λ x. placed x c North) (one_more r l)
    place_at East h =
        let l : c + 1 < C = ltb_lt (c + 1) C h in
        place_even (r * (C - 1) + c) ∙ begins_east r c r_in (omega arith)
    place_at South h = place_even (across R C + (r * C + c)) ∙ begins_south r c c_in
    place_at West h =
        let l : 0 < c = ltb_lt 0 c h in
        place_odd (r * (C - 1) + (c - 1)) ∙ ends_west r (c - 1) r_in (omega arith) ∙ ap (λ x. placed r x West) (one_more c l)

    pub dart_in : (s : Side) → present R C r c s ≡ true → dart_at R C r c s < 2 * grid_edges R C
    unfolding present dart_at
    dart_in North h = let l : 0 < r = ltb_lt 0 r h in omega (arith, in_rows C (R - 1) (r - 1) c (omega arith) c_in)
    dart_in East h = let l : c + 1 < C = ltb_lt (c + 1) C h in omega (arith, in_rows (C - 1) R r c r_in (omega arith))
    dart_in South h = let l : r + 1 < R = ltb_lt (r + 1) R h in omega (arith, in_rows C (R - 1) r c (omega arith) c_in)
    dart_in West h = let l : 0 < c = ltb_lt 0 c h in omega (arith, in_rows (C - 1) R r (c - 1) r_in (omega arith))

    pub tail_at : (s : Side) → present R C r c s ≡ true → grid_tail R C (dart_at R C r c s) ≡ r * C + c
    unfolding grid_tail
    tail_at s h =
        ap (λ b. cond b (node_at R C (place_of R C (dart_at R C r c s))) 0) (ltb_true (dart_at R C r c s) (2 * grid_edges R C) (dart_in s h))
        ∙ ap (node_at R C) (place_at s h)

    pub rotation-at : (s : Side) → present R C r c s ≡ true → grid_rotation R C (dart_at R C r c s) ≡ dart_at R C r c (next (present R C r c) s)
    unfolding grid_rotation
    rotation-at s h =
        ap (λ b. cond b (rotation_at R C (place_of R C (dart_at R C r c s))) 0) (ltb_true (dart_at R C r c s) (2 * grid_edges R C) (dart_in s h))
        ∙ ap (rotation_at R C) (place_at s h)

    -- its reverse leaves the neighbour on the other side
    pub rev_east : rev (dart_at R C r c East) ≡ dart_at R C r (c + 1) West
    unfolding dart_at
    rev_east = rev_even (r * (C - 1) + c) ∙ ap (λ x. 2 * (r * (C - 1) + x) + 1) (sym (one_less c))

    pub rev_west : rev (dart_at R C r c West) ≡ dart_at R C r (c - 1) East
    unfolding dart_at
    rev_west = rev_odd (r * (C - 1) + (c - 1))

    pub rev_south : rev (dart_at R C r c South) ≡ dart_at R C (r + 1) c North
    unfolding dart_at
    rev_south = rev_even (across R C + (r * C + c)) ∙ ap (λ x. 2 * (across R C + (x * C + c)) + 1) (sym (one_less r))

    pub rev_north : rev (dart_at R C r c North) ≡ dart_at R C (r - 1) c South
    unfolding dart_at
    rev_north = rev_odd (across R C + ((r - 1) * C + c))

-- ── every dart leaves some node on some side ──
pub record View (R C d : ℕ) : Type 0 where
  pub r : ℕ
  pub c : ℕ
  pub s : Side
  pub r_in : r < R
  pub c_in : c < C
  pub here : present R C r c s ≡ true
  pub is : d ≡ dart_at R C r c s

module _ (R C : ℕ) where
  view_across : (e : ℕ) → e < R * (C - 1) → View R C (2 * e) × View R C (2 * e + 1)
  unfolding present dart_at
  view_across e l =
      let q = row_of (C - 1) R e l in
      let whole = div-add-mod' e (C - 1) in (
        record {
          r = e / (C - 1);
          c = e % (C - 1);
          s = East;
          r_in = q.0;
          c_in = omega (arith, q.1);
          here = ltb_true (e % (C - 1) + 1) C (omega (arith, q.1));
          is = ap (λ x. 2 * x) (sym whole);
        },
        record {
          r = e / (C - 1);
          c = e % (C - 1) + 1;
          s = West;
          r_in = q.0;
          c_in = omega (arith, q.1);
          here = ltb_true 0 (e % (C - 1) + 1) (omega arith);
          is = ap (λ x. 2 * x + 1) (sym whole) ∙ ap (λ x. 2 * (e / (C - 1) * (C - 1) + x) + 1) (sym (one_less (e % (C - 1))));
        },
      )

  view_down : (e : ℕ) → e < (R - 1) * C → View R C (2 * (across R C + e)) × View R C (2 * (across R C + e) + 1)
  unfolding present dart_at
  view_down e l =
      let q = row_of C (R - 1) e l in
      let whole = div-add-mod' e C in (
        record {
          r = e / C;
          c = e % C;
          s = South;
          r_in = omega (arith, q.0);
          c_in = q.1;
          here = ltb_true (e / C + 1) R (omega (arith, q.0));
          is = ap (λ x. 2 * (across R C + x)) (sym whole);
        },
        record {
          r = e / C + 1;
          c = e % C;
          s = North;
          r_in = omega (arith, q.0);
          c_in = q.1;
          here = ltb_true 0 (e / C + 1) (omega arith);
          is = ap (λ x. 2 * (across R C + x) + 1) (sym whole) ∙ ap (λ x. 2 * (across R C + (x * C + e % C)) + 1) (sym (one_less (e / C)));
        },
      )

  pub view : (d : ℕ) → d < 2 * grid_edges R C → View R C d
  view = by_edge (grid_edges R C) (View R C) (λ e l. (go e l (dec_lt e (R * (C - 1)))).0) (λ e l. (go e l (dec_lt e (R * (C - 1)))).1)
    where
      go : (e : ℕ) → e < grid_edges R C → Dec (e < R * (C - 1)) → View R C (2 * e) × View R C (2 * e + 1)
      go e l (yes h) = view_across e h
      go e l (no h) = rw same at (view_down (e - R * (C - 1)) (omega arith))
        where
          same : across R C + (e - R * (C - 1)) ≡ e
          same = omega arith
