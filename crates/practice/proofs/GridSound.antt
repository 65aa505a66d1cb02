-- A grid is a sound map: its numbers are in range, and the darts at each node are one round.
use mathlib.Core.Path.{◌≡◌, sym, ◌∙◌, ap}
use mathlib.Core.Bool.{Bool, true}
use Prim.Native.Nat.{ℕ, zero, suc, ◌+◌, ◌*◌, ◌/◌, ◌%◌, ◌≤◌, ◌<◌}
use native.Mathlib.Omega.{arith}
use native.Mathlib.Nat.{div-add-mod'}
use native.Mathlib.Decide.{dec_lt}
use lib.Dec.{ltb}
use lib.Arith.{digits_div, digits_mod}
use Rattle.integers.proofs.Tests.{ltb_true}
use Rattle.maps.specs.Orbit.{Orbit, iter}
use Rattle.maps.specs.Map.{Map, darts}
use Rattle.maps.specs.Check.{InRange, Sound}
use Rattle.maps.proofs.Orbits.{iter_zero, iter_suc}
use Rattle.practice.specs.Side.{next}
use Rattle.practice.specs.declared.Side.{Side}
use Rattle.practice.specs.declared.Side.TheVariants.{North, South}
use Rattle.practice.specs.Grid.{place_of, present, dart_at, grid_tail, grid_rotation, grid_map}
use Rattle.practice.proofs.Sides.{next_present, next_apart, one_round, turns}
use Rattle.practice.proofs.Coordinates.{View, view, in_rows, row_of, present_having, place_at, dart_in, tail_at, rotation-at}

module _ (R C : ℕ) where
  -- ── one node ──
  module _ (r c : ℕ) (r_in : r < R) (c_in : c < C) where
    abbrev p : Side → Bool
    p = present R C r c

    pub next_here : (s : Side) → p s ≡ true → p (next p s) ≡ true
    next_here s h = rw (present_having R C r c) (next_present (ltb 0 r) (ltb (c + 1) C) (ltb (r + 1) R) (ltb 0 c) s (rw (present_having R C r c) at h))

    next_one : (s t : Side) → p s ≡ true → p t ≡ true → next p s ≡ next p t → s ≡ t
    next_one s t h g e =
        next_apart (ltb 0 r) (ltb (c + 1) C) (ltb (r + 1) R) (ltb 0 c) s t
        (rw (present_having R C r c) at h) (rw (present_having R C r c) at g) (rw (present_having R C r c) at e)

    -- j steps of the rotation are j turns of the side
    iter_at : (j : ℕ) (s : Side) → p s ≡ true
        → (iter (grid_rotation R C) j (dart_at R C r c s) ≡ dart_at R C r c (turns (next p) j s)) × (p (turns (next p) j s) ≡ true)
    unfolding turns
    iter_at zero s h = (iter_zero (grid_rotation R C) (dart_at R C r c s), h)
    iter_at (suc j) s h =
        let q = iter_at j s h in
        let t = turns (next p) j s in
        (iter_suc (grid_rotation R C) j (dart_at R C r c s) ∙ ap (grid_rotation R C) q.0 ∙ rotation-at R C r c r_in c_in t q.1, next_here t q.1)

    round_at : (s t : Side) → p s ≡ true → p t ≡ true → Orbit (grid_rotation R C) (dart_at R C r c s) (dart_at R C r c t)
    round_at s t h g = (q.0, (iter_at q.0 s h).0 ∙ ap (dart_at R C r c) q.1)
      where
        q : (j : ℕ) × (turns (next p) j s ≡ t)
        q =
            rw (← present_having R C r c) at (one_round (ltb 0 r) (ltb (c + 1) C) (ltb (r + 1) R) (ltb 0 c) s t
            (rw (present_having R C r c) at h) (rw (present_having R C r c) at g))

  -- ── a dart, seen from its node ──
  view_tail : {d : ℕ} (v : View R C d) → grid_tail R C d ≡ v.r * C + v.c
  view_tail v = ap (grid_tail R C) v.is ∙ tail_at R C v.r v.c v.r_in v.c_in v.s v.here

  view_rotation : {d : ℕ} (v : View R C d) → grid_rotation R C d ≡ dart_at R C v.r v.c (next (present R C v.r v.c) v.s)
  view_rotation v = ap (grid_rotation R C) v.is ∙ rotation-at R C v.r v.c v.r_in v.c_in v.s v.here

  view_next : {d : ℕ} (v : View R C d) → present R C v.r v.c (next (present R C v.r v.c) v.s) ≡ true
  view_next v = next_here v.r v.c v.r_in v.c_in v.s v.here

  same_node : (r c r' c' : ℕ) → c < C → c' < C → r * C + c ≡ r' * C + c' → (r ≡ r') × (c ≡ c')
  same_node r c r' c' l l' e =
      (sym (digits_div r l) ∙ ap (λ x. x / C) e ∙ digits_div r' l', sym (digits_mod r l) ∙ ap (λ x. x % C) e ∙ digits_mod r' l')

  abbrev G : Map
  G = grid_map R C

  pub grid_range : InRange G
  grid_range = record {
    tail_in = λ d l. let v = view R C d l in rw (view_tail v) (in_rows C R v.r v.c v.r_in v.c_in);
    rotation_in = λ d l. let v = view R C d l in rw (view_rotation v) (dart_in R C v.r v.c v.r_in v.c_in _ (view_next v));
  }

  -- two darts at one node
  module _ {c d : ℕ} (v : View R C c) (w : View R C d) (e : grid_tail R C c ≡ grid_tail R C d) where
    node : (v.r ≡ w.r) × (v.c ≡ w.c)
    node = same_node v.r v.c w.r w.c v.c_in w.c_in (sym (view_tail v) ∙ e ∙ view_tail w)

    moved_is : d ≡ dart_at R C v.r v.c w.s
    moved_is = rw (node.0, node.1) w.is

    moved_here : present R C v.r v.c w.s ≡ true
    moved_here = rw (node.0, node.1) w.here

    sides_apart : grid_rotation R C c ≡ grid_rotation R C d → c ≡ d
    sides_apart h =
        v.is
        ∙ ap (dart_at R C v.r v.c) (next_one v.r v.c v.r_in v.c_in v.s w.s v.here moved_here sides)
        ∙ sym moved_is
      where
        q : Side → Bool
        q = present R C v.r v.c

        -- the side of the next dart
        after : (s : Side) → q s ≡ true → (place_of R C (dart_at R C v.r v.c (next q s))).side ≡ next q s
        after s g = ap (λ x. x.side) (place_at R C v.r v.c v.r_in v.c_in (next q s) (next_here v.r v.c v.r_in v.c_in s g))

        turned : grid_rotation R C d ≡ dart_at R C v.r v.c (next q w.s)
        turned = ap (grid_rotation R C) moved_is ∙ rotation-at R C v.r v.c v.r_in v.c_in w.s moved_here

        sides : next q v.s ≡ next q w.s
        sides = sym (after v.s v.here) ∙ ap (λ x. (place_of R C x).side) (sym (view_rotation v) ∙ h ∙ turned) ∙ after w.s moved_here

    at_one : Orbit (grid_rotation R C) c d
    at_one = rw (v.is, moved_is) (round_at v.r v.c v.r_in v.c_in v.s w.s v.here moved_here)

  same_tail : (d : ℕ) → d < darts G → grid_tail R C (grid_rotation R C d) ≡ grid_tail R C d
  same_tail d l =
      let v = view R C d l in
      ap (grid_tail R C) (view_rotation v) ∙ tail_at R C v.r v.c v.r_in v.c_in _ (view_next v) ∙ sym (view_tail v)

  injective : (c d : ℕ) → c < darts G → d < darts G → grid_rotation R C c ≡ grid_rotation R C d → c ≡ d
  injective c d lc ld e = sides_apart (view R C c lc) (view R C d ld) (sym (same_tail c lc) ∙ ap (grid_tail R C) e ∙ same_tail d ld) e

  -- with two rows or more, every node has a dart south or north
  pub grid_sound : 2 ≤ R → Sound G
  unfolding present
  grid_sound two = record {
    range = grid_range;
    same_tail = same_tail;
    injective = injective;
    one_round = λ c d lc ld e. at_one (view R C c lc) (view R C d ld) e;
    has_dart = has;
  }
    where
      has : (v : ℕ) → v < R * C → (d : ℕ) × (d < darts G) × (grid_tail R C d ≡ v)
      has v l = go (dec_lt (v / C + 1) R)
        where
          in-grid : (v / C < R) × (v % C < C)
          in-grid = row_of C R v l

          by : (s : Side) → present R C (v / C) (v % C) s ≡ true → (d : ℕ) × (d < darts G) × (grid_tail R C d ≡ v)
          by s h = (
            dart_at R C (v / C) (v % C) s,
            dart_in R C (v / C) (v % C) in-grid.0 in-grid.1 s h,
            tail_at R C (v / C) (v % C) in-grid.0 in-grid.1 s h ∙ div-add-mod' v C,
          )

          go : Dec (v / C + 1 < R) → (d : ℕ) × (d < darts G) × (grid_tail R C d ≡ v)
          go (yes h) = by South (ltb_true (v / C + 1) R h)
          go (no h) = by North (ltb_true 0 (v / C) (omega arith))
