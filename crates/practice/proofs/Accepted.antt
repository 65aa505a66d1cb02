-- The sheet of every grid of 2 to 16 rows and columns passes all sheet checks, whatever the seed.
use mathlib.Core.Path.{◌≡◌, refl, sym, ap, subst}
use mathlib.Core.Logic.{inl, inr}
use Prim.Native.Nat.{ℕ, suc, ◌+◌, ◌*◌, ◌-◌, ◌/◌, ◌%◌, ◌≤◌, ◌<◌}
use native.Mathlib.Omega.{arith}
use native.Mathlib.Nat.{mul-le-mul_right, mod-lt}
use lib.Dec.{ltb→lt}
use lib.IntN.{pos, ◌+ℤ◌}
use lib.Signed.{◌<ℤ◌}
use Rattle.integers.proofs.Tests.{eqb_true, eqb_false, ltb_true, ltb_false}
use Rattle.refusals.specs.Order.{NoneOf}
use Rattle.refusals.proofs.Order.{none_append, neither}
use Rattle.maps.specs.Drawing.{Drawing}
use Rattle.rotations.specs.MapChecks.{map_checks}
use Rattle.rotations.proofs.Accepted.{passes}
use Rattle.records.specs.Check.{CapacityOutside, number_checks, field_checks, edge_checks}
use Rattle.records.specs.Sheet.{sheet_map, sheet_drawing, byte_checks}
use Rattle.records.specs.Encode.{encode_plain}
use Rattle.records.proofs.Encodable.{ZeroPast, Encodable, encodable_of_checks}
use Rattle.records.proofs.EncodeAccepted.{plain_accepted}
use Rattle.records.proofs.Decode.{sheet_encode_plain}
use Rattle.sheets.specs.Open.{sheet_checks}
use Rattle.practice.specs.Grid.{grid_nodes, grid_edges, grid_tail, grid_rotation}
use Rattle.practice.specs.Seed.{capacity_from, state_after, forward_of}
use Rattle.practice.specs.Practice.{grid_capacity, grid_drawing}
use Rattle.practice.proofs.GridSound.{grid_range, grid_sound}
use Rattle.practice.proofs.GridFlat.{grid_flat}

-- ── capacities from 0 to 99 ──
pub forward_small : (seed e : ℕ) → forward_of seed e < 100
unfolding forward_of capacity_from
forward_small seed e = mod-lt (state_after seed (suc e) / 65536) (omega arith)

small_inside : (n : ℕ) → n < 100 → CapacityOutside (pos n) → ⊥
small_inside n l (inl h) = h.lt
small_inside n l (inr h) = omega (arith, ltb→lt 1000000 n h.lt)

none_below : (n : ℕ) → (pos n +ℤ pos 0) <ℤ pos 0 → ⊥
none_below n h = omega (arith, ltb→lt (n + 0) 0 h.lt)

module _ (R C seed : ℕ) where
  -- the two capacities of an edge
  pub forward_is : (e : ℕ) → e < grid_edges R C → grid_capacity R C seed (2 * e) ≡ pos (forward_of seed e)
  unfolding grid_capacity
  forward_is e l = rw (ltb_true (2 * e) (2 * grid_edges R C) (omega arith), eqb_true (2 * e % 2) 0 (omega arith)) (ap (λ x. pos (forward_of seed x)) half)
    where
      half : 2 * e / 2 ≡ e
      half = omega arith

  pub backward_is : (e : ℕ) → e < grid_edges R C → grid_capacity R C seed (2 * e + 1) ≡ pos 0
  unfolding grid_capacity
  backward_is e l = rw (ltb_true (2 * e + 1) (2 * grid_edges R C) (omega arith), eqb_false ((2 * e + 1) % 2) 0 (omega arith))

  -- ── zero past the darts ──
  zero_past : ZeroPast (grid_drawing R C seed)
  unfolding grid_tail grid_rotation grid_capacity
  zero_past = record {
    tail_zero = λ d h. rw (ltb_false d (2 * grid_edges R C) h);
    rotation_zero = λ d h. rw (ltb_false d (2 * grid_edges R C) h);
    capacity_zero = λ d h. rw (ltb_false d (2 * grid_edges R C) h);
  }

  -- ── 4 to 7 ──
  edge_passes : (e : ℕ) → e < grid_edges R C → NoneOf (edge_checks (grid_drawing R C seed) e)
  unfolding NoneOf edge_checks field_checks
  edge_passes e l =
      let range = grid_range R C in (
        neither (λ h. omega (arith, range.tail_in (2 * e) (omega arith))) (λ h. omega (arith, range.tail_in (2 * e + 1) (omega arith))),
        (
          neither (λ h. omega (arith, range.rotation_in (2 * e) (omega arith))) (λ h. omega (arith, range.rotation_in (2 * e + 1) (omega arith))),
          (
            neither
                (rw (forward_is e l) (small_inside (forward_of seed e) (forward_small seed e)))
                (rw (backward_is e l) (small_inside 0 (omega arith))),
            (rw (forward_is e l, backward_is e l) (none_below (forward_of seed e)), tt),
          ),
        ),
      )

-- ── the counts ──
pub few_edges : (R C : ℕ) → R ≤ 16 → C ≤ 16 → grid_edges R C ≤ 480
few_edges R C r-high c-high =
    let below : R - 1 ≤ 15 = omega arith in
    omega (arith, mul-le-mul_right (C - 1) r-high, mul-le-mul_right C below)

module _ (R C : ℕ) (r-low : 2 ≤ R) (r-high : R ≤ 16) (c-low : 2 ≤ C) (c-high : C ≤ 16) where
  -- 4 to 256 nodes, 4 to 480 edges
  pub few : (4 ≤ grid_nodes R C) × (grid_nodes R C ≤ 256) × (4 ≤ grid_edges R C) × (grid_edges R C ≤ 480)
  few =
      let below : 1 ≤ R - 1 = omega arith in (
        omega (arith, mul-le-mul_right C r-low),
        omega (arith, mul-le-mul_right C r-high),
        omega (arith, mul-le-mul_right (C - 1) r-low, mul-le-mul_right C below),
        few_edges R C r-high c-high,
      )

  numbers_pass : NoneOf (number_checks (grid_nodes R C) (grid_edges R C) 0)
  unfolding NoneOf number_checks
  numbers_pass =
      let f = few in (
        neither (neither (λ h. omega (arith, f.0)) (λ h. omega (arith, f.1))) (neither (λ h. omega (arith, f.2)) (λ h. omega (arith, f.3))),
        ((λ h. omega (arith, f.2)), tt),
      )

  -- ── all sheet checks ──
  module _ (seed : ℕ) where
    abbrev 𝓓 : Drawing
    𝓓 = grid_drawing R C seed

    fits : Encodable 𝓓
    fits = encodable_of_checks 𝓓 numbers_pass (edge_passes R C seed) (zero_past R C seed)

    pub grid_read : sheet_drawing (encode_plain 𝓓) ≡ 𝓓
    grid_read = sheet_encode_plain 𝓓 fits refl

    pub grid_accepted : NoneOf (sheet_checks (encode_plain 𝓓))
    unfolding sheet_checks
    grid_accepted =
        none_append (byte_checks (encode_plain 𝓓)) (map_checks (sheet_map (encode_plain 𝓓)))
        (plain_accepted 𝓓 fits refl numbers_pass (edge_passes R C seed))
        (subst (λ 𝓔. NoneOf (map_checks 𝓔.map)) (sym grid_read) (passes (grid_sound R C r-low) (grid_flat R C r-low c-low)))
