-- A drawing that is fit is one that a question can be put to: plane, its limits of limited size.
use mathlib.Core.Path.{◌≡◌}
use Prim.Native.Nat.{ℕ, ◌+◌, ◌*◌, ◌<◌}
use native.Mathlib.Omega.{arith}
use lib.IntN.{ℤ, pos, ◌+ℤ◌}
use lib.Signed.{◌≤ℤ◌}
use Rattle.integers.specs.inner.Limited.{Limited}
use Rattle.integers.proofs.Omega.{atoms₂, parts, at_most, from_at_most}
use Rattle.maps.specs.Dart.{rev}
use Rattle.maps.specs.Map.{darts}
use Rattle.maps.specs.Drawing.{Drawing}
use Rattle.maps.specs.Face.{faces, left}
use Rattle.maps.proofs.Darts.{by_edge, rev_even, rev_odd}
use Rattle.flows.specs.inner.Plane.{Plane}
use Rattle.arrays.specs.inner.Sizes.{most_capacity}
use Rattle.arrays.specs.inner.Drawn.{Drawn}
use Rattle.rotations.proofs.Accepted.{accepted}
use Rattle.sessions.specs.Fit.{PairFits, LimitsFit, Fit}

-- two limits that fit are of limited size, each of them
pair_forward : (x y : ℤ) → PairFits x y → Limited most_capacity x
pair_forward x y h = let a = atoms₂ x y in record {
  low = at_most (search parts) (omega (arith, from_at_most h.1 (search parts), from_at_most h.2 (search parts)));
  high = h.0;
}

pair_back : (x y : ℤ) → PairFits x y → Limited most_capacity y
pair_back x y h = let a = atoms₂ x y in record {
  low = at_most (search parts) (omega (arith, from_at_most h.0 (search parts), from_at_most h.2 (search parts)));
  high = h.1;
}

swapped : (x y : ℤ) → pos 0 ≤ℤ (x +ℤ y) → pos 0 ≤ℤ (y +ℤ x)
swapped x y h = let a = atoms₂ x y in at_most (search parts) (omega (arith, from_at_most h (search parts)))

module _ (edges : ℕ) (c : ℕ → ℤ) (fits : LimitsFit edges c) where
  pub limits_small : (d : ℕ) → d < 2 * edges → Limited most_capacity (c d)
  limits_small = by_edge edges (λ d. Limited most_capacity (c d)) (λ e l. pair_forward _ _ (fits e l)) (λ e l. pair_back _ _ (fits e l))

  pub limits_paired : (d : ℕ) → d < 2 * edges → pos 0 ≤ℤ (c d +ℤ c (rev d))
  limits_paired =
      by_edge edges (λ d. pos 0 ≤ℤ (c d +ℤ c (rev d))) (λ e l. rw (rev_even e) (fits e l).2)
      (λ e l. rw (rev_odd e) (swapped (c (2 * e)) (c (2 * e + 1)) (fits e l).2))

module _ (𝓓 : Drawing) (fit : Fit 𝓓) where
  pub fit_plane : Plane 𝓓.map
  fit_plane =
      let b = fit.bounds in
      let a = accepted b.range fit.passes in
      record { sound = a.0; flat = a.1; some = omega (arith, b.range.tail_in 𝓓.outer b.outer_in) }

  pub fit_drawn : (left' : ℕ → ℕ) (count : ℕ) → ((d : ℕ) → d < darts 𝓓.map → left' d ≡ left 𝓓.map d) → count ≡ faces 𝓓.map
      → Drawn 𝓓.map left' count 𝓓.outer 𝓓.capacity
  fit_drawn left' count lefts counted = record {
    plane = fit_plane;
    few_nodes = fit.bounds.few_nodes;
    few_edges = fit.bounds.few_edges;
    left_is = lefts;
    counted = counted;
    outer_in = fit.bounds.outer_in;
    small = limits_small 𝓓.map.edges 𝓓.capacity fit.bounds.limits;
    pairs = limits_paired 𝓓.map.edges 𝓓.capacity fit.bounds.limits;
  }
