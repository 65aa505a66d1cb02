-- Settled potentials make flows that fit: potentials are near, and the flow of an edge lies between its two capacities.
use mathlib.Core.Path.{◌≡◌, ◌∙◌, ap}
use Prim.Native.Nat.{ℕ, ◌+◌, ◌*◌, ◌≤◌, ◌<◌}
use native.Mathlib.Omega.{arith}
use lib.IntN.{ℤ, pos, negsuc, ◌+ℤ◌, ◌-ℤ◌}
use lib.Signed.{mag, ◌≤ℤ◌}
use Rattle.integers.specs.inner.Limited.{Limited}
use Rattle.integers.proofs.Omega.{atoms₃, parts, at_most, from_equal, from_at_most}
use Rattle.integers.proofs.Limits.{limited_more}
use Rattle.maps.specs.Dart.{rev}
use Rattle.maps.proofs.Darts.{rev_rev, rev_in}
use Rattle.search.specs.Dual.{Dual}
use Rattle.search.specs.inner.Settled.{Settled}
use Rattle.edge_flows.specs.inner.Flow.{flow_of, Flowing}
use Rattle.arrays.specs.inner.Sizes.{most_capacity}
use Rattle.solver.specs.inner.Search.{Searchable}

mag_limited : (b : ℕ) (x : ℤ) → mag x ≤ b → Limited (b + 1) x
mag_limited b (pos n) h = record { low = at_most (search parts) (omega arith); high = at_most (search parts) (omega arith) }
mag_limited b (negsuc n) h = record { low = at_most (search parts) (omega arith); high = at_most (search parts) (omega arith) }

-- one edge: x and y are the potentials left and right of a dart, l and m the lengths of it and of its reverse, c and b their capacities
between : (x y l m c b : ℤ) → x ≤ℤ (y +ℤ l) → y ≤ℤ (x +ℤ m) → l +ℤ m ≡ c +ℤ b
    → Limited most_capacity c → Limited most_capacity b → Limited most_capacity ((x -ℤ y) +ℤ (c -ℤ l))
between x y l m c b h g e hc hb =
    let a = atoms₃ x y l in
    let a' = atoms₃ m c b in
    record {
      low = at_most (search parts) (omega (arith, from_at_most g (search parts), from_equal e (search parts), from_at_most hb.high (search parts)));
      high = at_most (search parts) (omega (arith, from_at_most h (search parts), from_at_most hc.high (search parts)));
    }

module _ {N : Dual} {edges : ℕ} {capacity : ℕ → ℤ} (q : Searchable N edges capacity) (ρ : ℕ → ℤ) (s : Settled N ρ) where
  pub flowing : Flowing edges N.left capacity N.length ρ
  flowing = record {
    face_in = λ d l. omega (arith, q.sound.left_in d (omega (arith, q.darts_are)), q.sound.few_faces);
    near =
        λ d l. limited_more (omega arith)
        (mag_limited 2000000000000000000 (ρ (N.left d)) (s.near (N.left d) (q.sound.left_in d (omega (arith, q.darts_are)))));
    small = λ e l. small e l;
  }
    where
      small : (e : ℕ) → e < edges → Limited most_capacity (flow_of N.left capacity N.length ρ e)
      small e l =
          between (ρ (N.left d)) (ρ (N.left (rev d))) (N.length d) (N.length (rev d)) (capacity d)
          (capacity (rev d)) forth back (q.sums d d_in) (q.small d d_in) (q.small (rev d) r_in)
        where
          d : ℕ
          d = 2 * e

          d_in : 2 * e < N.darts
          d_in = omega (arith, q.darts_are)

          r_in : rev (2 * e) < N.darts
          r_in = omega (arith, q.darts_are, rev_in edges (2 * e) (omega arith))

          forth : ρ (N.left (2 * e)) ≤ℤ (ρ (N.left (rev (2 * e))) +ℤ N.length (2 * e))
          forth = rw (q.sound.reversed (2 * e) d_in) at (s.still (2 * e) d_in)

          back : ρ (N.left (rev (2 * e))) ≤ℤ (ρ (N.left (2 * e)) +ℤ N.length (rev (2 * e)))
          back = rw (q.sound.reversed (rev (2 * e)) r_in ∙ ap N.left (rev_rev (2 * e))) at (s.still (rev (2 * e)) r_in)
