-- What a drawing is whose every edge passes the checks 4 to 7: its ends are nodes, its rotations darts, its capacities in range, and the two of an edge
-- add to zero or more. For sheets and for what Write is given alike.
use Prim.Native.Nat.{ℕ, ◌+◌, ◌*◌, ◌≤◌, ◌<◌}
use mathlib.Core.Logic.{◌⊎◌, inl, inr}
use native.Mathlib.Omega.{arith}
use lib.IntN.{ℤ, pos, negsuc, ◌+ℤ◌}
use lib.Signed.{◌<ℤ◌, ◌≤ℤ◌}
use Rattle.integers.proofs.Omega.{atoms₂, parts, at_most, from_at_most}
use Rattle.integers.proofs.Laws.{lt_or_ge}
use Rattle.refusals.specs.Order.{NoneOf}
use Rattle.maps.specs.Dart.{rev}
use Rattle.maps.specs.Check.{InRange}
use Rattle.maps.proofs.Darts.{by_edge, rev_even, rev_odd}
use Rattle.maps.specs.Drawing.{Drawing}
use Rattle.records.specs.Check.{CapacityOutside, number_checks, capacity_checks, field_checks, edge_checks}

-- neither of two
pub not_left : {A B : Type 0} → (A ⊎ B → ⊥) → A → ⊥
not_left h a = h (inl a)

pub not_right : {A B : Type 0} → (A ⊎ B → ⊥) → B → ⊥
not_right h b = h (inr b)

not_less : (x y : ℤ) → (x <ℤ y → ⊥) → y ≤ℤ x
not_less x y h = go (lt_or_ge x y)
  where
    go : (x <ℤ y) ⊎ (y ≤ℤ x) → y ≤ℤ x
    go (inl l) = absurd (h l)
    go (inr l) = l

-- what check 6 leaves: −1,000,000 to 1,000,000
pub capacity_inside : (c : ℤ) → (CapacityOutside c → ⊥) → (negsuc 999999 ≤ℤ c) × (c ≤ℤ pos 1000000)
capacity_inside c h = (not_less c (negsuc 999999) (not_left h), not_less (pos 1000000) c (not_right h))

turned_round : (x y : ℤ) → pos 0 ≤ℤ (x +ℤ y) → pos 0 ≤ℤ (y +ℤ x)
turned_round x y h = let a = atoms₂ x y in at_most (search parts) (omega (arith, from_at_most h (search parts)))

module _ (nodes edges outer : ℕ) (passed : NoneOf (number_checks nodes edges outer)) where
  pub counts_range : (2 ≤ nodes) × (nodes ≤ 513) × (1 ≤ edges) × (edges ≤ 512)
  unfolding NoneOf number_checks
  counts_range =
      let nodes-in = not_left passed.0 in
      let edges-in = not_right passed.0 in
      (omega (arith, not_left nodes-in), omega (arith, not_right nodes-in), omega (arith, not_left edges-in), omega (arith, not_right edges-in))

  pub outer_range : outer < 2 * edges
  unfolding NoneOf number_checks
  outer_range = omega (arith, passed.1.0)

-- ── capacities that pass the checks 6 and 7, edge by edge ──
module _ (edges : ℕ) (c : ℕ → ℤ) (passed : (e : ℕ) → e < edges → NoneOf (capacity_checks (c (2 * e)) (c (2 * e + 1)))) where
  pub capacities_range : (d : ℕ) → d < 2 * edges → CapacityOutside (c d) → ⊥
  unfolding NoneOf
  capacities_range = by_edge edges (λ d. CapacityOutside (c d) → ⊥) (λ e l. not_left (passed e l).0) (λ e l. not_right (passed e l).0)

  pub capacities_pair : (e : ℕ) → e < edges → pos 0 ≤ℤ (c (2 * e) +ℤ c (2 * e + 1))
  unfolding NoneOf
  capacities_pair e l = not_less _ _ (passed e l).1.0

  pub capacities_pairs : (d : ℕ) → d < 2 * edges → pos 0 ≤ℤ (c d +ℤ c (rev d))
  capacities_pairs =
      by_edge edges (λ d. pos 0 ≤ℤ (c d +ℤ c (rev d)))
      (λ e l. rw (rev_even e) (capacities_pair e l))
      (λ e l. rw (rev_odd e) (turned_round (c (2 * e)) (c (2 * e + 1)) (capacities_pair e l)))

-- ── the edges of a drawing ──
module _ (𝓓 : Drawing) (passed : (e : ℕ) → e < 𝓓.map.edges → NoneOf (edge_checks 𝓓 e)) where
  pub drawing_range : InRange 𝓓.map
  unfolding NoneOf edge_checks field_checks
  drawing_range =
      record {
        tail_in =
            by_edge 𝓓.map.edges (λ d. 𝓓.map.tail d < 𝓓.map.nodes)
            (λ e l. omega (arith, not_left (passed e l).0)) (λ e l. omega (arith, not_right (passed e l).0));
        rotation_in =
            by_edge 𝓓.map.edges (λ d. 𝓓.map.rotation d < 2 * 𝓓.map.edges)
            (λ e l. omega (arith, not_left (passed e l).1.0)) (λ e l. omega (arith, not_right (passed e l).1.0));
      }

  six_seven : (e : ℕ) → e < 𝓓.map.edges → NoneOf (capacity_checks (𝓓.capacity (2 * e)) (𝓓.capacity (2 * e + 1)))
  unfolding NoneOf edge_checks field_checks
  six_seven e l = (passed e l).1.1

  pub drawing_capacities : (d : ℕ) → d < 2 * 𝓓.map.edges → CapacityOutside (𝓓.capacity d) → ⊥
  drawing_capacities = capacities_range 𝓓.map.edges 𝓓.capacity six_seven

  pub edge_pair : (e : ℕ) → e < 𝓓.map.edges → pos 0 ≤ℤ (𝓓.capacity (2 * e) +ℤ 𝓓.capacity (2 * e + 1))
  edge_pair = capacities_pair 𝓓.map.edges 𝓓.capacity six_seven

  pub drawing_pairs : (d : ℕ) → d < 2 * 𝓓.map.edges → pos 0 ≤ℤ (𝓓.capacity d +ℤ 𝓓.capacity (rev d))
  drawing_pairs = capacities_pairs 𝓓.map.edges 𝓓.capacity six_seven
