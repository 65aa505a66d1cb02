-- What `Flowing` gives the functions of an edge: the faces on both sides are in the arrays, the drop fits 64 bits, and the flow fits 64 and 32.
use mathlib.Core.Path.{◌≡◌, ◌∙◌, ap₂}
use Prim.Native.Nat.{ℕ, ◌+◌, ◌*◌, ◌<◌}
use native.Mathlib.Omega.{arith}
use lib.IntN.{ℤ, ◌+ℤ◌, ◌-ℤ◌}
use mir.Syntax.{w32, w64}
use mir.Val.{SFits, to_z, of_z}
use mir.ValLaws.{to_z-of_z}
use Rattle.integers.proofs.Limits.{limited_minus}
use Rattle.signed.proofs.Laws.{number_of_bits}
use Rattle.signed.proofs.Limits.{limited_fits, limited_fits64}
use Rattle.maps.specs.Dart.{rev}
use Rattle.maps.proofs.Darts.{rev_in}
use Rattle.edge_flows.specs.inner.Flow.{flow_of, Flowing}
use Rattle.arrays.specs.inner.Sizes.{most_potential, most_capacity}

module _ {edges : ℕ} {left : ℕ → ℕ} {capacity length potential : ℕ → ℤ} (φ : Flowing edges left capacity length potential) (e : ℕ) (below : e < edges) where
  -- dart 2e and its reverse are darts of the edges
  first_in : 2 * e < 2 * edges
  first_in = omega arith

  second_in : rev (2 * e) < 2 * edges
  second_in = rev_in edges (2 * e) first_in

  pub left_in : left (2 * e) < 1024
  left_in = φ.face_in (2 * e) first_in

  pub right_in : left (rev (2 * e)) < 1024
  right_in = φ.face_in (rev (2 * e)) second_in

  -- two potentials differ by at most 8·10^18, which is below 2^63
  pub drop_fits : SFits w64 (potential (left (2 * e)) -ℤ potential (left (rev (2 * e))))
  drop_fits =
      limited_fits64 (most_potential + most_potential) (potential (left (2 * e)) -ℤ potential (left (rev (2 * e)))) (omega arith)
      (limited_minus (φ.near (2 * e) first_in) (φ.near (rev (2 * e)) second_in))

  flow_fits64 : SFits w64 (flow_of left capacity length potential e)
  flow_fits64 = limited_fits64 most_capacity (flow_of left capacity length potential e) (omega arith) (φ.small e below)

  flow_fits : SFits w32 (flow_of left capacity length potential e)
  flow_fits = limited_fits most_capacity (flow_of left capacity length potential e) (omega arith) (φ.small e below)

  -- the flow of the edge from its terms, as the code holds them at 64 bits
  module _ (fall full long : ℤ) (p : SFits w64 fall) (q : SFits w64 full) (r : SFits w64 long)
      (s : SFits w64 (to_z w64 (of_z w64 full) -ℤ to_z w64 (of_z w64 long)))
      (fall_is : fall ≡ potential (left (2 * e)) -ℤ potential (left (rev (2 * e)))) (full_is : full ≡ capacity (2 * e)) (long_is : long ≡ length (2 * e)) where
    abbrev pub Held : ℤ
    Held = to_z w64 (of_z w64 fall) +ℤ to_z w64 (of_z w64 (to_z w64 (of_z w64 full) -ℤ to_z w64 (of_z w64 long)))

    held_is : Held ≡ flow_of left capacity length potential e
    held_is =
        ap₂ ◌+ℤ◌ (to_z-of_z w64 fall p ∙ fall_is)
        (to_z-of_z w64 _ s ∙ ap₂ ◌-ℤ◌ (to_z-of_z w64 full q ∙ full_is) (to_z-of_z w64 long r ∙ long_is))

    pub held_fits64 : SFits w64 Held
    held_fits64 = rw held_is flow_fits64

    pub held_fits : SFits w32 (to_z w64 (of_z w64 Held))
    held_fits = rw (to_z-of_z w64 Held held_fits64 ∙ held_is) flow_fits

    pub held_at_last : to_z w32 (of_z w32 (to_z w64 (of_z w64 Held))) ≡ flow_of left capacity length potential e
    held_at_last = number_of_bits _ held_fits ∙ to_z-of_z w64 Held held_fits64 ∙ held_is
