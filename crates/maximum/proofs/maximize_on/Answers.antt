-- The flow that is known is copied, the high bound may be tried and lowered, and what is found from there is told of the slice as it was before.
use Rattle.std.proofs.Common.{◌≡◌, refl, sym, ◌∙◌, ap, subst, arith, Bool, true, List, None, ℕ, ◌*◌, ◌<◌, ℤ, length, w32, to_z, of_z, SFits}
use Rattle.integers.specs.inner.Limited.{Limited}
use Rattle.signed.proofs.Laws.{number_of_bits}
use Rattle.signed.proofs.Limits.{same_bits}
use Rattle.flows.specs.Highest.{Highest}
use Rattle.flows.specs.inner.Sides.{AtSource}
use Rattle.arrays.specs.At.{at, atℤ}
use Rattle.arrays.specs.Filled.{filled}
use Rattle.arrays.specs.Maps.{map_of}
use Rattle.arrays.specs.declared.Sizes.{Sizes}
use Rattle.arrays.proofs.FillLoops.{filled_length}
use Rattle.arrays.specs.inner.Flags.{flagged}
use Rattle.cuts.specs.inner.Cut.{cut_of}
use Rattle.solver.specs.inner.Lent.{Lent}
use Rattle.maximum.specs.inner.Bracket.{Bracket}
use Rattle.maximum.specs.inner.Narrowing.{Lowers}
use Rattle.maximum.proofs.Bracketing.{
  Ground,
  ground_of,
  copied,
  high_small,
  low_small,
  begins_on,
  lowered,
  bits_bracket,
  bracket_length,
  anew,
  told_before,
}
use Rattle.maximum.proofs.maximize_on.Goals as goal

-- a number as its bits tell it
abbrev bits : ℤ → ℤ
bits x = to_z w32 (of_z w32 x)

module _ {n : Sizes} {s t : ℕ} {tails rotations lefts : List ℕ} {capacities : List ℤ} {order from grouped starts : List ℕ} {flows : List ℤ}
    (lent : Lent n s t tails rotations lefts capacities order from grouped starts flows)
    (small : (d : ℕ) → d < 2 * n.edges → Limited 1000000 (atℤ capacities d)) where
  ground : Ground (map_of n.nodes n.edges tails rotations) (atℤ capacities) s t
  ground = ground_of lent small

  -- what is known of the bounds, told of the slice as it was lent
  abbrev Held : (since : List ℤ) (A B : List ℕ) (low high : ℤ) (found : Bool) → Type 0
  Held since A B low high found =
      Bracket (map_of n.nodes n.edges tails rotations) n.outer (atℤ capacities) s t flows since A B low high found

  -- the bounds to begin with: the slice has the flow that is known
  first : (old : List ℤ) {v : ℤ} {x : ℕ → ℤ} {known since : List ℤ} {A : List ℕ} {high : ℤ}
      → Highest (map_of n.nodes n.edges tails rotations) n.outer (atℤ capacities) s t v x → known ≡ filled n.edges x old → length old ≡ n.edges
      → since ≡ known → AtSource s t (flagged A) → SFits w32 high → high ≡ cut_of (2 * n.edges) (at tails) (atℤ capacities) (flagged A)
      → (B : List ℕ) → Held since A B (bits v) (bits high) true
  first old {v} {x} {known} {since} {A} {high} h e l after side fits is-high B =
      begins_on n.outer ground flows since A B (bits v) (bits high) x side (number_of_bits high fits ∙ is-high)
      (subst (λ w. Highest (map_of n.nodes n.edges tails rotations) n.outer (atℤ capacities) s t w x)
      (sym (same_bits (omega arith) (low_small n.outer ground old known (λ u. true) v true (x, h, e)))) h)
      (after ∙ copied n.edges x old known flows e l lent.exact)

  -- the bounds after the high one was tried
  module _ {since : List ℤ} {A B : List ℕ} {low high : ℤ} (found : Bool) (held : Held since A B low high found) where
    as_long : length since ≡ n.edges
    as_long = bracket_length found (omega (arith, lent.exact)) held ∙ lent.exact

    -- and lowered by the pivots
    lowered_bits : {set A' : List ℕ} {high' : ℤ}
        → Lowers s t (cut_of (2 * n.edges) (at tails) (atℤ capacities) (flagged set)) (bits high) high' set A A' → Held since A' B (bits low) (bits high') found
    lowered_bits {set} {A'} {high'} l =
        let k = (lowered n.outer ground flows since A B (bits low) (bits high) found (bits_bracket n.outer ground flows since A B low high found held)
        set A' high' l).0 in
        rw (same_bits (omega arith) (high_small n.outer ground k.ceiling)) k

-- a flow that is known has a place for each edge
known_long : {n : ℕ} {known : List ℤ} (x : ℕ → ℤ) (old : List ℤ) → known ≡ filled n x old → length old ≡ n → length known ≡ n
known_long {n} {known} x old e l = filled_length n x old known e (omega (arith, l)) ∙ l

pub copy-requires : goal.copy-requires
copy-requires c =
    let k = c.requires.4 in
    c.requires.0.exact ∙ sym (known_long k.0 k.1 k.3 k.4)

pub try_likely-requires : goal.try_likely-requires
try_likely-requires c =
    let p = c.requires in
    let k = p.4 in
    let b = c.begin-likely.ensures in (
      c.args.flows.now,
      record {
        lent = record { opened = p.0.opened; ends = p.0.ends; exact = ap length c.copy.ensures ∙ known_long k.0 k.1 k.3 k.4 };
        small = p.1;
        size_a = b.0;
        size_b = refl;
        bracket = first p.0 p.1 k.1 k.2 k.3 k.4 c.copy.ensures b.1 (record { sfits = c.capacity.type_inv }) c.capacity.ensures _;
      },
    )

pub returns-in_err-tried : goal.returns-in_err-tried
returns-in_err-tried c =
    let p = c.requires in
    let k = p.4 in
    let e = c.in_err-tried.ensures in
    let none : c.from_residual.result ≡ None = c.from_residual.ensures in (
      e.0,
      rw none (e.2 c.args.flows.now
          (first p.0 p.1 k.1 k.2 k.3 k.4 c.copy.ensures c.begin-likely.ensures.1 (record { sfits = c.capacity.type_inv })
          c.capacity.ensures _)),
    )

pub close_in-requires : goal.close_in-requires
close_in-requires c =
    let p = c.requires in
    let k = p.4 in
    let e = c.in_ok-tried.ensures in
    let found = c.in_ok-tried.tried.found in
    let held = e.2 c.args.flows.now
    (first p.0 p.1 k.1 k.2 k.3 k.4 c.copy.ensures c.begin-likely.ensures.1 (record { sfits = c.capacity.type_inv }) c.capacity.ensures _) in (
      record {
        lent = record { opened = p.0.opened; ends = p.0.ends; exact = as_long p.0 p.1 found held };
        small = p.1;
        size_a = c.propose-high.ensures.1;
        size_b = e.1;
        bracket = anew found (lowered_bits p.0 p.1 found held c.propose-high.ensures.2.1);
      },
      c.propose-high.ensures.0,
    )

pub returns : goal.returns
returns c =
    let p = c.requires in
    let k = p.4 in
    let r = c.in_ok-tried.tried in
    let held = c.in_ok-tried.ensures.2 c.args.flows.now
    (first p.0 p.1 k.1 k.2 k.3 k.4 c.copy.ensures c.begin-likely.ensures.1 (record { sfits = c.capacity.type_inv }) c.capacity.ensures _) in (
      c.close_in.ensures.1,
      told_before c.args.sizes.outer (ground p.0 p.1) c.args.flows.now c.try_likely.new.flows c.propose-high.new.a c.try_likely.new.b _ _ r.found
          (lowered_bits p.0 p.1 r.found held c.propose-high.ensures.2.1) c.close_in.new.flows c.close_in.new.a c.close_in.result c.close_in.ensures.2,
    )
