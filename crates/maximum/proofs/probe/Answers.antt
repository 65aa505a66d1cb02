-- A value that is carried is the low bound; a proving set moves a bound or shows that there is nothing.
use Rattle.std.proofs.Common.{◌≡◌, refl, ◌∙◌, subst, arith, Bool, true, false, List, Option, ℕ, ◌*◌, ℤ, ◌≤ℤ◌, ◌<ℤ◌, Some, None, w32, to_z, of_z}
use Rattle.integers.specs.inner.Limited.{Limited}
use Rattle.integers.proofs.Limits.{limited_more}
use Rattle.signed.proofs.Limits.{same_bits}
use Rattle.arrays.specs.At.{at, atℤ}
use Rattle.arrays.specs.Maps.{map_of}
use Rattle.arrays.specs.declared.Sizes.{Sizes}
use Rattle.arrays.specs.inner.Flags.{flagged}
use Rattle.arrays.proofs.FillLoops.{filled_length}
use Rattle.cuts.specs.inner.Cut.{cut_of}
use Rattle.node_flags.specs.inner.Flags.{Sided}
use Rattle.node_flags.specs.declared.Side.{Side}
use Rattle.solver.specs.inner.Decision.{Decided}
use Rattle.maximum.specs.declared.Narrowed.{Narrowed}
use Rattle.maximum.specs.declared.Pending.{Pending}
use Rattle.maximum.specs.inner.Bracket.{Bracket, Closer}
use Rattle.maximum.specs.inner.Maximum.{Maximized}
use Rattle.maximum.specs.inner.Narrowing.{Lowers, Narrows}
use Rattle.maximum.specs.inner.Underway.{Underway}
use Rattle.maximum.proofs.Bracketing.{
  Ground,
  ground_of,
  lent_pivots,
  high_small,
  low_small,
  between_limited,
  carried,
  carried_closer,
  lowered,
  nothing,
  narrowed,
  narrowed_closer,
  bits_bracket,
  bits_closer,
  same_bracket,
  nothing_here,
}
use Rattle.maximum.proofs.probe.Goals as goal

-- a number as its bits tell it
abbrev bits : ℤ → ℤ
bits x = to_z w32 (of_z w32 x)

module _ {n : Sizes} {q : Pending} {tails rotations lefts : List ℕ} {capacities : List ℤ} {order from grouped starts : List ℕ} {old flows : List ℤ}
    {A B : List ℕ} (u : Underway n q tails rotations lefts capacities order from grouped starts old flows A B) where
  ground : Ground (map_of n.nodes n.edges tails rotations) (atℤ capacities) q.terminals.source q.terminals.sink
  ground = ground_of u.lent u.small

  low_few : Limited 512000000 q.bounds.low
  low_few = low_small n.outer ground old flows (flagged B) q.bounds.low q.bounds.found u.bracket.floor

  high_few : Limited 512000000 q.bounds.high
  high_few = high_small n.outer ground u.bracket.ceiling

  bits_low : bits q.bounds.low ≡ q.bounds.low
  bits_low = same_bits (omega arith) low_few

  bits_high : bits q.bounds.high ≡ q.bounds.high
  bits_high = same_bits (omega arith) high_few

  -- what is known of the bounds, told of a slice as it was before
  abbrev Known : List ℤ → Type 0
  Known before =
      Bracket (map_of n.nodes n.edges tails rotations) n.outer (atℤ capacities) q.terminals.source q.terminals.sink before flows A B
      q.bounds.low q.bounds.high q.bounds.found

  -- the value that is probed
  module _ {value : ℤ}
      (r : (bits q.bounds.low ≤ℤ value) × (value ≤ℤ bits q.bounds.high)
      × (q.bounds.found ≡ true → bits q.bounds.low <ℤ bits q.bounds.high → bits q.bounds.low <ℤ value)) where
    at_least : q.bounds.low ≤ℤ value
    at_least = subst (λ l. l ≤ℤ value) bits_low r.0

    at_most : value ≤ℤ q.bounds.high
    at_most = subst (λ h. value ≤ℤ h) bits_high r.1

    above : (q.bounds.found ≡ true → q.bounds.low <ℤ q.bounds.high) → q.bounds.found ≡ true → q.bounds.low <ℤ value
    above apart e = subst (λ l. l <ℤ value) bits_low (r.2 e (rw (bits_low, bits_high) (apart e)))

    value_few : Limited 512000000 value
    value_few = between_limited 512000000 _ _ _ at_least at_most low_few high_few

    bits_value : bits value ≡ value
    bits_value = same_bits (omega arith) value_few

    at_least_bits : q.bounds.low ≤ℤ bits value
    at_least_bits = rw bits_value at_least

    at_most_bits : bits value ≤ℤ q.bounds.high
    at_most_bits = rw bits_value at_most

    abbrev Decides : List ℤ → List ℕ → Bool → Type 0
    Decides flows' inside =
        Decided (map_of n.nodes n.edges tails rotations) n.outer (atℤ capacities) q.terminals.source q.terminals.sink (bits value) flows flows' inside

    told : (flows' : List ℤ) (inside : List ℕ) {o r : Bool} → o ≡ r → Decides flows' inside o → Decides flows' inside r
    told flows' inside e d = subst (Decides flows' inside) e d

    -- it is carried, and the pivots lower the high bound
    module _ (flows' : List ℤ) (inside : List ℕ) (d : Decides flows' inside true) {set A' : List ℕ} {high : ℤ}
        (l : Lowers q.terminals.source q.terminals.sink (cut_of (2 * n.edges) (at tails) (atℤ capacities) (flagged set)) (bits q.bounds.high) high
        set A A') where
      raised : {before : List ℤ} → Known before
          → Bracket (map_of n.nodes n.edges tails rotations) n.outer (atℤ capacities) q.terminals.source q.terminals.sink before flows' A' B
          (bits value) high true × (high ≤ℤ q.bounds.high)
      raised {before} b =
          lowered n.outer ground before flows' A B (bits value) q.bounds.high true
          (carried n.outer ground before flows A B q.bounds.low q.bounds.high q.bounds.found b (bits value) flows' inside d) set A' high
          (subst (λ h. Lowers q.terminals.source q.terminals.sink (cut_of (2 * n.edges) (at tails) (atℤ capacities) (flagged set)) h high set A A') bits_high l)

      raised_bits : {before : List ℤ} → Known before
          → Bracket (map_of n.nodes n.edges tails rotations) n.outer (atℤ capacities) q.terminals.source q.terminals.sink before flows' A' B
          (bits value) (bits high) true
      raised_bits b = rw (same_bits (omega arith) (high_small n.outer ground (raised b).0.ceiling)) (raised b).0

      raised_closer : (q.bounds.found ≡ true → q.bounds.low <ℤ q.bounds.high) → Closer q.bounds.low q.bounds.high q.bounds.found (bits value) (bits high) true
      raised_closer apart =
          rw (same_bits (omega arith) (high_small n.outer ground (raised u.bracket).0.ceiling), bits_value)
          (carried_closer n.outer ground q.bounds.low q.bounds.high value q.bounds.found at_least at_most high (raised u.bracket).1 (above apart))

    -- it cannot be carried
    module _ (flows' : List ℤ) (inside : List ℕ) (d : Decides flows' inside false) (A' B' : List ℕ) where
      abbrev Moves : Option Narrowed → Type 0
      Moves o =
          (side : Side) × Sided q.terminals.source q.terminals.sink (flagged inside) side
          × Narrows (cut_of (2 * n.edges) (at tails) (atℤ capacities) (flagged inside)) (bits q.bounds.low) (bits q.bounds.high) inside A A' B B' o side

      -- the bounds are small, so their bits tell them
      plain : (o : Option Narrowed) (m : Moves o)
          → Narrows (cut_of (2 * n.edges) (at tails) (atℤ capacities) (flagged inside)) q.bounds.low q.bounds.high inside A A' B B' o m.0
      plain o m =
          subst (λ l. Narrows (cut_of (2 * n.edges) (at tails) (atℤ capacities) (flagged inside)) l q.bounds.high inside A A' B B' o m.0) bits_low
          (subst (λ h. Narrows (cut_of (2 * n.edges) (at tails) (atℤ capacities) (flagged inside)) (bits q.bounds.low) h inside A A' B B' o m.0)
          bits_high m.2)

      none_left : Moves None → {before : List ℤ} → Known before
          → Maximized (map_of n.nodes n.edges tails rotations) n.outer (atℤ capacities) q.terminals.source q.terminals.sink before flows' A' None
      none_left m {before} b =
          nothing_here (map_of n.nodes n.edges tails rotations) n.outer (atℤ capacities) q.terminals.source q.terminals.sink before flows flows' A' d.0
          (nothing n.outer ground before flows A B q.bounds.low q.bounds.high q.bounds.found b (bits value) at_least_bits at_most_bits inside d.1 A' B'
          m.0 m.1 (plain None m))

      moved : {r : Narrowed} → Moves (Some r) → {before : List ℤ} → Known before
          → Bracket (map_of n.nodes n.edges tails rotations) n.outer (atℤ capacities) q.terminals.source q.terminals.sink before flows A' B'
          r.low r.high q.bounds.found
      moved {r} m {before} b =
          narrowed n.outer ground before flows A B q.bounds.low q.bounds.high q.bounds.found b (bits value) at_least_bits at_most_bits inside d.1 A' B' r
          m.0 m.1 (plain (Some r) m)

      moved_bits : {r : Narrowed} → Moves (Some r) → {before : List ℤ} → Known before
          → Bracket (map_of n.nodes n.edges tails rotations) n.outer (atℤ capacities) q.terminals.source q.terminals.sink before flows' A' B'
          (bits r.low) (bits r.high) q.bounds.found
      moved_bits {r} m {before} b = same_bracket d.0 (bits_bracket n.outer ground before flows A' B' r.low r.high q.bounds.found (moved m b))

      moved_closer : {r : Narrowed} → Moves (Some r) → Closer q.bounds.low q.bounds.high q.bounds.found (bits r.low) (bits r.high) q.bounds.found
      moved_closer {r} m =
          bits_closer n.outer ground old flows A' B' r.low r.high q.bounds.found (moved m u.bracket)
          (narrowed_closer n.outer ground q.bounds.low q.bounds.high (bits value) q.bounds.found at_least_bits at_most_bits inside d.1 A A' B B' r
          m.0 m.1 (plain (Some r) m))

pub next_value-value-requires : goal.next_value-value-requires
next_value-value-requires c =
    let u = c.requires.0.1 in
    rw (bits_low u, bits_high u) (c.requires.2, limited_more (omega arith) (low_few u), limited_more (omega arith) (high_few u))

pub decide-settled-requires : goal.decide-settled-requires
decide-settled-requires c =
    let u = c.requires.0.1 in
    let r = c.next_value-value.ensures in
    (u.lent, rw (bits_value u r) (limited_more (omega arith) (value_few u r)), c.requires.1, refl)

pub propose-requires : goal.propose-requires
propose-requires c =
    let u = c.requires.0.1 in
    let n = c.decide-settled.new in
    let d = told u c.next_value-value.ensures n.flows n.inside c.if-impossible.false c.decide-settled.ensures.1 in
    lent_pivots c.args.rotations.now (ground u) c.decide-settled.ensures.2 u.size_a
    (filled_length _ _ c.args.flows.now n.flows d.2 (omega (arith, u.lent.exact)) ∙ u.lent.exact)

pub returns : goal.returns
returns c =
    let u = c.requires.0.1 in
    let r = c.next_value-value.ensures in
    let n = c.decide-settled.new in
    let d = told u r n.flows n.inside c.if-impossible.false c.decide-settled.ensures.1 in
    let e = c.propose.ensures in
    (e.0, e.1, u.size_b, raised_closer u r n.flows n.inside d e.2.1 c.requires.3, λ before b. raised_bits u r n.flows n.inside d e.2.1 b)

pub returns-in_err-n : goal.returns-in_err-n
returns-in_err-n c =
    let u = c.requires.0.1 in
    let r = c.next_value-value.ensures in
    let n = c.decide-settled.new in
    let k = c.narrow_by in
    let d = told u r n.flows n.inside c.if-impossible.true c.decide-settled.ensures.1 in
    let e : c.from_residual.result ≡ None = c.from_residual.ensures in (
      c.decide-settled.ensures.2,
      k.ensures.0,
      k.ensures.1,
      rw e tt,
      λ before b. rw e (none_left u r n.flows n.inside d k.new.a k.new.b c.in_err-n.ensures.2 b),
    )

pub returns-then-impossible : goal.returns-then-impossible
returns-then-impossible c =
    let u = c.requires.0.1 in
    let r = c.next_value-value.ensures in
    let n = c.decide-settled.new in
    let k = c.narrow_by in
    let m = c.in_ok-n.ensures.2 in
    let d = told u r n.flows n.inside c.if-impossible.true c.decide-settled.ensures.1 in (
      c.decide-settled.ensures.2,
      k.ensures.0,
      k.ensures.1,
      moved_closer u r n.flows n.inside d k.new.a k.new.b m,
      λ before b. moved_bits u r n.flows n.inside d k.new.a k.new.b m b,
    )
