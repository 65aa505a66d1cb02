-- An edge's flow is added at its tail, and then taken away at its head: both sums fit.
use mathlib.Core.Path.{sym, ◌∙◌}
use Prim.Native.Nat.{◌+◌, ◌*◌, ◌<◌}
use native.Mathlib.Omega.{arith}
use lib.Dec.{eqb}
use Rattle.signed.proofs.Limits.{same_bits}
use Rattle.arrays.specs.At.{at, atℤ}
use Rattle.balance.proofs.Nets.{net_none, net_stepped, added_fits, taken_fits}
use Rattle.balance.proofs.fill_nets.Goals as goal

pub loop-e-init : goal.loop-e-init
loop-e-init c = record { long = c.requires.2; sums = λ v l. c.requires.5 v ∙ sym (net_none _ _ v) }

pub add_at-requires : goal.add_at-requires
add_at-requires c =
    let a = c.args in
    let e = c.loop-e.e in
    let v = c.wide.result in
    let below : v < 1024 = omega (arith, c.wide.ensures, c.requires.3 (2 * e) (omega arith)) in (
      c.loop-e.invariant.long,
      below,
      rw (same_bits (omega arith) (c.requires.4 e (omega arith)), c.loop-e.invariant.sums v below)
          (added_fits (at a.tails.now) (atℤ a.flows.now) a.edges c.requires.4 e v (omega arith) c.requires.0),
    )

pub sub_at-requires : goal.sub_at-requires
sub_at-requires c =
    let a = c.args in
    let e = c.loop-e.e in
    let v = c.wide-in-loop-e.result in
    let below : v < 1024 = omega (arith, c.wide-in-loop-e.ensures, c.requires.3 (2 * e + 1) (omega arith)) in
    let bits = same_bits (omega arith) (c.requires.4 e (omega arith)) in (
      c.add_at.ensures.0,
      below,
      rw (bits, c.add_at.ensures.1 v, bits, c.loop-e.invariant.sums v below)
          (taken_fits (at a.tails.now) (atℤ a.flows.now) a.edges c.requires.4 e v (eqb v c.wide.result) (omega arith) c.requires.0),
    )

pub loop-e-preserved : goal.loop-e-preserved
loop-e-preserved c =
    let a = c.args in
    let e = c.loop-e.e in
    let bits = same_bits (omega arith) (c.requires.4 e (omega arith)) in
    record {
      long = c.sub_at.ensures.0;
      sums = λ v l. net_stepped (at a.tails.now) (atℤ a.flows.now) e v c.wide.result c.wide-in-loop-e.result c.wide.ensures c.wide-in-loop-e.ensures
          (c.loop-e.invariant.sums v l) (rw bits at (c.add_at.ensures.1 v)) (rw bits at (c.sub_at.ensures.1 v));
    }
