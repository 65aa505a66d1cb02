use mathlib.Core.Path.{◌≡◌, ◌∙◌}
use mathlib.Core.Bool.{false}
use native.Mathlib.Omega.{arith}
use lib.IntN.{pos, ◌+ℤ◌}
use lib.Signed.{lt_z}
use mir.Syntax.{w32, w64}
use mir.Val.{to_z, of_z}
use mir.ValLaws.{to_z-of_z}
use Rattle.signed.proofs.Laws.{number_of_bits}
use Rattle.signed.proofs.Limits.{limited_fits}
use Rattle.arrays.specs.At.{at, atℤ}
use Rattle.arrays.specs.inner.Sizes.{most_height}
use Rattle.cuts.specs.inner.Cut.{cut_of}
use Rattle.thresholds.specs.inner.Above.{above}
use Rattle.thresholds.proofs.Choosing.{serves_not, serves_here, trying_start, trying_next, trying_step, trying_less, cut_same}
use Rattle.thresholds.proofs.Choosing.{tried_start, tried_step, tried_serves}
use Rattle.thresholds.proofs.choose_set.Goals as goal

pub loop-threshold-init : goal.loop-threshold-init
loop-threshold-init c =
    let t = c.lowest-threshold.result in
    let least = c.lowest-threshold.ensures in
    let e : to_z w32 (of_z w32 t) ≡ t = number_of_bits t (record { sfits = c.lowest-threshold.type_inv }) in
    record {
      long = c.flag_above.ensures.0;
      flags = c.flag_above.ensures.1;
      trying = rw e (trying_start c.requires.1 t least.0 least.1);
      tried = rw e (tried_start t least.0 least.1);
    }

-- the cut of the nodes above the threshold is not below zero
fails : (c : goal.After-flag_above-in-loop-threshold)
    → lt_z (cut_of c.args.darts (at c.args.tails.now) (atℤ c.args.lengths.now) (above (atℤ c.args.heights.now) (to_z w32 c.loop-threshold.threshold-bits)))
    (pos 0) ≡ false
fails c =
    let e = to_z-of_z w64 c.total.result (record { sfits = c.total.type_inv }) ∙ c.total.ensures ∙ cut_same c.requires.1 _ _ c.loop-threshold.invariant.flags in
    serves_not e c.loop-threshold-test.true

next_is : (c : goal.After-flag_above-in-loop-threshold)
    → to_z w32 (of_z w32 (to_z w32 c.loop-threshold.threshold-bits +ℤ pos 1)) ≡ to_z w32 c.loop-threshold.threshold-bits +ℤ pos 1
next_is c = number_of_bits _ (limited_fits most_height _ (omega arith) (trying_next c.loop-threshold.invariant.trying (fails c)))

pub loop-threshold-smaller : goal.loop-threshold-smaller
loop-threshold-smaller c = rw (next_is c) (trying_less c.loop-threshold.invariant.trying (fails c))

pub loop-threshold-preserved : goal.loop-threshold-preserved
loop-threshold-preserved c =
    let i = c.loop-threshold.invariant in
    record {
      long = c.flag_above-in-loop-threshold.ensures.0;
      flags = c.flag_above-in-loop-threshold.ensures.1;
      trying = rw (next_is c) (trying_step i.trying (fails c));
      tried = rw (next_is c) (tried_step i.tried (fails c));
    }

pub returns : goal.returns
returns c =
    let i = c.loop-threshold.invariant in
    let e = to_z-of_z w64 c.total.result (record { sfits = c.total.type_inv }) ∙ c.total.ensures in (
      i.long,
      serves_here e c.loop-threshold-test.false,
      tried_serves i.tried (serves_here (e ∙ cut_same c.requires.1 _ _ i.flags) c.loop-threshold-test.false)
          i.flags,
    )
