use native.Mathlib.Omega.{arith}
use borrow.Author.Rules.{rules}
use Rattle.signed.proofs.Laws.{number_of_bits}
use Rattle.arrays.specs.At.{atℤ}
use Rattle.thresholds.proofs.Lowering.{low_start, low_step, one_of_min}
use Rattle.thresholds.proofs.lowest.Goals as goal

pub loop-v-init : goal.loop-v-init
loop-v-init c = low_start _ _ _ c.requires.0 (number_of_bits _ (record { sfits = search rules }))

pub loop-v-preserved : goal.loop-v-preserved
loop-v-preserved c =
    let here = number_of_bits (atℤ c.args.heights.now c.loop-v.v) (record { sfits = search rules }) in
    let m = c.min-low.ensures in
    rw (number_of_bits c.min-low.result (record { sfits = c.min-low.type_inv }))
    (low_step c.args.nodes (atℤ c.args.heights.now) c.loop-v.v _ _ _ c.loop-v-test.true c.loop-v.invariant here m.self_bound m.other_bound
    (one_of_min _ _ _ m.value))

pub returns : goal.returns
returns c = (λ v l. c.loop-v.invariant.all v (omega arith), c.loop-v.invariant.one)
