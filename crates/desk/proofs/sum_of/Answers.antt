use mathlib.Core.Path.{◌≡◌, sym, ◌∙◌, ap, ap₂}
use Prim.Native.Nat.{◌+◌}
use native.Mathlib.Omega.{arith}
use Rattle.integers.specs.Sum.{sumℕ}
use Rattle.arrays.specs.At.{at}
use Rattle.desk.proofs.Marking.{sum_none, sum_next}
use Rattle.desk.proofs.sum_of.Goals as goal

pub loop-q-init : goal.loop-q-init
loop-q-init c = (sum_none (at c.args.points.now), omega arith)

pub overflow_add-sum : goal.overflow_add-sum
overflow_add-sum c = record { fits = omega (arith, c.requires.2 c.loop-q.q (omega arith), c.loop-q.invariant.1, c.from-sum.ensures) }

pub loop-q-preserved : goal.loop-q-preserved
loop-q-preserved c =
    let few = c.requires.2 c.loop-q.q (omega arith) in (
      ap₂ ◌+◌ c.loop-q.invariant.0 c.from-sum.ensures ∙ sym (sum_next c.loop-q.q (at c.args.points.now)),
      omega (arith, few, c.from-sum.ensures, c.loop-q.invariant.1),
    )

pub returns : goal.returns
returns c =
    let l = c.loop-q in
    let whole : l.q ≡ c.args.n = omega arith in
    (l.invariant.0 ∙ ap (λ k. sumℕ k (at c.args.points.now)) whole, omega (arith, l.invariant.1, c.requires.1))
