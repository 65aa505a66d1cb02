-- The minus, if the number is below zero, and the digits of its size behind it.
use mathlib.Core.Path.{ap, ◌∙◌}
use Prim.Native.Nat.{◌+◌}
use native.Mathlib.Omega.{arith}
use lib.ListN.{length, length-set}
use Rattle.fields.specs.Fields.{put}
use Rattle.texts.specs.Decimal.{decimal}
use Rattle.texts.proofs.Pieces.{put_behind}
use Rattle.texts.proofs.Sign.{with_minus, without_minus}
use Rattle.texts.proofs.put_number.Goals as goal

pub bounds-text-at : goal.bounds-text-at
bounds-text-at c =
    let e = with_minus c.args.x _ c.ranges.x c.magnitude-size.ensures c.if-x-lt0.true in
    omega (arith, ap length e)

pub put_decimal-requires : goal.put_decimal-requires
put_decimal-requires c =
    let e = with_minus c.args.x _ c.ranges.x c.magnitude-size.ensures c.if-x-lt0.true in
    simp length-set (omega (arith, ap length e))

pub put_decimal-requires-else-x-lt0 : goal.put_decimal-requires-else-x-lt0
put_decimal-requires-else-x-lt0 c =
    let e = without_minus c.args.x _ c.ranges.x c.magnitude-size.ensures c.if-x-lt0.false in
    omega (arith, ap length e)

pub returns-then-x-lt0 : goal.returns-then-x-lt0
returns-then-x-lt0 c =
    let a = c.args in
    let e = with_minus a.x _ c.ranges.x c.magnitude-size.ensures c.if-x-lt0.true in (
      c.put_decimal.ensures.0
          ∙ put_behind a.at 45 (decimal c.magnitude-size.result) a.text.now (omega (arith, ap length e))
          ∙ ap (λ s. put a.at s a.text.now) e,
      omega (arith, c.put_decimal.ensures.1, ap length e),
    )

pub returns-else-x-lt0 : goal.returns-else-x-lt0
returns-else-x-lt0 c =
    let a = c.args in
    let e = without_minus a.x _ c.ranges.x c.magnitude-size.ensures c.if-x-lt0.false in (
      c.put_decimal-else-x-lt0.ensures.0 ∙ ap (λ s. put a.at s a.text.now) e,
      c.put_decimal-else-x-lt0.ensures.1 ∙ ap (λ s. a.at + length s) e,
    )
