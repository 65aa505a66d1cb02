use mathlib.Core.Path.{ap}
use Prim.Native.Nat.{◌+◌}
use native.Mathlib.Omega.{arith}
use Rattle.texts.proofs.Writing.{from_none, from_more}
use Rattle.texts.proofs.put_decimal.Goals as goal

pub loop-i-init : goal.loop-i-init
loop-i-init c = from_none c.args.n c.args.at c.args.text.now c.requires _ (ap (λ k. c.args.at + k) c.digit_count.ensures)

pub loop-i-preserved : goal.loop-i-preserved
loop-i-preserved c =
    from_more c.args.n c.args.at c.args.text.now c.requires c.loop-i.m c.loop-i.i c.last_digit.result c.loop-i.text
    (omega arith)
    c.last_digit.ensures
    c.loop-i.invariant
