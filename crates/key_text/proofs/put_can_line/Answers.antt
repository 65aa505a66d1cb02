-- The word, the value, which has at most ten bytes, and a line feed.
use mathlib.Core.Path.{ap}
use native.Mathlib.Omega.{arith}
use lib.ListN.{length}
use Rattle.signed.proofs.Laws.{number_of_bits}
use Rattle.texts.specs.Decimal.{number}
use Rattle.texts.proofs.Length.{number_length}
use Rattle.texts.proofs.Joined.{three_placed, placed_as}
use Rattle.key_text.specs.Text.{can_line}
use Rattle.key_text.proofs.put_can_line.Goals as goal

pub put_number-end-requires : goal.put_number-end-requires
put_number-end-requires c =
    let digits = number_length 8 600000000 c.args.value (omega arith) c.requires.1 in
    omega (arith, ap (λ x. length (number x)) (number_of_bits _ c.ranges.value))

pub put_bytes-requires : goal.put_bytes-requires
put_bytes-requires c =
    let digits = number_length 8 600000000 c.args.value (omega arith) c.requires.1 in
    omega (arith, ap (λ x. length (number x)) (number_of_bits _ c.ranges.value))

pub returns : goal.returns
unfolding can_line
returns c =
    let digits = number_length 8 600000000 c.args.value (omega arith) c.requires.1 in
    three_placed _ _ _ _ _ _ _ _ _ _ _ c.put_bytes-at.ensures (placed_as number _ _ _ _ (number_of_bits _ c.ranges.value) c.put_number-end.ensures)
    c.put_bytes.ensures (omega arith)
